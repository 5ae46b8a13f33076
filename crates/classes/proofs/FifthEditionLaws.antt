-- The fifth edition's classes: what the code tests first and what it leaves come to the grammar's classes. Assumes nothing.
use mathlib.Core.Path.{◌≡◌, refl, sym, ◌∙◌}
use mathlib.Core.Bool.{Bool, true, false, ◌||◌}
use Prim.Native.Nat.{ℕ, ◌<◌}
use Rattle.spec.specs.Basics.{within}
use Rattle.spec.specs.Grammar.FifthEdition.{name_start_chars, added_chars, name_start_char, name_char}
use Rattle.spec.specs.Grammar.Ranges.{in_table}
use Rattle.spec.proofs.Base.Tests.{or_elim, or_false_left}
use Rattle.spec.proofs.Characters.Ranges.{spans, spans_in}
use Rattle.classes.specs.Classes.{wide_ranges, low_starts}
use Rattle.classes.proofs.RangeLaws.{beyond}

module _ (c : ℕ) where
  -- what the tables have: nothing from 2^16 on
  pub starts_beyond : 0xFFFF < c → false ≡ in_table low_starts c
  starts_beyond h = sym (beyond low_starts c refl h)

  pub chars_beyond : 0xFFFF < c → false ≡ (in_table low_starts c || in_table added_chars c)
  chars_beyond h = rw (beyond low_starts c refl h, beyond added_chars c refl h)

  -- [4] NameStartChar: in one of the wide ranges, or, outside the last range, in the table of the others
  range_of_starts : (lo hi : ℕ) → spans name_start_chars lo hi ≡ true → within lo hi c ≡ true → name_start_char c ≡ true
  unfolding name_start_char
  range_of_starts lo hi e h = spans_in name_start_chars lo hi c e h

  wide_is : wide_ranges c ≡ true → name_start_char c ≡ true
  unfolding spans
  wide_is = or_elim (or_elim (range_of_starts 0x10000 0xEFFFF refl) (range_of_starts 0x3001 0xD7FF refl)) (range_of_starts 0x37F 0x1FFF refl)

  last_off : within 0x10000 0xEFFFF c ≡ false → in_table low_starts c ≡ name_start_char c
  unfolding name_start_char in_table
  last_off e = rw e

  -- w is whether it lies in a wide range
  module _ (w : Bool) (is : w ≡ wide_ranges c) where
    starts_wide : w ≡ true → name_start_char c ≡ true
    starts_wide y = wide_is (sym is ∙ y)

    starts_rest : w ≡ false → in_table low_starts c ≡ name_start_char c
    starts_rest n =
        last_off
        (or_false_left (within 0x10000 0xEFFFF c) (within 0x3001 0xD7FF c)
        (or_false_left (within 0x10000 0xEFFFF c || within 0x3001 0xD7FF c) (within 0x37F 0x1FFF c) (sym is ∙ n)))

    pub start_wide : w ≡ true → true ≡ name_start_char c
    start_wide y = sym (starts_wide y)

    pub start_rest : (r : Bool) → w ≡ false → r ≡ in_table low_starts c → r ≡ name_start_char c
    start_rest r n e = e ∙ starts_rest n

    -- [4a] NameChar
    pub char_wide : w ≡ true → true ≡ name_char c
    unfolding name_char
    char_wide y = rw (starts_wide y)

    pub char_rest : (r : Bool) → w ≡ false → r ≡ (in_table low_starts c || in_table added_chars c) → r ≡ name_char c
    unfolding name_char
    char_rest r n e = e ∙ (rw (starts_rest n))

-- what its functions search
pub ruleset fifth_edition_laws = (start_wide, start_rest, char_wide, char_rest)

-- Appendix B's classes: what the code tests first and what it leaves come to the grammar's classes. Assumes nothing.
use mathlib.Core.Path.{◌≡◌, refl, sym, ◌∙◌}
use mathlib.Core.Bool.{Bool, true, false, ◌||◌, or-true, or-false}
use Prim.Native.Nat.{ℕ, ◌<◌, ◌≤◌}
use native.Mathlib.Omega.{arith}
use lib.Dec.{eqb}
use Rattle.spec.specs.Basics.{within}
use Rattle.spec.specs.Grammar.AppendixB.{base_chars, ideographs, combining, digits, extenders, start_char, part_char}
use Rattle.spec.specs.Grammar.Ranges.{in_table}
use Rattle.spec.proofs.Base.Tests.{eqb_no, or_elim}
use Rattle.spec.proofs.Characters.Ranges.{spans, spans_in}
use Rattle.classes.specs.Classes.{letter, common_letter}
use Rattle.classes.proofs.RangeLaws.{beyond}

-- [84] Letter, test by test
module _ (c : ℕ) where
  range_of_letters : (lo hi : ℕ) → (spans base_chars lo hi || spans ideographs lo hi) ≡ true → within lo hi c ≡ true → letter c ≡ true
  unfolding letter
  range_of_letters lo hi e h =
      or_elim (λ f. rw (spans_in base_chars lo hi c f h)) (λ f. rw (spans_in ideographs lo hi c f h, or-true)) e

  common_is : common_letter c ≡ true → letter c ≡ true
  unfolding spans
  common_is =
      or_elim (or_elim (or_elim (or_elim (or_elim (or_elim
      (range_of_letters 0x4E00 0x9FA5 refl)
      (range_of_letters 0xAC00 0xD7A3 refl))
      (range_of_letters 0x38E 0x3A1 refl))
      (range_of_letters 0x3A3 0x3CE refl))
      (range_of_letters 0x40E 0x44F refl))
      (range_of_letters 0x3041 0x3094 refl))
      (range_of_letters 0x30A1 0x30FA refl)

  pub letter_common : (r : Bool) → r ≡ common_letter c → r ≡ true → true ≡ letter c
  letter_common r e y = sym (common_is (sym e ∙ y))

  pub letter_beyond : 0xFFFF < c → false ≡ letter c
  unfolding letter
  letter_beyond h = rw (beyond base_chars c refl h, beyond ideographs c refl h)

  pub marks_beyond : 0xFFFF < c → false ≡ (in_table digits c || in_table combining c || in_table extenders c)
  marks_beyond h = rw (beyond digits c refl h, beyond combining c refl h, beyond extenders c refl h)

-- [4] NameStartChar and NameChar from 128 on, test by test
module _ (c : ℕ) (high : 128 ≤ c) where
  pub no_sign : (b : ℕ) → b < 128 → eqb c b ≡ false
  no_sign b h = eqb_no c b (λ e. omega arith)

  pub start_high : letter c ≡ start_char c
  unfolding letter start_char
  start_high = rw (no_sign 0x3A (omega arith), no_sign 0x5F (omega arith))

  part_high : (letter c || in_table digits c || in_table combining c || in_table extenders c) ≡ part_char c
  unfolding part_char
  part_high = rw (← start_high, no_sign 0x2D (omega arith), no_sign 0x2E (omega arith), or-false)

  pub part_letter : (l : Bool) → l ≡ letter c → l ≡ true → true ≡ part_char c
  part_letter l e y = (rw (sym e ∙ y)) ∙ part_high

  pub part_mark : (l r : Bool) → l ≡ letter c → l ≡ false → r ≡ (in_table digits c || in_table combining c || in_table extenders c) → r ≡ part_char c
  part_mark l r e n f = f ∙ (rw (sym e ∙ n)) ∙ part_high

-- what its functions search
pub ruleset appendix_b_laws = (letter_common, part_letter, part_mark)

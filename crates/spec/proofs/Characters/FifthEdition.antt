-- The fifth edition's tables ascend, its classes have XML's ASCII part, and they hold Appendix B's, by computed tests. Assumes nothing.
use mathlib.Core.Bool.{Bool, true, ◌||◌, or-true}
use mathlib.Core.Path.{◌≡◌, refl}
use Prim.Native.Nat.{ℕ}
use Rattle.spec.specs.Basics.{within}
use Rattle.spec.specs.Grammar.AppendixB.{base_chars, ideographs, combining, digits, extenders, start_char, part_char}
use Rattle.spec.specs.Grammar.FifthEdition.{name_start_chars, added_chars, name_start_char, name_char, fifth_edition}
use Rattle.spec.specs.Grammar.Languages.{ascii}
use Rattle.spec.specs.Grammar.Names.{AsciiNames}
use Rattle.spec.specs.Grammar.Ranges.{in_table, ascending}
use Rattle.spec.proofs.Base.Tests.{each_of, or_elim}
use Rattle.spec.proofs.Characters.AsciiNames.{ascii_names}
use Rattle.spec.proofs.Characters.Ranges.{spans, spans_in, each_range, table_held, signs_held}

pub fifth_edition_ascii : AsciiNames fifth_edition
unfolding in_table name_start_char name_char
fifth_edition_ascii = ascii_names fifth_edition refl

-- each table's ranges ascend and do not overlap: the test that Appendix B's pass
pub fifth_edition_ascends : (ascending name_start_chars ≡ true) × (ascending added_chars ≡ true)
unfolding ascending
fifth_edition_ascends = (refl, refl)

-- one range of NameStartChar, and one of NameChar, reaches from lo to hi
abbrev starts_span : ℕ → ℕ → Bool
starts_span = spans name_start_chars

abbrev parts_span : ℕ → ℕ → Bool
parts_span lo hi = spans name_start_chars lo hi || spans added_chars lo hi

starts_in : (lo hi c : ℕ) → starts_span lo hi ≡ true → within lo hi c ≡ true → name_start_char c ≡ true
unfolding name_start_char
starts_in = spans_in name_start_chars

parts_in : (lo hi c : ℕ) → parts_span lo hi ≡ true → within lo hi c ≡ true → name_char c ≡ true
unfolding name_char
parts_in lo hi c e h = or_elim (λ f. rw (starts_in lo hi c f h)) (λ f. rw (spans_in added_chars lo hi c f h, or-true)) e

-- Appendix B's tables against the fifth edition's, one computed test: every range of its letters lies within a range of NameStartChar, every
-- other range within one of NameChar
held : (each_of (λ b. starts_span b b) (ascii ":_") ≡ true) × (each_range starts_span base_chars ≡ true) × (each_range starts_span ideographs ≡ true)
    × (each_of (λ b. parts_span b b) (ascii "-.") ≡ true) × (each_range parts_span digits ≡ true) × (each_range parts_span combining ≡ true) × (each_range parts_span extenders ≡ true)
unfolding spans each_range
held = (refl, refl, refl, refl, refl, refl, refl)

-- so every character that begins a name under Appendix B begins one here, and so for those that go on with it
pub starts_held : (c : ℕ) → start_char c ≡ true → name_start_char c ≡ true
unfolding start_char
starts_held c =
    let (signs, letters, han, _, _, _, _) = held in
    or_elim (or_elim (signs_held starts_span name_start_char starts_in ":_" signs c) (table_held starts_span name_start_char starts_in base_chars letters c))
    (table_held starts_span name_start_char starts_in ideographs han c)

pub parts_held : (c : ℕ) → part_char c ≡ true → name_char c ≡ true
unfolding part_char
parts_held c =
    let (_, _, _, signs, numerals, marks, extensions) = held in
    or_elim (or_elim (or_elim (or_elim
    (λ e. started c (starts_held c e))
    (signs_held parts_span name_char parts_in "-." signs c))
    (table_held parts_span name_char parts_in digits numerals c))
    (table_held parts_span name_char parts_in combining marks c))
    (table_held parts_span name_char parts_in extenders extensions c)
  where
    started : (c : ℕ) → name_start_char c ≡ true → name_char c ≡ true
    started c e = unfold name_char in (rw e)

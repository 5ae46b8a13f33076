-- Appendix B's tables ascend, and its classes have XML's ASCII part, by computed tests. Assumes nothing.
use mathlib.Core.Bool.{true}
use mathlib.Core.Path.{◌≡◌, refl}
use Rattle.spec.specs.Grammar.AppendixB.{base_chars, ideographs, combining, digits, extenders, start_char, part_char, appendix_b}
use Rattle.spec.specs.Grammar.Names.{AsciiNames}
use Rattle.spec.specs.Grammar.Ranges.{in_table, ascending}
use Rattle.spec.proofs.Characters.AsciiNames.{ascii_names}

pub appendix_b_ascii : AsciiNames appendix_b
unfolding in_table start_char part_char
appendix_b_ascii = ascii_names appendix_b refl

-- each table's ranges ascend and do not overlap: one computed test
pub tables_ascend : (ascending base_chars ≡ true) × (ascending ideographs ≡ true) × (ascending combining ≡ true) × (ascending digits ≡ true) × (ascending extenders ≡ true)
unfolding ascending
tables_ascend = (refl, refl, refl, refl, refl)

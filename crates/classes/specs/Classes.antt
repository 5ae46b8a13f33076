-- The name classes that a reader uses, and the parts of them that the code tests first. Assumes nothing.
use Rattle.std.specs.Prelude.{Bool, ◌||◌, List, [], ◌∷◌, ℕ, eqb, take}
use Rattle.spec.specs.Basics.{within}
use Rattle.spec.specs.Grammar.Names.{Dialect}
use Rattle.spec.specs.Grammar.AppendixB.{appendix_b, base_chars, ideographs}
use Rattle.spec.specs.Grammar.FifthEdition.{name_start_chars, fifth_edition}
use Rattle.spec.specs.Grammar.Ranges.{in_table}
use Rattle.classes.specs.declared.Names.{Names}
use Rattle.classes.specs.declared.Names.TheVariants.{AppendixB, FifthEdition}

unfoldable pub dialect : Names → Dialect
dialect AppendixB = appendix_b
dialect FifthEdition = fifth_edition

-- the ends of the ranges of a table, first and last of each in turn
abbrev pub ends : List (ℕ × ℕ) → List ℕ
ends [] = []
ends ((first, last) ∷ rest) = first ∷ last ∷ ends rest

-- [84] Letter ::= BaseChar | Ideographic
unfoldable pub letter : ℕ → Bool
letter c = in_table base_chars c || in_table ideographs c

-- letters of Han, Hangul, Greek, Cyrillic and the two kana
abbrev pub common_letter : ℕ → Bool
common_letter c =
    within 0x4E00 0x9FA5 c
    || within 0xAC00 0xD7A3 c
    || within 0x38E 0x3A1 c
    || within 0x3A3 0x3CE c
    || within 0x40E 0x44F c
    || within 0x3041 0x3094 c
    || within 0x30A1 0x30FA c

-- the fifth edition: the two widest ranges of NameStartChar and its last, which begins at 2^16; and all of its ranges but that last
abbrev pub wide_ranges : ℕ → Bool
wide_ranges c = within 0x10000 0xEFFFF c || within 0x3001 0xD7FF c || within 0x37F 0x1FFF c

abbrev pub low_starts : List ℕ
low_starts = take 30 name_start_chars

-- the characters below 128 that begin a name: ':', '_', 'A' to 'Z' and 'a' to 'z'
abbrev pub ascii_start : ℕ → Bool
ascii_start c = eqb c 0x3A || eqb c 0x5F || within 0x41 0x5A c || within 0x61 0x7A c

-- and that go on with it: '-', '.', '0' to '9', and these
abbrev pub ascii_part : ℕ → Bool
ascii_part c = within 0x2D 0x2E c || within 0x30 0x39 c || eqb c 0x3A || eqb c 0x5F || within 0x41 0x5A c || within 0x61 0x7A c

-- The name classes of XML 1.0's fifth edition, section 2.3: productions 4 and 4a, each a table of range ends in the production's order, which
-- ascends. No departure. Assumes nothing.
use Rattle.std.specs.Prelude.{Bool, ◌||◌, List, [], ◌∷◌, ℕ}
use Rattle.spec.specs.Grammar.Names.{Dialect}
use Rattle.spec.specs.Grammar.Ranges.{in_table}

-- the ranges of [4] NameStartChar ::= ":" | [A-Z] | "_" | [a-z] | [#xC0-#xD6] | [#xD8-#xF6] | [#xF8-#x2FF] | [#x370-#x37D] | [#x37F-#x1FFF]
--   | [#x200C-#x200D] | [#x2070-#x218F] | [#x2C00-#x2FEF] | [#x3001-#xD7FF] | [#xF900-#xFDCF] | [#xFDF0-#xFFFD] | [#x10000-#xEFFFF]
abbrev pub name_start_chars : List ℕ
name_start_chars =
    0x3A ∷ 0x3A ∷ 0x41 ∷ 0x5A ∷ 0x5F ∷ 0x5F ∷ 0x61 ∷ 0x7A ∷ 0xC0 ∷ 0xD6 ∷ 0xD8 ∷ 0xF6 ∷ 0xF8 ∷ 0x2FF ∷ 0x370 ∷ 0x37D ∷ 0x37F ∷ 0x1FFF ∷
    0x200C ∷ 0x200D ∷ 0x2070 ∷ 0x218F ∷ 0x2C00 ∷ 0x2FEF ∷ 0x3001 ∷ 0xD7FF ∷ 0xF900 ∷ 0xFDCF ∷ 0xFDF0 ∷ 0xFFFD ∷ 0x10000 ∷ 0xEFFFF ∷ []

-- the ranges that [4a] adds: NameChar ::= NameStartChar | "-" | "." | [0-9] | #xB7 | [#x0300-#x036F] | [#x203F-#x2040]
abbrev pub added_chars : List ℕ
added_chars =
    0x2D ∷ 0x2D ∷ 0x2E ∷ 0x2E ∷ 0x30 ∷ 0x39 ∷ 0xB7 ∷ 0xB7 ∷ 0x300 ∷ 0x36F ∷ 0x203F ∷ 0x2040 ∷ []

-- [4] NameStartChar
unfoldable pub name_start_char : ℕ → Bool
name_start_char c = in_table name_start_chars c

-- [4a] NameChar
unfoldable pub name_char : ℕ → Bool
name_char c = name_start_char c || in_table added_chars c

-- with at most 64 open groups
abbrev pub fifth_edition : Dialect
fifth_edition = record { start = name_start_char; part = name_char; groups = 64 }

-- Bytes that a check has to look at; the others it takes as they stand. Assumes nothing.
use Rattle.std.specs.Prelude.{Bool, ◌&&◌, ◌||◌, ℕ, eqb, ltb}
use Rattle.spec.specs.Grammar.Languages.{none_of}

-- CHAR_SUSPECT: a control but tab, line feed and carriage return, or the byte that U+FFFE and U+FFFF begin with
unfoldable pub suspect : ℕ → Bool
suspect b = ltb b 0x20 && none_of "\t\n\r" b || eqb b 0xEF

-- TEXT_SPECIAL and ATTR_SPECIAL: such a byte, '&', or the mark of the check: where "]]>" begins, or '<'
unfoldable pub special : ℕ → ℕ → Bool
special mark b = suspect b || eqb b 0x26 || eqb b mark

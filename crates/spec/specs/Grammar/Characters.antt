-- Characters and white space: W3C XML 1.0, sections 2.2 and 2.3. Assumes nothing.
use Rattle.std.specs.Prelude.{Bool, ◌||◌, ℕ}
use Rattle.spec.specs.Basics.{within}
use Rattle.spec.specs.Grammar.Languages.{Lang, Ch, Star, Plus, any, one_of}

-- [2] Char ::= #x9 | #xA | #xD | [#x20-#xD7FF] | [#xE000-#xFFFD] | [#x10000-#x10FFFF]
unfoldable pub xml_char : ℕ → Bool
xml_char c = one_of "\t\n\r" c || within 0x20 0xD7FF c || within 0xE000 0xFFFD c || within 0x10000 0x10FFFF c

-- Char*: what check_chars accepts
unfoldable pub Chars : Lang
Chars = Star (Ch xml_char)

-- any characters; departure: production 2 is not tested where this stands for Char*
unfoldable pub Text : Lang
Text = Star (Ch any)

-- [A-Za-z]
abbrev pub latin_letter : ℕ → Bool
latin_letter c = within 0x41 0x5A c || within 0x61 0x7A c

-- [3] S ::= (#x20 | #x9 | #xD | #xA)+
abbrev pub space : ℕ → Bool
space = one_of " \t\r\n"

unfoldable pub S : Lang
S = Plus (Ch space)

unfoldable pub S? : Lang
S? = Star (Ch space)

-- Character references, and text that holds them: W3C XML 1.0, sections 2.4 and 4.1. Assumes nothing.
use Rattle.std.specs.Prelude.{Bool, ◌&&◌, ◌||◌, List, [], ◌∷◌, ℕ, ◌+◌, ◌-◌, ◌*◌, T}
use Rattle.spec.specs.Basics.{pick, within}
use Rattle.spec.specs.Grammar.Languages.{Lang, lit, Ch, ◌·◌, ◌∣◌, ◌∖◌, ◌&◌, Star, Plus, any, none_of}
use Rattle.spec.specs.Grammar.Characters.{xml_char, Text}

-- [0-9] and [0-9a-fA-F]
abbrev pub digit : ℕ → Bool
digit = within 0x30 0x39

abbrev pub hex_digit : ℕ → Bool
hex_digit c = digit c || within 0x41 0x46 c || within 0x61 0x66 c

-- the number that digits stand for in a base, after those that stand for n
unfoldable pub digit_value : ℕ → ℕ
digit_value c = pick (digit c) (c - 0x30) (pick (within 0x41 0x46 c) (c - 0x37) (c - 0x57))

unfoldable pub value_on : ℕ → ℕ → List ℕ → ℕ
value_on base n [] = n
value_on base n (d ∷ ds) = value_on base (n * base + digit_value d) ds

-- [66], well-formedness constraint "Legal Character": the number is that of a Char
unfoldable pub denotes_char : ℕ → Lang
denotes_char base w = T (xml_char (value_on base 0 w))

-- [66] CharRef ::= '&#' [0-9]+ ';' | '&#x' [0-9a-fA-F]+ ';'
unfoldable pub CharRef : Lang
CharRef =
    (lit "&#" · (Plus (Ch digit) & denotes_char 10) · lit ";")
    ∣ (lit "&#x" · (Plus (Ch hex_digit) & denotes_char 16) · lit ";")

-- departure: '&' without '#' goes unchecked, so what may hold references is text of a class without "&#", around references
unfoldable pub Unreferring : (ℕ → Bool) → Lang
Unreferring p = Star (Ch p) ∖ (Text · lit "&#" · Text)

unfoldable pub Referring : (ℕ → Bool) → Lang
Referring p = Unreferring p · Star (CharRef · Unreferring p)

-- what check_char_refs accepts; departure: production 2 is not tested here
unfoldable pub Referred : Lang
Referred = Referring any

-- [14] CharData ::= [^<&]* - ([^<&]* ']]>' [^<&]*), with the references that section 3.1 puts beside it [43];
-- departures: '<', and '&' without '#', go unchecked
unfoldable pub CharData : Lang
CharData = Referring xml_char ∖ (Text · lit "]]>" · Text)

-- [10] AttValue between its quotes; departures: either mark may stand in it, and '&' without '#' goes unchecked
unfoldable pub AttText : Lang
AttText = Referring (λ c. xml_char c && none_of "<" c)

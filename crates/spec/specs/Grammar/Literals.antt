-- Literals and external identifiers: W3C XML 1.0, sections 2.3, 4.2.2 and 4.7. Assumes nothing.
use Rattle.std.specs.Prelude.{Bool, ◌&&◌, ◌||◌, ℕ}
use Rattle.spec.specs.Basics.{within}
use Rattle.spec.specs.Grammar.Languages.{Lang, lit, Ch, ◌·◌, ◌∣◌, Star, one_of, none_of}
use Rattle.spec.specs.Grammar.Characters.{S}
use Rattle.spec.specs.Grammar.References.{digit, Referring}

-- a literal in either quote, with what may stand in each
abbrev pub Quoted : Lang → Lang → Lang
Quoted in_double in_single = (lit "\"" · in_double · lit "\"") ∣ (lit "'" · in_single · lit "'")

-- [9] EntityValue ::= '"' ([^%&"] | PEReference | Reference)* '"' | "'" ([^%&'] | PEReference | Reference)* "'";
-- departures: '%' alone, and '&' without '#', are free; production 2 is not tested
unfoldable pub EntityValue : Lang
EntityValue = Quoted (Referring (none_of "\"")) (Referring (none_of "'"))

-- [10] AttValue ::= '"' ([^<&"] | Reference)* '"' | "'" ([^<&'] | Reference)* "'";
-- departures: '&' without '#' is free; production 2 is not tested
unfoldable pub AttValue : Lang
AttValue = Quoted (Referring (none_of "<\"")) (Referring (none_of "<'"))

-- [11] SystemLiteral ::= ('"' [^"]* '"') | ("'" [^']* "'"); departure: production 2 is not tested
unfoldable pub SystemLiteral : Lang
SystemLiteral = Quoted (Star (Ch (none_of "\""))) (Star (Ch (none_of "'")))

-- [13] PubidChar ::= #x20 | #xD | #xA | [a-zA-Z0-9] | [-'()+,./:=?;!*#@$_%]
unfoldable pub pubid_char : ℕ → Bool
pubid_char c = one_of " \r\n-'()+,./:=?;!*#@$_%" c || digit c || within 0x41 0x5A c || within 0x61 0x7A c

-- [12] PubidLiteral ::= '"' PubidChar* '"' | "'" (PubidChar - "'")* "'"
unfoldable pub PubidLiteral : Lang
PubidLiteral = Quoted (Star (Ch pubid_char)) (Star (Ch (λ c. pubid_char c && none_of "'" c)))

-- [75] ExternalID ::= 'SYSTEM' S SystemLiteral | 'PUBLIC' S PubidLiteral S SystemLiteral
unfoldable pub ExternalID : Lang
ExternalID = (lit "SYSTEM" · S · SystemLiteral) ∣ (lit "PUBLIC" · S · PubidLiteral · S · SystemLiteral)

-- [83] PublicID ::= 'PUBLIC' S PubidLiteral
unfoldable pub PublicID : Lang
PublicID = lit "PUBLIC" · S · PubidLiteral

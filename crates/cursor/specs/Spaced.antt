-- What ExternalID and NotationDecl read: a literal after white space, and an identifier. Assumes nothing.
use Rattle.spec.specs.Reading.Refusals.{unexpected}
use Rattle.spec.specs.Reading.Readers.{Reader, ◌>>◌, nothing, on, word}
use Rattle.spec.specs.Reading.Dtd.{require_s, parse_quoted, check_pubid}

-- S SystemLiteral
abbrev pub spaced_literal : Reader
spaced_literal = require_s >> parse_quoted nothing

-- [75] ExternalID and [83] PublicID: SYSTEM and a system literal, or PUBLIC and a public one, and then what r reads
abbrev pub id_then : Reader → Reader
id_then r =
    on "SYSTEM" (word "SYSTEM" unexpected >> spaced_literal)
    (word "PUBLIC" unexpected >> require_s >> parse_quoted check_pubid >> r)

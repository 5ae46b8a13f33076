-- The readers of declarations that the code names apart: the choice among the four kinds. Assumes nothing.
use Rattle.std.specs.Prelude.{Bool}
use Rattle.spec.specs.Grammar.Names.{Dialect}
use Rattle.spec.specs.Reading.Refusals.{unexpected, too_deep}
use Rattle.spec.specs.Reading.Readers.{Reader, ◌>>◌, on, word}
use Rattle.spec.specs.Reading.Dtd.{parse_element_decl, parse_attlist_decl, parse_entity_decl, parse_notation_decl, finish_decl}

-- the last two choices of parse_markup_decl, and the last four
unfoldable pub entity_or_notation : Dialect → Bool → Reader
entity_or_notation D pe_used =
    on "<!ENTITY" (word "<!ENTITY" unexpected >> finish_decl D pe_used (parse_entity_decl D))
    (word "<!NOTATION" unexpected >> finish_decl D pe_used (parse_notation_decl D))

unfoldable pub declaration : Dialect → Bool → Reader
declaration D pe_used =
    on "<!ELEMENT" (word "<!ELEMENT" unexpected >> finish_decl D pe_used (parse_element_decl D too_deep))
    (on "<!ATTLIST" (word "<!ATTLIST" unexpected >> finish_decl D pe_used (parse_attlist_decl D))
    (entity_or_notation D pe_used))

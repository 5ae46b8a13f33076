-- Pieces of the declarations' readers, and their tests, that functions of their own read and make. Assumes nothing.
use Rattle.std.specs.Prelude.{Bool, ◌&&◌, ◌||◌, List, ℕ, ltb, length, drop}
use Rattle.spec.specs.Grammar.Characters.{space}
use Rattle.spec.specs.Grammar.Languages.{ascii}
use Rattle.spec.specs.Grammar.Names.{Dialect}
use Rattle.spec.specs.Reading.Refusals.{unexpected}
use Rattle.spec.specs.Reading.Readers.{Reader, ◌>>◌, nothing, starts, on, word, run, while}
use Rattle.spec.specs.Reading.Wellformed.{name, check_char_refs}
use Rattle.spec.specs.Reading.Dtd.{skip_s, require_s, parse_quoted, check_att_value, parse_external_id, bar_list, parse_att_def, on_quote, ncname, ndata, second_literal}
use Rattle.cursor.specs.Spaced.{id_then}

-- more than white space is left
abbrev pub more_left : List ℕ → Bool
more_left w = ltb (run space w) (length w)

-- a quote mark is next; the word NDATA is next
abbrev pub quote_next : List ℕ → Bool
quote_next w = starts (ascii "\"") w || starts (ascii "'") w

abbrev pub ndata_next : List ℕ → Bool
ndata_next = starts (ascii "NDATA")

-- white space is next, and after it what the test asks for
abbrev pub spaced : (List ℕ → Bool) → List ℕ → Bool
spaced t w = ltb 0 (run space w) && t (drop (run space w) w)

-- an attribute's type after NOTATION; what may stand before a default; the definitions
abbrev pub notation_names : Dialect → Reader
notation_names D = require_s >> bar_list (name D)

abbrev pub fixed : Reader
fixed = on "#FIXED" (word "#FIXED" unexpected >> require_s) nothing

abbrev pub default_value : Reader
default_value = fixed >> parse_quoted check_att_value

abbrev pub att_defs : Dialect → Reader
att_defs D = while more_left (parse_att_def D) >> skip_s

-- NDATA and the name of a notation
abbrev pub ndata_decl : Dialect → Reader
ndata_decl D = require_s >> word "NDATA" unexpected >> require_s >> name D

-- what a parameter entity and a general one are declared as, from the definition on, from the name on, and whichever it is
abbrev pub pe_def : Reader
pe_def = on_quote (parse_quoted check_char_refs) parse_external_id

abbrev pub entity_def : Dialect → Reader
entity_def D = on_quote (parse_quoted check_char_refs) (parse_external_id >> ndata D)

abbrev pub pe_decl : Dialect → Reader
pe_decl D = require_s >> ncname D >> require_s >> pe_def

abbrev pub ge_decl : Dialect → Reader
ge_decl D = ncname D >> require_s >> entity_def D

abbrev pub entity : Dialect → Reader
entity D = on "%" (word "%" unexpected >> pe_decl D) (ge_decl D)

-- a notation's identifier, [75] ExternalID or [83] PublicID
abbrev pub notation_id : Reader
notation_id = id_then second_literal

-- dtd.rs, function by function: the order in which a DOCTYPE is read. Assumes nothing.
use Rattle.std.specs.Prelude.{Bool, true, false, ◌&&◌, ◌||◌, List, [], ◌∷◌, ℕ, zero, suc, ◌+◌, eqb, ltb, length, take, drop}
use Prim.Native.String.{String}
use Rattle.spec.specs.Basics.{pick}
use Rattle.spec.specs.Grammar.Languages.{ascii, one_of, none_of}
use Rattle.spec.specs.Grammar.Characters.{space}
use Rattle.spec.specs.Grammar.Literals.{pubid_char}
use Rattle.spec.specs.Grammar.Names.{Dialect}
use Rattle.spec.specs.Reading.Refusals.{Refusal, no_space, bad_name, has_colon, no_literal, unterminated, unexpected, trailing, bad_pubid, reserved_target, double_hyphen, bad_connector, less_than, too_deep}
use Rattle.spec.specs.Reading.Places.{Place, at, nowhere, outside}
use Rattle.spec.specs.Reading.Readers.{Result, ok, err, Reader, on_ok, ◌>>◌, nothing, refuse, at_end, starts, choose, on, word, run, while, required, begins, char, contains, before, refuse_at, up_to}
use Rattle.spec.specs.Reading.Wellformed.{check_char_refs, parts, name, check_name}

-- skip_s, require_s
unfoldable pub skip_s : Reader
skip_s w = ok (run space w)

unfoldable pub require_s : Reader
require_s = required no_space skip_s

-- parse_quoted; what stands between the quotes goes to a check of its own
unfoldable pub parse_quoted : (List ℕ → Result) → Reader
parse_quoted check =
    on "\"" (word "\"" no_literal >> up_to "\"" unterminated check) (word "'" no_literal >> up_to "'" unterminated check)

-- check_pubid
unfoldable pub check_pubid : List ℕ → Result
check_pubid w = pick (eqb (run pubid_char w) (length w)) (ok 0) (err bad_pubid (run pubid_char w))

-- parse_external_id
unfoldable pub parse_external_id : Reader
parse_external_id =
    on "SYSTEM" (word "SYSTEM" unexpected >> require_s >> parse_quoted nothing)
    (word "PUBLIC" unexpected >> require_s >> parse_quoted check_pubid >> require_s >> parse_quoted nothing)

-- parse_att_value, what it does with the text between the quotes
unfoldable pub check_att_value : List ℕ → Result
check_att_value = choose (contains (ascii "<")) (refuse_at "<" less_than) check_char_refs

-- parse_comment
unfoldable pub check_comment : List ℕ → Result
check_comment = choose (contains (ascii "--")) (refuse_at "--" double_hyphen) nothing

unfoldable pub parse_comment : Reader
parse_comment = word "<!--" unexpected >> up_to "-->" unterminated check_comment

-- as many bytes as stand before a place, or refusal n where there is none
abbrev pub bytes_before : Refusal → Place → Result
bytes_before n (at k) = ok k
bytes_before n nowhere = err n 0

-- take_decl_body: the bytes before the first '>' outside quotes
unfoldable pub take_decl_body : Reader
take_decl_body w = bytes_before unterminated (outside (one_of ">") 0 w)

-- the target "xml" in any case
unfoldable pub reserved : List ℕ → Bool
reserved (x ∷ m ∷ l ∷ []) = one_of "Xx" x && one_of "Mm" m && one_of "Ll" l
reserved [] = false
reserved (x ∷ []) = false
reserved (x ∷ m ∷ []) = false
reserved (x ∷ m ∷ l ∷ y ∷ ys) = false

-- a sign, what r reads, and white space around it
unfoldable pub after : String → Reader → Reader
after sep r = word sep unexpected >> skip_s >> r >> skip_s

-- '|' or ',' is next
unfoldable pub connector : List ℕ → Bool
connector w = starts (ascii "|") w || starts (ascii ",") w

-- the loop of parse_group: the first connector again and again, each with a particle; another one is refused
unfoldable pub connected : String → Reader → Reader
connected sep cp = after sep cp >> while connector (on sep (after sep cp) (refuse bad_connector))

-- parse_group, over the reader of a particle
unfoldable pub group_of : Reader → Reader
group_of cp =
    word "(" unexpected >> skip_s >> cp >> skip_s
    >> on "|" (connected "|" cp) (on "," (connected "," cp) nothing)
    >> word ")" unexpected

-- an optional '?', '*' or '+'
unfoldable pub occurs : Reader
occurs = choose (begins (one_of "?*+")) (char (one_of "?*+") unexpected) nothing

-- parse_name_group, parse_enumeration: over the reader of a name or a token
unfoldable pub bar_list : Reader → Reader
bar_list r = word "(" unexpected >> skip_s >> r >> skip_s >> while (starts (ascii "|")) (after "|" r) >> word ")" unexpected

-- TOKENIZED: the eight keywords in the Rust's order, each tried in turn
abbrev pub tokenized : List String
tokenized = "CDATA" ∷ "IDREFS" ∷ "IDREF" ∷ "ID" ∷ "ENTITY" ∷ "ENTITIES" ∷ "NMTOKENS" ∷ "NMTOKEN" ∷ []

unfoldable pub word_among : List String → Reader → Reader
word_among [] q = q
word_among (s ∷ ss) q = on s (word s unexpected) (word_among ss q)

-- parse_default_decl
unfoldable pub parse_default_decl : Reader
parse_default_decl =
    on "#REQUIRED" (word "#REQUIRED" unexpected) (on "#IMPLIED" (word "#IMPLIED" unexpected)
    (on "#FIXED" (word "#FIXED" unexpected >> require_s) nothing >> parse_quoted check_att_value))

-- r where a quote mark is next
unfoldable pub on_quote : Reader → Reader → Reader
on_quote r q = on "\"" r (on "'" r q)

-- parse_notation_decl: the system identifier after a public one, if white space and a quote mark are next
unfoldable pub second_literal : Reader
second_literal =
    choose (λ w. ltb 0 (run space w) && (starts (ascii "\"") (drop (run space w) w) || starts (ascii "'") (drop (run space w) w)))
    (require_s >> parse_quoted nothing) nothing

module _ (D : Dialect) where
  -- parse_nmtoken
  unfoldable pub nmtoken : Reader
  nmtoken = required bad_name (parts D)

  -- parse_name and reject_colon
  unfoldable pub ncname : Reader
  ncname w = on_ok (name D w) (λ k. pick (contains (ascii ":") (take k w)) (err has_colon (before (ascii ":") (take k w))) (ok k))

  -- parse_pe_reference
  unfoldable pub parse_pe_reference : Reader
  parse_pe_reference = word "%" unexpected >> name D >> word ";" unexpected

  -- has_pe_reference
  unfoldable pub has_pe_reference : List ℕ → Bool
  has_pe_reference [] = false
  has_pe_reference (b ∷ bs) = (one_of "%" b && begins D.start bs) || has_pe_reference bs

  -- parse_pi: the target is what stands before the first white space
  unfoldable pub check_target : List ℕ → Result
  check_target t = on_ok (check_name D t) (λ _. pick (contains (ascii ":") t) (err has_colon (before (ascii ":") t)) (pick (reserved t) (err reserved_target 0) (ok 0)))

  unfoldable pub check_pi : List ℕ → Result
  check_pi w = check_target (take (run (none_of " \t\r\n") w) w)

  unfoldable pub parse_pi : Reader
  parse_pi = word "<?" unexpected >> up_to "?>" unterminated check_pi

  -- parse_mixed: '|' and a name again and again, then ')' or ")*"
  unfoldable pub parse_mixed : Reader
  parse_mixed =
      word "(" unexpected >> skip_s >> word "#PCDATA" unexpected >> skip_s
      >> on "|" (after "|" (name D) >> while (starts (ascii "|")) (after "|" (name D)) >> word ")" unexpected >> word "*" bad_connector)
      (word ")" unexpected >> on "*" (word "*" unexpected) nothing)

  -- parse_cp, over the reader of a group
  unfoldable pub cp_of : Reader → Reader
  cp_of group = on "(" group (name D) >> occurs

  -- parse_att_type
  unfoldable pub parse_att_type : Reader
  parse_att_type =
      on "NOTATION" (word "NOTATION" unexpected >> require_s >> bar_list (name D))
      (word_among tokenized (on "(" (bar_list nmtoken) (refuse unexpected)))

  -- parse_att_def, with the white space before it
  unfoldable pub parse_att_def : Reader
  parse_att_def = require_s >> name D >> require_s >> parse_att_type >> require_s >> parse_default_decl

  -- parse_attlist_decl: definitions until only white space is left
  unfoldable pub parse_attlist_decl : Reader
  parse_attlist_decl = require_s >> name D >> while (λ w. ltb (run space w) (length w)) parse_att_def >> skip_s

  -- parse_entity_decl
  unfoldable pub ndata : Reader
  ndata =
      choose (λ w. ltb 0 (run space w) && starts (ascii "NDATA") (drop (run space w) w))
      (require_s >> word "NDATA" unexpected >> require_s >> name D) nothing

  unfoldable pub parse_entity_decl : Reader
  parse_entity_decl =
      require_s
      >> on "%" (word "%" unexpected >> require_s >> ncname >> require_s >> on_quote (parse_quoted check_char_refs) parse_external_id)
      (ncname >> require_s >> on_quote (parse_quoted check_char_refs) (parse_external_id >> ndata))
      >> skip_s >> at_end trailing

  -- parse_notation_decl
  unfoldable pub parse_notation_decl : Reader
  parse_notation_decl =
      require_s >> ncname >> require_s
      >> on "SYSTEM" (word "SYSTEM" unexpected >> require_s >> parse_quoted nothing)
      (word "PUBLIC" unexpected >> require_s >> parse_quoted check_pubid >> second_literal)
      >> skip_s >> at_end trailing

  -- finish_decl: the body is read as a text of its own, unless it holds a parameter-entity reference or one came before
  unfoldable pub finish_decl : Bool → Reader → Reader
  finish_decl pe_used body w =
      on_ok (take_decl_body w)
      (λ k. on_ok (pick (pe_used || has_pe_reference (take k w)) nothing body (take k w)) (λ _. ok (k + 1)))

-- What one group too many is refused with is left open here, so that a theorem can say when it is met: exactly when, whatever it is, it is
-- the answer (`groups_exactly`). Everywhere else it is 20.
module _ (D : Dialect) (beyond : Refusal) where
  -- parse_group and parse_cp, where so many groups may yet be opened
  unfoldable pub parse_group : ℕ → Reader
  parse_group zero = refuse beyond
  parse_group (suc height) = group_of (cp_of D (parse_group height))

  -- parse_children, which parse_contentspec calls at a '('
  unfoldable pub parse_children : Reader
  parse_children = parse_group D.groups >> occurs

  -- parse_contentspec
  unfoldable pub parse_contentspec : Reader
  parse_contentspec =
      on "EMPTY" (word "EMPTY" unexpected) (on "ANY" (word "ANY" unexpected)
      (choose (λ w. starts (ascii "(") w && starts (ascii "#PCDATA") (drop (1 + run space (drop 1 w)) w)) (parse_mixed D)
      (on "(" parse_children (refuse unexpected))))

  -- parse_element_decl
  unfoldable pub parse_element_decl : Reader
  parse_element_decl = require_s >> name D >> require_s >> parse_contentspec >> skip_s >> at_end trailing

  -- parse_markup_decl
  unfoldable pub parse_markup_decl : Bool → Reader
  parse_markup_decl pe_used =
      on "<?" (parse_pi D) (on "<!--" parse_comment (on "<![" (refuse unexpected)
      (on "<!ELEMENT" (word "<!ELEMENT" unexpected >> finish_decl D pe_used parse_element_decl)
      (on "<!ATTLIST" (word "<!ATTLIST" unexpected >> finish_decl D pe_used (parse_attlist_decl D))
      (on "<!ENTITY" (word "<!ENTITY" unexpected >> finish_decl D pe_used (parse_entity_decl D))
      (word "<!NOTATION" unexpected >> finish_decl D pe_used (parse_notation_decl D)))))))

  -- parse_internal_subset; each turn takes a byte or more, so the fuel lasts
  unfoldable pub subset_fuel : ℕ → Bool → Reader
  subset_fuel zero pe_used w = err unterminated 0
  subset_fuel (suc d) pe_used w =
      (skip_s
      >> on "]" (word "]" unexpected)
      (on "%" (parse_pe_reference D >> λ x. subset_fuel d true x)
      (on "<" (parse_markup_decl pe_used >> λ x. subset_fuel d pe_used x)
      (at_end unexpected >> refuse unterminated)))) w

  unfoldable pub parse_internal_subset : Reader
  parse_internal_subset w = subset_fuel (suc (length w)) false w

  -- check_doctype, up to what ends it: the text's end in check_doctype, the '>' in a document
  unfoldable pub doctype_before : Reader → Reader
  doctype_before end =
      skip_s >> name D >> skip_s
      >> choose (λ w. starts (ascii "SYSTEM") w || starts (ascii "PUBLIC") w) (parse_external_id >> skip_s) nothing
      >> on "[" (word "[" unexpected >> parse_internal_subset >> skip_s) nothing
      >> end

unfoldable pub check_doctype : Dialect → Reader
check_doctype D = doctype_before D too_deep (at_end trailing)

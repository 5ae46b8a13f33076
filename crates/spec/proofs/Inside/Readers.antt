-- The readers of the checks, one after the other: each stops at a place of the text. Assumes nothing.
use mathlib.Core.Bool.{Bool, true, false, ◌||◌, not}
use mathlib.Core.List.{List, [], ◌∷◌}
use mathlib.Core.Path.{◌≡◌, refl}
use Prim.Native.Nat.{ℕ, zero, suc, ◌+◌, ◌≤◌, ◌<◌}
use Prim.Native.String.{String}
use native.Mathlib.Omega.{arith}
use lib.Dec.{eqb}
use lib.ListN.{length, take, drop, length-drop}
use Rattle.spec.specs.Basics.{pick}
use Rattle.spec.specs.Grammar.Characters.{space, xml_char}
use Rattle.spec.specs.Grammar.Languages.{ascii, one_of, none_of}
use Rattle.spec.specs.Grammar.Literals.{pubid_char}
use Rattle.spec.specs.Grammar.Names.{Dialect}
use Rattle.spec.specs.Grammar.References.{digit, hex_digit, value_on}
use Rattle.spec.specs.Reading.Checks
use Rattle.spec.specs.Reading.Dtd
use Rattle.spec.specs.Reading.Entries.{one_entry}
use Rattle.spec.specs.Reading.Places.{Place, at, nowhere, outside}
use Rattle.spec.specs.Reading.Readers.{Result, ok, err, Reader, stop_of, on_ok, nothing, starts, run, contains, before}
use Rattle.spec.specs.Reading.Refusals.{has_colon, reserved_target, unterminated, bad_pubid, bad_reference, illegal_reference, too_deep}
use Rattle.spec.specs.Reading.Wellformed
use Rattle.spec.proofs.Agreement.Words.{starts_within}
use Rattle.spec.proofs.Base.Outside.{outside_within}
use Rattle.spec.proofs.Base.Places.{run_within}
use Rattle.spec.proofs.Base.Tests.{or_false_right, not-false}
use Rattle.spec.proofs.Dtd.Bodies.{body_at}
use Rattle.spec.proofs.Inside.Ways.{Inside, stop_on, stop_pick, before_most, take_most, ◌then◌, in_nothing, in_byte, in_refuse, in_refuse_at, in_one, in_end, in_pick, in_choose, in_on, in_word, in_while, in_throughout, in_required, in_char, in_up_to}

-- without names
pub spaces : Inside Dtd.skip_s
unfolding Dtd.skip_s
spaces = record { inside = λ w. run_within space w }

pub some_space : Inside Dtd.require_s
unfolding Dtd.require_s
some_space = in_required _ spaces

quoted : {check : List ℕ → Result} → Inside check → Inside (Dtd.parse_quoted check)
unfolding Dtd.parse_quoted
quoted a = in_on "\"" (in_word "\"" _ then in_up_to "\"" _ a) (in_word "'" _ then in_up_to "'" _ a)

pubid : Inside Dtd.check_pubid
unfolding Dtd.check_pubid
pubid = record { inside = λ w. stop_pick (length w) (eqb (run pubid_char w) (length w)) (ok 0) (err bad_pubid (run pubid_char w)) (λ _. omega arith) (λ _. run_within pubid_char w) }

system : Inside (Dtd.parse_quoted nothing)
system = quoted in_nothing

external : Inside Dtd.parse_external_id
unfolding Dtd.parse_external_id
external =
    in_on "SYSTEM" (in_word "SYSTEM" _ then some_space then system)
    (in_word "PUBLIC" _ then some_space then quoted pubid then some_space then system)

reference : (base : ℕ) (d : ℕ → Bool) → Inside (Wellformed.reference base d)
unfolding Wellformed.reference
reference base d = record {
  inside = λ w.
      let e : Bool = starts (ascii ";") (drop (run d w) w) in
      let l = run_within d w in
      stop_pick (length w) (eqb (run d w) 0 || not e) (err bad_reference 0) (pick (xml_char (value_on base 0 (take (run d w) w))) (ok (run d w + 1)) (err illegal_reference 0)) (λ _. omega arith)
      (λ f. stop_pick (length w) (xml_char (value_on base 0 (take (run d w) w))) (ok (run d w + 1)) (err illegal_reference 0)
      (λ _. let y : 1 ≤ length (drop (run d w) w) = starts_within (ascii ";") (drop (run d w) w) (not-false e (or_false_right (eqb (run d w) 0) (not e) f)) in omega (arith, length-drop (run d w) w)) (λ _. omega arith));
}

char_ref : Inside Wellformed.char_ref
unfolding Wellformed.char_ref
char_ref = in_on "&#x" (in_one (in_word "&#x" _ then reference 16 hex_digit)) (in_one (in_word "&#" _ then reference 10 digit))

pub in_char_refs : Inside Wellformed.check_char_refs
unfolding Wellformed.check_char_refs Wellformed.ref_or_byte
in_char_refs = in_throughout (in_on "&#" char_ref in_byte)

legal_byte : Inside Wellformed.legal_byte
unfolding Wellformed.legal_byte
legal_byte = in_choose _ (in_refuse _) in_byte

pub in_chars : Inside Wellformed.check_chars
unfolding Wellformed.check_chars
in_chars = in_throughout legal_byte

pub in_text : Inside Wellformed.check_text
unfolding Wellformed.check_text Wellformed.text_step
in_text = in_throughout (in_on "]]>" (in_refuse _) (in_on "&#" char_ref legal_byte))

pub in_attr_value : Inside Wellformed.check_attr_value
unfolding Wellformed.check_attr_value Wellformed.attr_step
in_attr_value = in_throughout (in_on "<" (in_refuse _) (in_on "&#" char_ref legal_byte))

att_value : Inside Dtd.check_att_value
unfolding Dtd.check_att_value
att_value = in_choose _ (in_refuse_at "<" _) in_char_refs

pub comment : Inside Dtd.parse_comment
unfolding Dtd.parse_comment Dtd.check_comment
comment = in_word "<!--" _ then in_up_to "-->" _ (in_choose _ (in_refuse_at "--" _) in_nothing)

-- the '>' that ends a body stands in the text
pub body_within : (k : ℕ) (w : List ℕ) → Dtd.take_decl_body w ≡ ok k → k < length w
body_within k w e = outside_within (one_of ">") 0 w k (body_at k w e)

decl_body : (w : List ℕ) → stop_of (Dtd.take_decl_body w) ≤ length w
unfolding Dtd.take_decl_body
decl_body w = go (outside (one_of ">") 0 w) refl
  where
    go : (p : Place) → outside (one_of ">") 0 w ≡ p → stop_of (Dtd.bytes_before unterminated p) ≤ length w
    go (at k) e = let z = outside_within (one_of ">") 0 w k e in omega arith
    go nowhere e = omega arith

after : (s : String) {r : Reader} → Inside r → Inside (Dtd.after s r)
unfolding Dtd.after
after s a = in_word s _ then spaces then a then spaces

connected : (s : String) {r : Reader} → Inside r → Inside (Dtd.connected s r)
unfolding Dtd.connected
connected s a = after s a then in_while _ (in_on s (after s a) (in_refuse _))

group_of : {r : Reader} → Inside r → Inside (Dtd.group_of r)
unfolding Dtd.group_of
group_of a =
    in_word "(" _ then spaces then a then spaces
    then in_on "|" (connected "|" a) (in_on "," (connected "," a) in_nothing)
    then in_word ")" _

occurs : Inside Dtd.occurs
unfolding Dtd.occurs
occurs = in_choose _ (in_char (one_of "?*+") _) in_nothing

bar_list : {r : Reader} → Inside r → Inside (Dtd.bar_list r)
unfolding Dtd.bar_list
bar_list a = in_word "(" _ then spaces then a then spaces then in_while _ (after "|" a) then in_word ")" _

word_among : (ss : List String) {r : Reader} → Inside r → Inside (Dtd.word_among ss r)
unfolding Dtd.word_among
word_among [] a = a
word_among (s ∷ ss) a = in_on s (in_word s _) (word_among ss a)

default_decl : Inside Dtd.parse_default_decl
unfolding Dtd.parse_default_decl
default_decl =
    in_on "#REQUIRED" (in_word "#REQUIRED" _) (in_on "#IMPLIED" (in_word "#IMPLIED" _)
    (in_on "#FIXED" (in_word "#FIXED" _ then some_space) in_nothing then quoted att_value))

on_quote : {r q : Reader} → Inside r → Inside q → Inside (Dtd.on_quote r q)
unfolding Dtd.on_quote
on_quote a b = in_on "\"" a (in_on "'" a b)

second_literal : Inside Dtd.second_literal
unfolding Dtd.second_literal
second_literal = in_choose _ (some_space then system) in_nothing

-- with names
module _ (D : Dialect) where
  parts : Inside (Wellformed.parts D)
  unfolding Wellformed.parts
  parts = in_while _ (in_char D.part _)

  pub name : Inside (Wellformed.name D)
  unfolding Wellformed.name
  name = in_char D.start _ then parts

  pub in_name : Inside (Wellformed.check_name D)
  unfolding Wellformed.check_name
  in_name = name then in_end _

  ncname : Inside (Dtd.ncname D)
  unfolding Dtd.ncname
  ncname = record { inside = λ w. go w (Wellformed.name D w) (name.inside w) }
    where
      go : (w : List ℕ) (a : Result) → stop_of a ≤ length w → stop_of (on_ok a (λ k. pick (contains (ascii ":") (take k w)) (err has_colon (before (ascii ":") (take k w))) (ok k))) ≤ length w
      go w (ok k) h = stop_pick (length w) (contains (ascii ":") (take k w)) (err has_colon (before (ascii ":") (take k w))) (ok k) (λ _. let z = before_most (ascii ":") (take k w) in let y = take_most k w in omega arith) (λ _. h)
      go w (err r j) h = h

  pe_reference : Inside (Dtd.parse_pe_reference D)
  unfolding Dtd.parse_pe_reference
  pe_reference = in_word "%" _ then name then in_word ";" _

  target : Inside (Dtd.check_target D)
  unfolding Dtd.check_target
  target = record {
    inside = λ t. stop_on (length t) (Wellformed.check_name D t) _ (in_name.inside t)
        (λ k f. stop_pick (length t) (contains (ascii ":") t) (err has_colon (before (ascii ":") t)) (pick (Dtd.reserved t) (err reserved_target 0) (ok 0)) (λ _. before_most (ascii ":") t)
        (λ _. stop_pick (length t) (Dtd.reserved t) (err reserved_target 0) (ok 0) (λ _. omega arith) (λ _. omega arith)));
  }

  pub pi : Inside (Dtd.parse_pi D)
  unfolding Dtd.parse_pi Dtd.check_pi
  pi = in_word "<?" _ then in_up_to "?>" _ (record { inside = λ w. let z = target.inside (take (run (none_of " \t\r\n") w) w) in let y = take_most (run (none_of " \t\r\n") w) w in omega arith })

  mixed : Inside (Dtd.parse_mixed D)
  unfolding Dtd.parse_mixed
  mixed =
      in_word "(" _ then spaces then in_word "#PCDATA" _ then spaces
      then in_on "|" (after "|" name then in_while _ (after "|" name) then in_word ")" _ then in_word "*" _)
      (in_word ")" _ then in_on "*" (in_word "*" _) in_nothing)

  group : (h : ℕ) → Inside (Dtd.parse_group D too_deep h)
  unfolding Dtd.parse_group Dtd.cp_of
  group zero = in_refuse _
  group (suc h) = group_of (in_on "(" (group h) name then occurs)

  element_decl : Inside (Dtd.parse_element_decl D too_deep)
  unfolding Dtd.parse_element_decl Dtd.parse_contentspec Dtd.parse_children
  element_decl =
      some_space then name then some_space
      then in_on "EMPTY" (in_word "EMPTY" _) (in_on "ANY" (in_word "ANY" _)
      (in_choose _ mixed (in_on "(" (group D.groups then occurs) (in_refuse _))))
      then spaces then in_end _

  attlist_decl : Inside (Dtd.parse_attlist_decl D)
  unfolding Dtd.parse_attlist_decl Dtd.parse_att_def Dtd.parse_att_type Dtd.nmtoken
  attlist_decl =
      some_space then name
      then in_while _ (some_space then name then some_space
      then in_on "NOTATION" (in_word "NOTATION" _ then some_space then bar_list name)
      (word_among Dtd.tokenized (in_on "(" (bar_list (in_required _ parts)) (in_refuse _)))
      then some_space then default_decl)
      then spaces

  entity_decl : Inside (Dtd.parse_entity_decl D)
  unfolding Dtd.parse_entity_decl Dtd.ndata
  entity_decl =
      some_space
      then in_on "%" (in_word "%" _ then some_space then ncname then some_space then on_quote (quoted in_char_refs) external)
      (ncname then some_space
      then on_quote (quoted in_char_refs) (external then in_choose _ (some_space then in_word "NDATA" _ then some_space then name) in_nothing))
      then spaces then in_end _

  notation_decl : Inside (Dtd.parse_notation_decl D)
  unfolding Dtd.parse_notation_decl
  notation_decl =
      some_space then ncname then some_space
      then in_on "SYSTEM" (in_word "SYSTEM" _ then some_space then system)
      (in_word "PUBLIC" _ then some_space then quoted pubid then second_literal)
      then spaces then in_end _

  finish : (b : Bool) {r : Reader} → Inside r → Inside (Dtd.finish_decl D b r)
  unfolding Dtd.finish_decl
  finish b {r} a = record {
    inside = λ w. stop_on (length w) (Dtd.take_decl_body w) _ (decl_body w)
        (λ k f. stop_on (length w) (pick (b || Dtd.has_pe_reference D (take k w)) nothing r (take k w)) (λ _. ok (k + 1))
        (let z = (in_pick (b || Dtd.has_pe_reference D (take k w)) in_nothing a).inside (take k w) in let y = take_most k w in omega arith)
        (λ j g. let z = body_within k w f in omega arith));
  }

  markup_decl : (b : Bool) → Inside (Dtd.parse_markup_decl D too_deep b)
  unfolding Dtd.parse_markup_decl
  markup_decl b =
      in_on "<?" pi (in_on "<!--" comment (in_on "<![" (in_refuse _)
      (in_on "<!ELEMENT" (in_word "<!ELEMENT" _ then finish b element_decl)
      (in_on "<!ATTLIST" (in_word "<!ATTLIST" _ then finish b attlist_decl)
      (in_on "<!ENTITY" (in_word "<!ENTITY" _ then finish b entity_decl)
      (in_word "<!NOTATION" _ then finish b notation_decl))))))

  pub in_entry : Inside (one_entry D)
  in_entry = in_on "%" pe_reference (markup_decl true)

  subset : (d : ℕ) (b : Bool) → Inside (Dtd.subset_fuel D too_deep d b)
  unfolding Dtd.subset_fuel
  subset zero b = record { inside = λ w. omega arith }
  subset (suc d) b =
      let ih = subset d in
      record {
        inside = (spaces
            then in_on "]" (in_word "]" _)
            (in_on "%" (pe_reference then ih true)
            (in_on "<" (markup_decl b then ih b)
            (in_end _ then in_refuse _)))).inside;
      }

  -- a DOCTYPE's text, whatever ends it
  pub in_before : {end : Reader} → Inside end → Inside (Dtd.doctype_before D too_deep end)
  unfolding Dtd.doctype_before Dtd.parse_internal_subset
  in_before a =
      spaces then name then spaces
      then in_choose _ (external then spaces) in_nothing
      then in_on "[" (in_word "[" _ then record { inside = λ w. (subset (suc (length w)) false).inside w } then spaces) in_nothing
      then a

  pub in_doctype : Inside (Dtd.check_doctype D)
  unfolding Dtd.check_doctype
  in_doctype = in_before (in_end _)

-- of an XML declaration
pub eq_quoted : (test : List ℕ → Bool) → Inside (Checks.parse_eq_quoted test)
unfolding Checks.parse_eq_quoted Checks.valued
eq_quoted test = spaces then in_word "=" _ then spaces then quoted (in_choose test in_nothing (in_refuse _))

pseudo_attr : (s : String) (test : List ℕ → Bool) → Inside (Checks.pseudo_attr s test)
unfolding Checks.pseudo_attr
pseudo_attr s test = in_choose _ (some_space then in_word s _ then eq_quoted test) in_nothing

pub in_declaration : Inside Checks.check_declaration
unfolding Checks.check_declaration
in_declaration =
    in_word "xml" _ then some_space then in_word "version" _ then eq_quoted _
    then pseudo_attr "encoding" _ then pseudo_attr "standalone" _
    then spaces then in_end _

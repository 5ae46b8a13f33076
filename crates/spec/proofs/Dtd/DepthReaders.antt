-- The readers of a DOCTYPE, one after the other: under two limits they differ only in what they do with one group too many.
-- Assumes nothing.
use mathlib.Core.Bool.{Bool, true, false, ◌&&◌, ◌||◌, not}
use mathlib.Core.List.{List, [], ◌∷◌}
use mathlib.Core.Path.{◌≡◌, refl, ap, subst}
use Prim.Native.Nat.{ℕ, zero, suc, ◌+◌}
use Prim.Native.String.{String}
use native.Mathlib.Omega.{arith}
use lib.Dec.{eqb}
use lib.ListN.{length, take, drop}
use Rattle.spec.specs.Basics.{pick}
use Rattle.spec.specs.Grammar.Characters.{xml_char}
use Rattle.spec.specs.Grammar.Languages.{ascii, one_of, none_of}
use Rattle.spec.specs.Grammar.Literals.{pubid_char}
use Rattle.spec.specs.Grammar.Names.{Dialect, with_groups}
use Rattle.spec.specs.Grammar.References.{digit, hex_digit, value_on}
use Rattle.spec.specs.Reading.Dtd
use Rattle.spec.specs.Reading.Places.{Place, at, nowhere, outside}
use Rattle.spec.specs.Reading.Readers.{Result, err, Reader, nothing, refuse, at_end, starts, run, begins, contains}
use Rattle.spec.specs.Reading.Refusals.{Refusal, unterminated, trailing, too_deep}
use Rattle.spec.specs.Reading.Wellformed
use Rattle.spec.proofs.Base.Results.{both_pick}
use Rattle.spec.proofs.Dtd.DepthAlike.{Alike, met, same, Like, alike_on, alike_test, ◌then◌, like_nothing, like_byte, like_refuse, like_refuse_at, like_one, like_end, like_choose, like_on, like_word, like_while, like_throughout, like_required, like_char, like_up_to}

-- Each tt is a computed test: the refusal at that place is not numbered 20.

-- without names
module _ {j : ℕ} {y : Refusal} where
  spaces : Like j y Dtd.skip_s Dtd.skip_s
  unfolding Dtd.skip_s
  spaces = record { it = λ w. same refl tt }

  some_space : Like j y Dtd.require_s Dtd.require_s
  unfolding Dtd.require_s
  some_space = like_required _ tt spaces

  quoted : {c d : List ℕ → Result} → Like j y c d → Like j y (Dtd.parse_quoted c) (Dtd.parse_quoted d)
  unfolding Dtd.parse_quoted
  quoted a = like_on "\"" (like_word "\"" _ tt then like_up_to "\"" _ tt a) (like_word "'" _ tt then like_up_to "'" _ tt a)

  pubid : Like j y Dtd.check_pubid Dtd.check_pubid
  unfolding Dtd.check_pubid
  pubid = record { it = λ w. alike_test (eqb (run pubid_char w) (length w)) 0 _ _ tt }

  system : Like j y (Dtd.parse_quoted nothing) (Dtd.parse_quoted nothing)
  system = quoted like_nothing

  external : Like j y Dtd.parse_external_id Dtd.parse_external_id
  unfolding Dtd.parse_external_id
  external =
      like_on "SYSTEM" (like_word "SYSTEM" _ tt then some_space then system)
      (like_word "PUBLIC" _ tt then some_space then quoted pubid then some_space then system)

  reference : (base : ℕ) (d : ℕ → Bool) → Like j y (Wellformed.reference base d) (Wellformed.reference base d)
  unfolding Wellformed.reference
  reference base d = record {
    it = λ w. both_pick (Alike j y) (eqb (run d w) 0 || not (starts (ascii ";") (drop (run d w) w))) (same refl tt)
        (alike_test (xml_char (value_on base 0 (take (run d w) w))) (run d w + 1) _ _ tt);
  }

  references : Like j y Wellformed.check_char_refs Wellformed.check_char_refs
  unfolding Wellformed.check_char_refs Wellformed.ref_or_byte Wellformed.char_ref
  references =
      like_throughout (like_on "&#" (like_on "&#x" (like_one (like_word "&#x" _ tt then reference 16 hex_digit))
      (like_one (like_word "&#" _ tt then reference 10 digit))) like_byte)

  att_value : Like j y Dtd.check_att_value Dtd.check_att_value
  unfolding Dtd.check_att_value
  att_value = like_choose _ (like_refuse_at "<" _ tt) references

  comment : Like j y Dtd.parse_comment Dtd.parse_comment
  unfolding Dtd.parse_comment Dtd.check_comment
  comment = like_word "<!--" _ tt then like_up_to "-->" _ tt (like_choose _ (like_refuse_at "--" _ tt) like_nothing)

  decl_body : (w : List ℕ) → Alike j y (Dtd.take_decl_body w) (Dtd.take_decl_body w)
  unfolding Dtd.take_decl_body
  decl_body w = go (outside (one_of ">") 0 w)
    where
      go : (p : Place) → Alike j y (Dtd.bytes_before unterminated p) (Dtd.bytes_before unterminated p)
      go (at k) = same refl tt
      go nowhere = same refl tt

  after : (s : String) {r q : Reader} → Like j y r q → Like j y (Dtd.after s r) (Dtd.after s q)
  unfolding Dtd.after
  after s a = like_word s _ tt then spaces then a then spaces

  connected : (s : String) {r q : Reader} → Like j y r q → Like j y (Dtd.connected s r) (Dtd.connected s q)
  unfolding Dtd.connected
  connected s a = after s a then like_while _ (like_on s (after s a) (like_refuse _ tt))

  group_of : {r q : Reader} → Like j y r q → Like j y (Dtd.group_of r) (Dtd.group_of q)
  unfolding Dtd.group_of
  group_of a =
      like_word "(" _ tt then spaces then a then spaces
      then like_on "|" (connected "|" a) (like_on "," (connected "," a) like_nothing)
      then like_word ")" _ tt

  occurs : Like j y Dtd.occurs Dtd.occurs
  unfolding Dtd.occurs
  occurs = like_choose _ (like_char (one_of "?*+") _ tt) like_nothing

  bar_list : {r q : Reader} → Like j y r q → Like j y (Dtd.bar_list r) (Dtd.bar_list q)
  unfolding Dtd.bar_list
  bar_list a = like_word "(" _ tt then spaces then a then spaces then like_while _ (after "|" a) then like_word ")" _ tt

  word_among : (ss : List String) {r q : Reader} → Like j y r q → Like j y (Dtd.word_among ss r) (Dtd.word_among ss q)
  unfolding Dtd.word_among
  word_among [] a = a
  word_among (s ∷ ss) a = like_on s (like_word s _ tt) (word_among ss a)

  default_decl : Like j y Dtd.parse_default_decl Dtd.parse_default_decl
  unfolding Dtd.parse_default_decl
  default_decl =
      like_on "#REQUIRED" (like_word "#REQUIRED" _ tt) (like_on "#IMPLIED" (like_word "#IMPLIED" _ tt)
      (like_on "#FIXED" (like_word "#FIXED" _ tt then some_space) like_nothing then quoted att_value))

  on_quote : {r q r' q' : Reader} → Like j y r r' → Like j y q q' → Like j y (Dtd.on_quote r q) (Dtd.on_quote r' q')
  unfolding Dtd.on_quote
  on_quote a b = like_on "\"" a (like_on "'" a b)

  second_literal : Like j y Dtd.second_literal Dtd.second_literal
  unfolding Dtd.second_literal
  second_literal = like_choose _ (some_space then system) like_nothing

-- with names
module _ (D : Dialect) (g j : ℕ) (larger : g ≡ D.groups + j) (y : Refusal) where
  -- a limit larger by j
  abbrev high : Dialect
  high = with_groups D g

  parts : Like j y (Wellformed.parts D) (Wellformed.parts high)
  unfolding Wellformed.parts
  parts = like_while _ (like_char D.part _ tt)

  name : Like j y (Wellformed.name D) (Wellformed.name high)
  unfolding Wellformed.name
  name = like_char D.start _ tt then parts

  ncname : Like j y (Dtd.ncname D) (Dtd.ncname high)
  unfolding Dtd.ncname
  ncname = record { it = λ w. alike_on (name.it w) (λ k. both_pick (Alike j y) (contains (ascii ":") (take k w)) (same refl tt) (same refl tt)) }

  pe_reference : Like j y (Dtd.parse_pe_reference D) (Dtd.parse_pe_reference high)
  unfolding Dtd.parse_pe_reference
  pe_reference = like_word "%" _ tt then name then like_word ";" _ tt

  same_references : (w : List ℕ) → Dtd.has_pe_reference D w ≡ Dtd.has_pe_reference high w
  unfolding Dtd.has_pe_reference
  same_references [] = refl
  same_references (b ∷ w) = ap (λ (t : Bool). (one_of "%" b && begins D.start w) || t) (same_references w)

  pi : Like j y (Dtd.parse_pi D) (Dtd.parse_pi high)
  unfolding Dtd.parse_pi Dtd.check_pi Dtd.check_target Wellformed.check_name
  pi = like_word "<?" _ tt then like_up_to "?>" _ tt (record { it = λ w. target (take (run (none_of " \t\r\n") w) w) })
    where
      target : (t : List ℕ) → Alike j y (Dtd.check_target D t) (Dtd.check_target high t)
      target t =
          alike_on ((name then like_end _ tt).it t)
          (λ _. both_pick (Alike j y) (contains (ascii ":") t) (same refl tt) (both_pick (Alike j y) (Dtd.reserved t) (same refl tt) (same refl tt)))

  mixed : Like j y (Dtd.parse_mixed D) (Dtd.parse_mixed high)
  unfolding Dtd.parse_mixed
  mixed =
      like_word "(" _ tt then spaces then like_word "#PCDATA" _ tt then spaces
      then like_on "|" (after "|" name then like_while _ (after "|" name) then like_word ")" _ tt then like_word "*" _ tt)
      (like_word ")" _ tt then like_on "*" (like_word "*" _ tt) like_nothing)

  -- one group too many under the limit; and under the larger one, if they are the same
  group : (h i : ℕ) → i ≡ h + j → Like j y (Dtd.parse_group D too_deep h) (Dtd.parse_group high y i)
  unfolding Dtd.parse_group Dtd.cp_of refuse
  group zero i e = record { it = λ w. met 0 refl (λ z. let n : 0 ≡ i = omega arith in subst (λ (k : ℕ). Dtd.parse_group high y k w ≡ err y 0) n refl) }
  group (suc h) zero e = absurd (omega arith)
  group (suc h) (suc i) e = group_of (like_on "(" (group h i (omega arith)) name then occurs)

  element_decl : Like j y (Dtd.parse_element_decl D too_deep) (Dtd.parse_element_decl high y)
  unfolding Dtd.parse_element_decl Dtd.parse_contentspec Dtd.parse_children
  element_decl =
      some_space then name then some_space
      then like_on "EMPTY" (like_word "EMPTY" _ tt) (like_on "ANY" (like_word "ANY" _ tt)
      (like_choose _ mixed (like_on "(" (group D.groups g larger then occurs) (like_refuse _ tt))))
      then spaces then like_end _ tt

  attlist_decl : Like j y (Dtd.parse_attlist_decl D) (Dtd.parse_attlist_decl high)
  unfolding Dtd.parse_attlist_decl Dtd.parse_att_def Dtd.parse_att_type Dtd.nmtoken
  attlist_decl =
      some_space then name
      then like_while _ (some_space then name then some_space
      then like_on "NOTATION" (like_word "NOTATION" _ tt then some_space then bar_list name)
      (word_among Dtd.tokenized (like_on "(" (bar_list (like_required _ tt parts)) (like_refuse _ tt)))
      then some_space then default_decl)
      then spaces

  entity_decl : Like j y (Dtd.parse_entity_decl D) (Dtd.parse_entity_decl high)
  unfolding Dtd.parse_entity_decl Dtd.ndata
  entity_decl =
      some_space
      then like_on "%" (like_word "%" _ tt then some_space then ncname then some_space then on_quote (quoted references) external)
      (ncname then some_space
      then on_quote (quoted references) (external then like_choose _ (some_space then like_word "NDATA" _ tt then some_space then name) like_nothing))
      then spaces then like_end _ tt

  notation_decl : Like j y (Dtd.parse_notation_decl D) (Dtd.parse_notation_decl high)
  unfolding Dtd.parse_notation_decl
  notation_decl =
      some_space then ncname then some_space
      then like_on "SYSTEM" (like_word "SYSTEM" _ tt then some_space then system)
      (like_word "PUBLIC" _ tt then some_space then quoted pubid then second_literal)
      then spaces then like_end _ tt

  finish : (b : Bool) {r q : Reader} → Like j y r q → Like j y (Dtd.finish_decl D b r) (Dtd.finish_decl high b q)
  unfolding Dtd.finish_decl
  finish b {r} {q} a = record { it = λ w. alike_on (decl_body w) (λ k. alike_on (body (take k w)) (λ _. same refl tt)) }
    where
      body : (x : List ℕ) → Alike j y (pick (b || Dtd.has_pe_reference D x) nothing r x) (pick (b || Dtd.has_pe_reference high x) nothing q x)
      body x =
          subst (λ (t : Bool). Alike j y (pick (b || Dtd.has_pe_reference D x) nothing r x) (pick (b || t) nothing q x)) (same_references x)
          ((both_pick (Like j y) (b || Dtd.has_pe_reference D x) like_nothing a).it x)

  markup_decl : (b : Bool) → Like j y (Dtd.parse_markup_decl D too_deep b) (Dtd.parse_markup_decl high y b)
  unfolding Dtd.parse_markup_decl
  markup_decl b =
      like_on "<?" pi (like_on "<!--" comment (like_on "<![" (like_refuse _ tt)
      (like_on "<!ELEMENT" (like_word "<!ELEMENT" _ tt then finish b element_decl)
      (like_on "<!ATTLIST" (like_word "<!ATTLIST" _ tt then finish b attlist_decl)
      (like_on "<!ENTITY" (like_word "<!ENTITY" _ tt then finish b entity_decl)
      (like_word "<!NOTATION" _ tt then finish b notation_decl))))))

  subset : (d : ℕ) (b : Bool) → Like j y (Dtd.subset_fuel D too_deep d b) (Dtd.subset_fuel high y d b)
  unfolding Dtd.subset_fuel
  subset zero b = record { it = λ w. same refl tt }
  subset (suc d) b =
      let ih = subset d in
      record {
        it = (spaces
            then like_on "]" (like_word "]" _ tt)
            (like_on "%" (pe_reference then ih true)
            (like_on "<" (markup_decl b then ih b)
            (like_end _ tt then like_refuse _ tt)))).it;
      }

  pub doctype : Like j y (Dtd.check_doctype D) (Dtd.doctype_before high y (at_end trailing))
  unfolding Dtd.check_doctype Dtd.doctype_before Dtd.parse_internal_subset
  doctype =
      spaces then name then spaces
      then like_choose _ (external then spaces) like_nothing
      then like_on "[" (like_word "[" _ tt then record { it = λ w. (subset (suc (length w)) false).it w } then spaces) like_nothing
      then like_end _ tt

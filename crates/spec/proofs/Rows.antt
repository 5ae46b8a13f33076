-- What is said of the rows of the tables whose tests read a text holds of each: by computing. Assumes nothing.
use mathlib.Core.Path.{◌≡◌, refl, sym, ◌∙◌}
use mathlib.Core.Bool.{Bool, true, ◌&&◌}
use mathlib.Core.List.{List, ◌++◌}
use Prim.Native.Nat.{ℕ, ◌+◌, ◌≤◌}
use lib.Dec.{eqb, leb}
use lib.ListN.{length}
use Rattle.spec.specs.Basics.{limit}
use Rattle.spec.specs.Grammar.Languages.{ascii}
use Rattle.spec.specs.Grammar.Characters.{xml_char}
use Rattle.spec.specs.Grammar.Doctype.{doctypedecl}
use Rattle.spec.specs.Grammar.References.{digit_value, value_on}
use Rattle.spec.specs.Grammar.AppendixB.{start_char, part_char, appendix_b}
use Rattle.spec.specs.Grammar.Ranges.{in_table}
use Rattle.spec.specs.Grammar.Literals.{pubid_char}
use Rattle.spec.specs.Grammar.Encodings.{coding_of, looks_like}
use Rattle.spec.specs.Reading.Document.{at_most, closing, is_declaration, read_declaration, item_here, read_item, read_misc, read_doctype_text, read_doctype, read_opening, read_ending, read_prolog, read_other, read_tag, read_beginning, legal_length, find_doctype}
use Rattle.spec.specs.Reading.Verdict.{number_in, place_in, opened_in, in_declaration, unended, sign_at, end_refusal, verdict_in, read_version, read_encoding, encoding_in, find_encoding, encoding_read, verdict, mark_length, check_document}
use Rattle.spec.specs.Reading.Utf8.{decode4, decode1}
use Rattle.spec.specs.Reading.Places.{outside}
use Rattle.spec.specs.Reading.Readers.{
  Reader,
  ◌>>◌,
  nothing,
  refuse,
  as_one,
  refuse_at,
  at_end,
  starts,
  choose,
  on,
  word_of,
  run,
  while_fuel,
  while,
  some_left,
  throughout,
  required,
  a_byte,
  begins,
  char,
  contains,
  before,
  up_to,
}
use Rattle.spec.specs.Reading.Source.{utf8, admit, checked, checked_at}
use Rattle.spec.specs.Reading.Wellformed.{reference, char_ref, ref_or_byte, check_char_refs, parts, name, check_name}
use Rattle.spec.specs.Reading.Dtd.{
  skip_s,
  require_s,
  parse_quoted,
  check_pubid,
  parse_external_id,
  check_att_value,
  check_comment,
  parse_comment,
  take_decl_body,
  reserved,
  after,
  connector,
  connected,
  group_of,
  occurs,
  bar_list,
  word_among,
  parse_default_decl,
  on_quote,
  second_literal,
  nmtoken,
  ncname,
  parse_pe_reference,
  has_pe_reference,
  check_target,
  check_pi,
  parse_pi,
  parse_mixed,
  cp_of,
  parse_group,
  parse_children,
  parse_contentspec,
  parse_element_decl,
  parse_att_type,
  parse_att_def,
  parse_attlist_decl,
  ndata,
  parse_entity_decl,
  parse_notation_decl,
  finish_decl,
  parse_markup_decl,
  subset_fuel,
  parse_internal_subset,
  doctype_before,
  check_doctype,
}
use Rattle.spec.specs.Reading.Entries.{kind_at, entries_fuel, entries_from, declarations}
use Rattle.spec.specs.Reading.Checks.{all_of, is_version_num, is_enc_name, is_yes_or_no, valued, parse_eq_quoted, pseudo_attr, check_declaration}
use Rattle.spec.specs.Premise.{bare, quiet}
use Rattle.spec.specs.Promises.{Checks}
use Rattle.spec.specs.Rows.{All, Subject, doctype, declaration, rule_of, grammar_of, Row, Numbered, rows, Spot, Met, spots, Case, verdict_on, Judged, cases}
use Rattle.spec.specs.Conditions.{Sample, Sided, samples}
use Rattle.spec.proofs.Base.Tables.{each, by_test}
use Rattle.spec.proofs.Base.Tests.{alike, alike_same, and_left, and_right, and_both, eqb-true, eqb_yes, leb_true}
use Rattle.spec.proofs.Agreement.Accepts.{Agrees, promise}
use Rattle.spec.proofs.Characters.AppendixB.{appendix_b_ascii}
use Rattle.spec.proofs.Checks.XmlDecl.{declaration_agrees}
use Rattle.spec.proofs.Division.Covers.{covers, covered_yes, covered_derived, covered_covers}
use Rattle.spec.proofs.Dtd.Texts.{doctype_agrees}
use Rattle.spec.proofs.Inside.Checks.{Placed, doctype_placed, declaration_placed}

-- numbers
agrees : (x : Subject) → Agrees (rule_of x) (grammar_of x)
agrees doctype = doctype_agrees appendix_b appendix_b_ascii
agrees declaration = declaration_agrees

abbrev given : Row → Bool
given r = eqb (checked (rule_of r.subject) (ascii r.text)) r.answer

numbers : (r : Row) → given r ≡ true → Numbered r
numbers r t =
    let rule : Reader = rule_of r.subject in
    let w : List ℕ = ascii r.text in
    let e : checked rule w ≡ r.answer = eqb-true (checked rule w) r.answer t in
    let p : Checks rule (grammar_of r.subject) w (checked rule w) = promise (agrees r.subject) w (checked rule w) refl in
    record { number = e; grammar = (λ z. p.grammar.0 (e ∙ z), λ l. sym e ∙ p.grammar.1 l) }

-- places
has_place : (x : Subject) → Placed (rule_of x)
has_place doctype = doctype_placed appendix_b
has_place declaration = declaration_placed

abbrev whole : Spot → List ℕ
whole s = ascii s.read_well ++ ascii s.from_there

abbrev met : Spot → Bool
met s = eqb s.answer (checked (rule_of s.subject) (whole s)) && eqb (length (ascii s.read_well)) (checked_at (rule_of s.subject) (whole s))

meets : (s : Spot) → met s ≡ true → Met s
meets s e =
    let t : Bool = eqb s.answer (checked (rule_of s.subject) (whole s)) in
    let u : Bool = eqb (length (ascii s.read_well)) (checked_at (rule_of s.subject) (whole s)) in
    (has_place s.subject).stops (whole s) s.answer (length (ascii s.read_well))
    (eqb-true s.answer (checked (rule_of s.subject) (whole s)) (and_left t u e))
    (eqb-true (length (ascii s.read_well)) (checked_at (rule_of s.subject) (whole s)) (and_right t u e))

-- demand 3's premise: whether the text is derived, and whether its entries meet it
abbrev derives : Sample → Bool
derives s = eqb (checked (check_doctype appendix_b) (ascii s.text)) 0

abbrev sided : Sample → Bool
sided s = (leb (length (ascii s.text)) limit && alike (derives s) s.derived) && alike (s.derived && covers appendix_b (ascii s.text)) s.covered

sides : (s : Sample) → sided s ≡ true → Sided s
sides s t =
    let w : List ℕ = ascii s.text in
    let b : Bool = leb (length w) limit in
    let c : Bool = alike (derives s) s.derived in
    let d : Bool = alike (s.derived && covers appendix_b w) s.covered in
    let f : (b && c) ≡ true = and_left (b && c) d t in
    let short : length w ≤ limit = leb_true (length w) limit (and_left b c f) in
    let told : derives s ≡ s.derived = alike_same (derives s) s.derived (and_right b c f) in
    let said : (s.derived && covers appendix_b w) ≡ s.covered = alike_same (s.derived && covers appendix_b w) s.covered (and_right (b && c) d t) in
    let p : Checks (check_doctype appendix_b) (doctypedecl appendix_b) w (checked (check_doctype appendix_b) w) = promise (agrees doctype) w (checked (check_doctype appendix_b) w) refl in
    let yes : s.derived ≡ true → doctypedecl appendix_b w = λ z. (p.grammar.0 (eqb-true (checked (check_doctype appendix_b) w) 0 (told ∙ z))).1 in
    let back : doctypedecl appendix_b w → s.derived ≡ true = λ l. sym told ∙ eqb_yes (checked (check_doctype appendix_b) w) 0 (p.grammar.1 (short, l)) in
    record {
      grammar = (yes, back);
      premise = (
        λ z. covered_yes appendix_b appendix_b_ascii w (yes (and_left s.derived (covers appendix_b w) (said ∙ z))) (and_right s.derived (covers appendix_b w) (said ∙ z)),
        λ k. sym said ∙ and_both s.derived (covers appendix_b w) (back (covered_derived appendix_b appendix_b_ascii w k)) (covered_covers appendix_b appendix_b_ascii w k),
      );
    }

-- documents
abbrev judged : Case → Bool
judged c =
    eqb (number_in (verdict_on c)) c.answer && (eqb (opened_in (verdict_on c)) (length c.read_well) && eqb (place_in (verdict_on c)) (length c.read_well + length c.unclosed))

judges : (c : Case) → judged c ≡ true → Judged c
judges c t =
    let a : Bool = eqb (number_in (verdict_on c)) c.answer in
    let b : Bool = eqb (opened_in (verdict_on c)) (length c.read_well) in
    let d : Bool = eqb (place_in (verdict_on c)) (length c.read_well + length c.unclosed) in
    let e : (b && d) ≡ true = and_right a (b && d) t in
    record {
      number = eqb-true (number_in (verdict_on c)) c.answer (and_left a (b && d) t);
      opened = eqb-true (opened_in (verdict_on c)) (length c.read_well) (and_left b d e);
      place = eqb-true (place_in (verdict_on c)) (length c.read_well + length c.unclosed) (and_right b d e);
    }

-- The tables whose tests read a text: one computation of them all, so that what it looks into stands once.
all_computed : ((each given rows && each met spots) && (each sided samples && each judged cases)) ≡ true
unfolding
    in_table start_char part_char decode4 decode1 xml_char pubid_char digit_value value_on ◌>>◌ nothing refuse as_one refuse_at at_end starts choose on word_of run while while_fuel
    some_left throughout required a_byte begins char contains before up_to utf8 admit checked checked_at reference char_ref ref_or_byte check_char_refs parts name check_name
    skip_s require_s parse_quoted check_pubid parse_external_id check_att_value check_comment parse_comment outside take_decl_body reserved after connector connected group_of
    occurs bar_list word_among parse_default_decl on_quote second_literal nmtoken ncname parse_pe_reference has_pe_reference check_target check_pi parse_pi parse_mixed
    cp_of parse_group parse_children parse_contentspec parse_element_decl parse_att_type parse_att_def parse_attlist_decl ndata parse_entity_decl parse_notation_decl
    finish_decl parse_markup_decl subset_fuel parse_internal_subset doctype_before check_doctype kind_at entries_fuel entries_from declarations bare quiet all_of is_version_num valued parse_eq_quoted pseudo_attr check_declaration is_enc_name is_yes_or_no
    at_most closing is_declaration read_declaration item_here read_item read_misc read_doctype_text read_doctype read_opening read_ending read_prolog read_other read_tag read_beginning legal_length find_doctype
    in_declaration unended sign_at end_refusal verdict_in read_version read_encoding encoding_in find_encoding encoding_read verdict mark_length check_document coding_of looks_like
all_computed = refl

abbrev numbered_and_met : Bool
numbered_and_met = each given rows && each met spots

abbrev sided_and_judged : Bool
sided_and_judged = each sided samples && each judged cases

pub rows_numbered : All Numbered rows
rows_numbered = by_test given numbers rows (and_left (each given rows) (each met spots) (and_left numbered_and_met sided_and_judged all_computed))

pub spots_met : All Met spots
spots_met = by_test met meets spots (and_right (each given rows) (each met spots) (and_left numbered_and_met sided_and_judged all_computed))

pub samples_sided : All Sided samples
samples_sided = by_test sided sides samples (and_left (each sided samples) (each judged cases) (and_right numbered_and_met sided_and_judged all_computed))

pub cases_judged : All Judged cases
cases_judged = by_test judged judges cases (and_right (each sided samples) (each judged cases) (and_right numbered_and_met sided_and_judged all_computed))

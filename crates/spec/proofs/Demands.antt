-- The theorems behind demands 2 and 3, on a page. Each is stated over the definitions of specs/, and its proof is a citation. (Demand 1
-- is what the prover asks of every function: it ends, reads inside its texts and wraps no number, on all inputs.) Assumes nothing.
use mathlib.Core.Path.{◌≡◌, refl}
use mathlib.Core.Logic.{◌↔◌, ◌⊎◌}
use mathlib.Core.Bool.{Bool, true, false, ◌&&◌}
use mathlib.Core.List.{List, ◌++◌}
use Prim.Native.Nat.{ℕ, ◌-◌, ◌≤◌, ◌<◌, min}
use lib.Dec.{eqb}
use lib.ListN.{length, take, drop}
use Rattle.spec.specs.Grammar.AppendixB.{appendix_b}
use Rattle.spec.specs.Grammar.Characters.{xml_char, Chars}
use Rattle.spec.specs.Grammar.Division.{Front, Division}
use Rattle.spec.specs.Grammar.Doctype.{doctypedecl}
use Rattle.spec.specs.Grammar.FifthEdition.{fifth_edition}
use Rattle.spec.specs.Grammar.Names.{Dialect, Name, NCName, with_groups, AsciiNames}
use Rattle.spec.specs.Grammar.Prolog.{from_to, Begins, doctype_of, encoding_of, Document}
use Rattle.spec.specs.Grammar.References.{value_on, Referred, CharData, AttText}
use Rattle.spec.specs.Grammar.XmlDecl.{XMLDecl}
use Rattle.spec.specs.Promises.{Checks, Stops, Tells, ChecksDoctype, Covered, expected}
use Rattle.spec.specs.Reading.Checks.{check_declaration, is_ncname}
use Rattle.spec.specs.Reading.Document.{legal_length}
use Rattle.spec.specs.Reading.Dtd.{doctype_before, check_doctype}
use Rattle.spec.specs.Reading.Entries.{declarations}
use Rattle.spec.specs.Reading.Readers.{ok, err, Reader, nothing, at_end}
use Rattle.spec.specs.Reading.Refusals.{Refusal, trailing}
use Rattle.spec.specs.Reading.Scan.{scan}
use Rattle.spec.specs.Reading.Source.{admit, checked, checked_at}
use Rattle.spec.specs.Reading.Verdict.{accepted, refused, number_in, place_in, opened_in, doctype_in, encoding_read, mark_length, unmarked, moved, check_document}
use Rattle.spec.specs.Reading.Wellformed.{stopped_on, past_points, illegal_here, check_chars, check_char_refs, check_text, check_attr_value, check_name}
use Rattle.spec.specs.Rows.{All, Numbered, rows, Met, spots, Judged, cases}
use Rattle.spec.specs.Unread.{unread_entries, CountsUnread}
use Rattle.spec.specs.Conditions.{Sided, samples, Limited, sizes, Ascii, alphabets}
use Rattle.spec.specs.Grammar.Languages.{Lang, Ch, Star}
use Rattle.spec.proofs.Agreement.Accepts.{promise, tells}
use Rattle.spec.proofs.Characters.AppendixB.{appendix_b_ascii}
use Rattle.spec.proofs.Characters.FifthEdition.{fifth_edition_ascii}
use Rattle.spec.proofs.Checks.NCNames.{ncname_decides}
use Rattle.spec.proofs.Checks.XmlDecl.{declaration_agrees}
use Rattle.spec.proofs.Division.Places.{divided, apart, one_division}
use Rattle.spec.proofs.Division.Promised.{cuts_covered}
use Rattle.spec.proofs.Division.Unread.{unread_counted}
use Rattle.spec.proofs.Document.Agrees.{one_prolog}
use Rattle.spec.proofs.Document.Encoding.{encoding_right}
use Rattle.spec.proofs.Document.Legal.{legal_takes}
use Rattle.spec.proofs.Document.Located.{check_lies}
use Rattle.spec.proofs.Document.Marks.{check_refused_stays}
use Rattle.spec.proofs.Document.Told.{told_inside}
use Rattle.spec.proofs.Document.Wider.{document_wider}
use Rattle.spec.proofs.Document.Whole.{document_right, parts_right, check_stays}
use Rattle.spec.proofs.Dtd.Depth.{met_at_20, unmet_free}
use Rattle.spec.proofs.Dtd.Texts.{doctype_agrees}
use Rattle.spec.proofs.Dtd.Wider.{fifth_wider, name_wider, doctype_wider}
use Rattle.spec.proofs.Inside.Chars.{illegal_there, none_before}
use Rattle.spec.proofs.Inside.Checks.{chars_placed, char_refs_placed, text_placed, attr_value_placed, name_placed, doctype_placed, declaration_placed}
use Rattle.spec.proofs.Rows
use Rattle.spec.proofs.Conditions
use Rattle.spec.proofs.Wellformed.Digits.{stopped_run, tells_char}
use Rattle.spec.proofs.Wellformed.LongestName.{Takes}
use Rattle.spec.proofs.Wellformed.Checks.{chars_agree, char_refs_agree, text_agree, attr_value_agree, name_agrees}

-- What speaks of names holds for any name classes that have XML's ASCII characters, with any limit of open groups. Those of the checks have
-- them: Appendix B's and the fifth edition's.
pub editions : AsciiNames appendix_b × AsciiNames fifth_edition
editions = (appendix_b_ascii, fifth_edition_ascii)

-- Demand 2: on every text the order of reading, with 1 and 2 in front, answers 0 exactly for what the grammar derives.
abbrev Right : Reader → Lang → Type 0
Right rule L = (w : List ℕ) → Checks rule L w (checked rule w)

pub chars_right : Right check_chars Chars
chars_right w = promise chars_agree w _ refl

pub char_refs_right : Right check_char_refs Referred
char_refs_right w = promise char_refs_agree w _ refl

pub text_right : Right check_text CharData
text_right w = promise text_agree w _ refl

pub attr_value_right : Right check_attr_value AttText
attr_value_right w = promise attr_value_agree w _ refl

pub declaration_right : Right check_declaration XMLDecl
declaration_right w = promise declaration_agrees w _ refl

module _ (D : Dialect) (A : AsciiNames D) where
  pub name_right : Right (check_name D) (Name D)
  name_right w = promise (name_agrees D A) w _ refl

  pub doctype_right : Right (check_doctype D) (doctypedecl D)
  doctype_right w = promise (doctype_agrees D A) w _ refl

  -- is_ncname says yes exactly to an NCName that may be looked at; with 1 and 2 it says no
  pub ncname_right : (w : List ℕ) → Tells (NCName D) w (checked nothing w) (eqb (checked nothing w) 0 && is_ncname D w)
  ncname_right = tells (ncname_decides D A)

-- The sixteen texts of docs/SCOPE.md have the numbers that stand beside them
pub sixteen_rows : All Numbered rows
sixteen_rows = Rows.rows_numbered

-- 20 is the answer exactly where the text may be looked at and one open group more than the limit is the first thing refused: whatever that
-- is refused with, it is the answer then, at the same place
pub groups_exactly : (D : Dialect) (w : List ℕ) → (checked (check_doctype D) w ≡ 20) ↔ (((k : ℕ) × (admit w ≡ ok k)) × ((k : ℕ) × ((r : Refusal) → doctype_before D r (at_end trailing) w ≡ err r k)))
groups_exactly = met_at_20

-- and that limit changes no answer but 20
pub groups_free : (D : Dialect) (w : List ℕ) → (checked (check_doctype D) w ≡ 20 → ⊥)
    → (n : ℕ) → D.groups ≤ n → checked (check_doctype (with_groups D n)) w ≡ checked (check_doctype D) w
groups_free = unmet_free

-- Request 1: what the grammar derives under Appendix B it derives under the fifth edition (by lemmas over any two dialects of which one holds
-- the other); so by their promises the new checks answer 0 wherever the old ones do.
pub fifth_names : (w : List ℕ) → Name appendix_b w → Name fifth_edition w
fifth_names = (name_wider fifth_wider).into

pub fifth_doctypes : (w : List ℕ) → doctypedecl appendix_b w → doctypedecl fifth_edition w
fifth_doctypes = (doctype_wider fifth_wider).into

pub fifth_documents : (w : List ℕ) → Document appendix_b w → Document fifth_edition w
fifth_documents = (document_wider fifth_wider).into

pub fifth_accepts_name : (w : List ℕ) (n m : ℕ) → Checks (check_name appendix_b) (Name appendix_b) w n → Checks (check_name fifth_edition) (Name fifth_edition) w m → n ≡ 0 → m ≡ 0
fifth_accepts_name w n m b f z = let (h, l) = b.grammar.0 z in f.grammar.1 (h, fifth_names w l)

pub fifth_accepts_doctype : (w : List ℕ) (n m : ℕ) → ChecksDoctype appendix_b w n → ChecksDoctype fifth_edition w m → n ≡ 0 → m ≡ 0
fifth_accepts_doctype w n m b f z = let (h, l) = b.grammar.0 z in f.grammar.1 (h, fifth_doctypes w l)

pub fifth_accepts_document : (whole : Bool) (w : List ℕ) → number_in (check_document appendix_b whole w) ≡ 0 → number_in (check_document fifth_edition whole w) ≡ 0
fifth_accepts_document whole w z =
    (document_right fifth_edition fifth_edition_ascii whole w).1 (fifth_documents (unmarked w) ((document_right appendix_b appendix_b_ascii whole w).0 z))

-- Request 2: the value of a run of digits that one pass stops at a number is the lesser of the whole run's value and that number, in any base and
-- at any number of digits; and stopped past all code points it is a Char's exactly where the whole value is.
pub digits_stopped : (most base : ℕ) → 1 ≤ base → (w : List ℕ) → stopped_on most base 0 w ≡ min (value_on base 0 w) most
digits_stopped = stopped_run

pub stopped_tells : (base : ℕ) → 1 ≤ base → (w : List ℕ) → xml_char (stopped_on past_points base 0 w) ≡ xml_char (value_on base 0 w)
stopped_tells = tells_char

module _ (D : Dialect) (A : AsciiNames D) where
  -- Demand 3: an accepted DOCTYPE has no subset, or a division into entries; not both, and not two.
  pub accepted_divided : (w : List ℕ) → doctypedecl D w ↔ (Front D w ⊎ Division D w)
  accepted_divided = divided D A

  pub not_both : (w : List ℕ) → Front D w → Division D w → ⊥
  not_both = apart D A

  pub one_way_only : (w : List ℕ) (a b : Division D w) → (a.entries ≡ b.entries) × (a.opening ≡ b.opening) × (a.closing ≡ b.closing)
  one_way_only = one_division D A

  -- How many declarations of a DOCTYPE go unread: as many as do among the entries that the order of reading meets.
  pub unread_right : (t : List ℕ) → CountsUnread D t (length (unread_entries D t false (declarations D t)))
  unread_right = unread_counted D A

  -- Wherever a text is cut that demand 3 speaks of, the scan says of the front part whether the subset's '[' and the ']' that closes it
  -- are in it, and names that ']'; of a text without a subset it says "not opened".
  pub cut_anywhere : (t : List ℕ) (c : Covered D t) (cut : ℕ) → scan (take cut t) ≡ expected D c cut
  cut_anywhere = cuts_covered D A

-- Which texts those are, from both sides: a table of texts that demand 3 speaks of, texts that its premise keeps out, and texts that the
-- grammar does not derive.
pub premise_shown : All Sided samples
premise_shown = Rows.samples_sided

-- The other conditions from both sides: how long a text may be, which name classes the theorems are for.
pub limit_shown : All Limited sizes
limit_shown = Conditions.sizes_limited

pub ascii_shown : All Ascii alphabets
ascii_shown = Conditions.alphabets_spelled

-- Every refusal has a place, and it lies within the text, 1 and 2 included; what is accepted is read to the text's end.
abbrev Located : Reader → Type 0
Located rule = (w : List ℕ) → Stops rule w (checked rule w) (checked_at rule w)

pub chars_located : Located check_chars
chars_located w = chars_placed.stops w _ _ refl refl

pub char_refs_located : Located check_char_refs
char_refs_located w = char_refs_placed.stops w _ _ refl refl

pub text_located : Located check_text
text_located w = text_placed.stops w _ _ refl refl

pub attr_value_located : Located check_attr_value
attr_value_located w = attr_value_placed.stops w _ _ refl refl

pub declaration_located : Located check_declaration
declaration_located w = declaration_placed.stops w _ _ refl refl

pub name_located : (D : Dialect) → Located (check_name D)
name_located D w = (name_placed D).stops w _ _ refl refl

pub doctype_located : (D : Dialect) → Located (check_doctype D)
doctype_located D w = (doctype_placed D).stops w _ _ refl refl

-- Each text of the table that shows places is refused with its number where its second piece begins.
pub places_shown : All Met spots
places_shown = Rows.spots_met

-- Where the characters are refused (18), an illegal one begins at that place, and none before it.
pub illegal_told : (w : List ℕ) (r : Refusal) (k : ℕ) → check_chars w ≡ err r k → illegal_here (drop k w) ≡ true
illegal_told = illegal_there

pub legal_before : (w : List ℕ) (r : Refusal) (k i : ℕ) → check_chars w ≡ err r k → i < k → illegal_here (drop i w) ≡ false
legal_before = none_before

-- A whole document. It is accepted exactly where, after a byte order mark if there is one, it begins with a prolog that the grammar derives
-- and with '<' and a Name, in characters that its encoding has in common with UTF-8.
module _ (D : Dialect) (A : AsciiNames D) where
  pub document_accepted : (whole : Bool) (w : List ℕ) → (number_in (check_document D whole w) ≡ 0) ↔ Document D (unmarked w)
  document_accepted = document_right D A

  -- Then the verdict tells the grammar's prolog and the grammar's DOCTYPE; the encoding that is found is the grammar's; and there is but one
  -- prolog.
  pub document_parts : (whole : Bool) (w : List ℕ) (d : Document D (unmarked w))
      → check_document D whole w ≡ moved (mark_length w) (accepted (length d.begins.front) (doctype_of D d.begins))
  document_parts = parts_right D A

  pub encoding_found : (w : List ℕ) (b : Begins D xml_char w) → encoding_read w ≡ encoding_of D b
  encoding_found = encoding_right D A

  pub prolog_once : (w : List ℕ) (a b : Begins D xml_char w) → a.front ≡ b.front
  prolog_once = one_prolog D A xml_char

  -- What is accepted of a beginning is accepted of the whole, whatever follows, and the verdict is the same.
  pub document_stays : (part whole : Bool) (w v : List ℕ) → number_in (check_document D part w) ≡ 0 → check_document D whole (w ++ v) ≡ check_document D part w
  document_stays = check_stays D A

  -- The DOCTYPE's text that it tells lies within the text, before its last byte at the latest, and the grammar derives it.
  pub doctype_inside : (whole : Bool) (w : List ℕ) (i j : ℕ) → doctype_in (check_document D whole w) ≡ from_to i j → (i ≤ j) × ((j < length w) × doctypedecl D (take (j - i) (drop i w)))
  doctype_inside = told_inside D A

-- What is refused of a beginning is refused of the whole, whatever follows, with the same number and at the same place. (Where only the
-- end of what is held is in the way, nothing is refused yet.)
pub document_refused_stays : (D : Dialect) (part whole : Bool) (w v : List ℕ) (r : Refusal) (i : ℕ) → check_document D part w ≡ refused r i → check_document D whole (w ++ v) ≡ refused r i
document_refused_stays = check_refused_stays

-- The place that a verdict tells lies within the text, and what does not end was opened there or before.
pub document_within : (D : Dialect) (whole : Bool) (w : List ℕ) → (place_in (check_document D whole w) ≤ length w) × (opened_in (check_document D whole w) ≤ place_in (check_document D whole w))
document_within = check_lies

-- What is read of a text, in characters of a class, is the longest front part that consists of them.
pub legal_longest : (p : ℕ → Bool) (w : List ℕ) → Takes (Star (Ch p)) w (legal_length p w)
legal_longest = legal_takes

-- Documents with their verdicts, by the numbers, the places, and where what does not end was opened.
pub documents_shown : All Judged cases
documents_shown = Rows.cases_judged

-- What check_document promises, and its answer as a row of fields. Assumes nothing.
use Rattle.std.specs.Prelude.{◌≡◌, Bool, true, false, List, ◌↔◌, ℕ, ◌+◌, ◌-◌, ◌≤◌, ltb, length, take, drop, Result, Ok, Err}
use Rattle.spec.specs.Basics.{pick}
use Rattle.spec.specs.Grammar.Names.{Dialect}
use Rattle.spec.specs.Grammar.Prolog.{DoctypeText, no_doctype, from_to, doctype_of, Document}
use Rattle.spec.specs.Reading.Entries.{declarations}
use Rattle.spec.specs.Reading.Refusals.{number}
use Rattle.spec.specs.Reading.Verdict.{accepted, number_in, place_in, opened_in, doctype_in, mark_length, unmarked, moved, check_document}
use Rattle.spec.specs.Unread.{unread_entries, CountsUnread}
use Rattle.error.specs.Read.{reason}
use Rattle.lines.specs.Lines.{line, column}
use Rattle.document.specs.Findings.{Found, reads, loses}
use Rattle.document.specs.Prologs.{text_of}
use Rattle.document.specs.declared.check.Accepted.{Accepted}
use Rattle.document.specs.declared.check.Refused.{Refused}

-- The verdict on a document: its number, 0 where it is accepted; the place of the refusal, or of the root; line and column of that place;
-- where what does not end was opened, or the place itself; whether there is a DOCTYPE in a document that is accepted, and its text, between
-- `<!DOCTYPE` and its `>`; and how many of its declarations were not read.
pub record Fields : Type 0 where
  pub number : ℕ
  pub place : ℕ
  pub line : ℕ
  pub column : ℕ
  pub opened : ℕ
  pub has_doctype : Bool
  pub doctype_start : ℕ
  pub doctype_end : ℕ
  pub unread : ℕ

-- the DOCTYPE's text in numbers: whether there is one, and its two ends, 0 and 0 where there is none
abbrev pub has_text : DoctypeText → Bool
has_text no_doctype = false
has_text (from_to i j) = true

abbrev pub text_start : DoctypeText → ℕ
text_start no_doctype = 0
text_start (from_to i j) = i

abbrev pub text_end : DoctypeText → ℕ
text_end no_doctype = 0
text_end (from_to i j) = j

-- so many declarations of that text go unread; none where there is no DOCTYPE
abbrev pub Unreads : Dialect → List ℕ → DoctypeText → ℕ → Type 0
Unreads D w no_doctype n = n ≡ 0
Unreads D w (from_to i j) n = CountsUnread D (take (j - i) (drop i w)) n

-- check_document answers with v, by the names of D, of a text that is all of a document, or its beginning. Each field is the order of
-- reading's; the lines and columns are those of the text without its byte order mark. What is accepted is what the grammar has, with the
-- grammar's one prolog and its DOCTYPE. The places lie within the text.
pub record Judges (D : Dialect) (whole : Bool) (w : List ℕ) (v : Fields) : Type 0 where
  pub number : v.number ≡ number_in (check_document D whole w)
  pub place : v.place ≡ place_in (check_document D whole w)
  pub line : v.line ≡ line (unmarked w) (v.place - mark_length w)
  pub column : v.column ≡ column (unmarked w) (v.place - mark_length w)
  pub opened : v.opened ≡ opened_in (check_document D whole w)
  pub tells_doctype : v.has_doctype ≡ has_text (doctype_in (check_document D whole w))
  pub start_of_doctype : v.doctype_start ≡ text_start (doctype_in (check_document D whole w))
  pub end_of_doctype : v.doctype_end ≡ text_end (doctype_in (check_document D whole w))
  pub unread : Unreads D w (doctype_in (check_document D whole w)) v.unread
  pub grammar : (v.number ≡ 0) ↔ Document D (unmarked w)
  pub parts : (d : Document D (unmarked w)) → check_document D whole w ≡ moved (mark_length w) (accepted (length d.begins.front) (doctype_of D d.begins))
  pub only_one : (a b : Document D (unmarked w)) → a.begins.front ≡ b.begins.front
  pub within : (v.place ≤ length w) × (v.opened ≤ v.place)

-- the fields of the code's answer
abbrev pub told : Result Accepted Refused → Fields
told (Ok a) = record {
  number = 0;
  place = a.root.place;
  line = a.root.line;
  column = a.root.column;
  opened = a.root.place;
  has_doctype = has_text (text_of a.doctype);
  doctype_start = text_start (text_of a.doctype);
  doctype_end = text_end (text_of a.doctype);
  unread = a.unread;
}
told (Err r) = record {
  number = number (reason r.refusal);
  place = r.at.place;
  line = r.at.line;
  column = r.at.column;
  opened = r.opened;
  has_doctype = false;
  doctype_start = 0;
  doctype_end = 0;
  unread = 0;
}

-- The answer, piece by piece, as the code makes it. A place further on by the bytes of the mark, where the sum is a number of the machine:
unfoldable pub further_by : ℕ → ℕ → ℕ
further_by m k = pick (ltb 18446744073709551615 (k + m)) k (k + m)

-- the declarations between two places that go unread
unfoldable pub unread_count : Dialect → List ℕ → ℕ
unread_count D t = length (unread_entries D t false (declarations D t))

unfoldable pub unread_between : Dialect → List ℕ → ℕ → ℕ → ℕ
unread_between D t a b = pick (ltb (length t) b) 0 (pick (ltb b a) 0 (unread_count D (take (b - a) (drop a t))))

unfoldable pub refused_as : List ℕ → ℕ → ℕ → ℕ → ℕ → Fields
refused_as t m n o k = record {
  number = n;
  place = further_by m k;
  line = line t k;
  column = column t k;
  opened = further_by m o;
  has_doctype = false;
  doctype_start = 0;
  doctype_end = 0;
  unread = 0;
}

unfoldable pub accepted_as : Dialect → List ℕ → ℕ → ℕ → DoctypeText → Fields
accepted_as D t m k no_doctype = refused_as t m 0 k k
accepted_as D t m k (from_to a b) = record {
  number = 0;
  place = further_by m k;
  line = line t k;
  column = column t k;
  opened = further_by m k;
  has_doctype = true;
  doctype_start = further_by m a;
  doctype_end = further_by m b;
  unread = unread_between D t a b;
}

unfoldable pub spelled : Dialect → List ℕ → ℕ → Found → Fields
spelled D t m (reads k x) = accepted_as D t m k x
spelled D t m (loses r o k) = refused_as t m (number r) o k

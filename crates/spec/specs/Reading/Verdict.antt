-- The verdict on a document: whether it is accepted, and if not, with which number and where. This is ours, not the Rust's. Assumes nothing.
use Rattle.std.specs.Prelude.{Bool, ◌&&◌, ◌||◌, not, List, [], ◌∷◌, ℕ, zero, suc, ◌+◌, ◌-◌, eqb, leb, ltb, length, take, drop, get_or}
use Rattle.spec.specs.Basics.{pick}
use Rattle.spec.specs.Grammar.Characters.{xml_char, space}
use Rattle.spec.specs.Grammar.Encodings.{Encoding, unnamed, named, Coding, in_utf8, in_bytes, foreign, coding_in, class_of, Wide, narrow, utf_16_be, utf_16_le, utf_32_be, utf_32_le, looks_like}
use Rattle.spec.specs.Grammar.Languages.{ascii, one_of}
use Rattle.spec.specs.Grammar.Names.{Dialect}
use Rattle.spec.specs.Grammar.Prolog.{DoctypeText, no_doctype, from_to}
use Rattle.spec.specs.Reading.Checks.{is_version_num, parse_eq_quoted}
use Rattle.spec.specs.Reading.Document.{is_declaration, read_declaration, read_prolog, read_beginning, legal_length, legal_part, find_doctype}
use Rattle.spec.specs.Reading.Dtd.{skip_s, require_s}
use Rattle.spec.specs.Reading.Readers.{Result, ok, err, Reader, taken, run, before, of_point, ◌>>◌, starts, word, contains}
use Rattle.spec.specs.Reading.Refusals.{Refusal, too_long, not_utf8, unterminated, unexpected, illegal_char, number}
use Rattle.spec.specs.Reading.Utf8.{decode1}

pub data Verdict : Type 0 where
  -- where the prolog ends and the root begins, and the DOCTYPE's text in it
  accepted : ℕ → DoctypeText → Verdict
  -- the refusal, and its place
  refused : Refusal → ℕ → Verdict
  -- the text ends, or what is no character stands, at the second place, within what was opened at the first
  ended : Refusal → ℕ → ℕ → Verdict
  -- it ends there, or what is no character stands there, before the root
  rootless : Refusal → ℕ → Verdict

abbrev pub number_in : Verdict → ℕ
number_in (accepted k t) = 0
number_in (refused r i) = number r
number_in (ended r i j) = number r
number_in (rootless r i) = number r

-- the place: of the refusal, or where the root begins
abbrev pub place_in : Verdict → ℕ
place_in (accepted k t) = k
place_in (refused r i) = i
place_in (ended r i j) = j
place_in (rootless r i) = i

-- where what does not end was opened; the place itself, where nothing was
abbrev pub opened_in : Verdict → ℕ
opened_in (accepted k t) = k
opened_in (refused r i) = i
opened_in (ended r i j) = i
opened_in (rootless r i) = i

abbrev pub doctype_in : Verdict → DoctypeText
doctype_in (accepted k t) = t
doctype_in (refused r i) = no_doctype
doctype_in (ended r i j) = no_doctype
doctype_in (rootless r i) = no_doctype

-- a place within an XML declaration that has its "?>"
unfoldable pub in_declaration : ℕ → List ℕ → Bool
in_declaration k x = is_declaration x && contains (ascii "?>") x && leb k (before (ascii "?>") x)

-- what is refused at k does not end in the text: it is unterminated, and no literal of an XML declaration that has its end
unfoldable pub unended : Refusal → ℕ → List ℕ → Bool
unended r k x = eqb (number r) (number unterminated) && not (in_declaration k x)

-- where the sign begins that ends at a place: a quote mark is one byte, and all others begin with '<'
abbrev pub last_less : ℕ → List ℕ → ℕ
last_less zero x = 0
last_less (suc k) x = pick (eqb (get_or x k 0) 0x3C) k (last_less k x)

unfoldable pub sign_at : ℕ → List ℕ → ℕ
sign_at k x = pick (one_of "\"'" (get_or x (k - 1) 0)) (k - 1) (last_less k x)

-- what stands at the end of the part that is read, if it is not the text's end: bytes that are no UTF-8 or belong to another encoding (2),
-- or a character that is no Char (18)
abbrev pub stranger : Coding → ℕ → Refusal
stranger in_utf8 c = illegal_char
stranger in_bytes c = pick (ltb c 0x80) illegal_char not_utf8
stranger foreign c = not_utf8

-- what the part that is read ends at: such bytes; the text's end (7), or the end of what is held of it (1). What is held may end inside a
-- character, so its last three bytes are not judged.
unfoldable pub end_refusal : Coding → Bool → List ℕ → Refusal
end_refusal c whole w =
    pick (ltb (legal_length (class_of c) w) (length w) && (whole || leb (legal_length (class_of c) w + 4) (length w)))
    (of_point (decode1 (drop (legal_length (class_of c) w) w)) (λ n k. stranger c n) not_utf8)
    (pick whole unterminated too_long)

module _ (D : Dialect) (c : Coding) (whole : Bool) (w : List ℕ) where
  abbrev pub readable : List ℕ
  readable = legal_part (class_of c) w

  -- what was opened at k does not end; or the prolog is read to the end, and only the root is missing
  abbrev pub ended_at : Result → ℕ → Verdict
  ended_at (ok j) k =
      pick (eqb j (length readable)) (rootless (end_refusal c whole w) (length readable))
      (ended (end_refusal c whole w) (sign_at k readable) (length readable))
  ended_at (err r j) k = ended (end_refusal c whole w) (sign_at k readable) (length readable)

  abbrev pub verdict_of : Result → Verdict
  verdict_of (ok k) = accepted (taken (read_prolog D readable)) (find_doctype D readable)
  verdict_of (err r k) = pick (unended r k readable) (ended_at (read_prolog D readable) k) (refused r k)

  -- the verdict on a document of which w is all, or the beginning, in a coding
  unfoldable pub verdict_in : Verdict
  verdict_in = verdict_of (read_beginning D readable)

-- The encoding that is named. An XML declaration's text up to the value of its version, and what stands before the name of its encoding:
unfoldable pub read_version : Reader
read_version = word "xml" unexpected >> require_s >> word "version" unexpected >> parse_eq_quoted is_version_num

unfoldable pub read_encoding : Reader
read_encoding = require_s >> word "encoding" unexpected >> skip_s >> word "=" unexpected >> skip_s

-- what stands between the quote mark that comes first and the next one
abbrev pub value_at : ℕ → List ℕ → Encoding
value_at k w = named (k + 1) (take (before (take 1 w) (drop 1 w)) (drop 1 w))

abbrev pub encoding_at : ℕ → List ℕ → Encoding
encoding_at k w =
    pick (starts (ascii "encoding") (drop (run space w) w)) (value_at (k + taken (read_encoding w)) (drop (taken (read_encoding w)) w)) unnamed

unfoldable pub encoding_in : ℕ → List ℕ → Encoding
encoding_in k t = encoding_at (k + taken (read_version t)) (drop (taken (read_version t)) t)

unfoldable pub find_encoding : List ℕ → Encoding
find_encoding w = pick (is_declaration w) (encoding_in 2 (take (before (ascii "?>") (drop 2 w)) (drop 2 w))) unnamed

-- of a declaration that is refused none is looked for
abbrev pub unless_refused : Result → Encoding → Encoding
unless_refused (ok k) e = e
unless_refused (err r k) e = unnamed

unfoldable pub encoding_read : List ℕ → Encoding
encoding_read w = unless_refused (read_declaration (legal_part xml_char w)) (find_encoding (legal_part xml_char w))

-- The verdict on a document of which w is all, or the beginning. One that names a foreign encoding is not UTF-8 (2), at that name; in one
-- that has only ASCII in common with UTF-8 a byte from 128 on is none (2), at that byte.
module _ (D : Dialect) (whole : Bool) (w : List ℕ) where
  abbrev pub by_coding : Encoding → Coding → Verdict
  by_coding e in_utf8 = verdict_in D in_utf8 whole w
  by_coding e in_bytes = verdict_in D in_bytes whole w
  by_coding unnamed foreign = refused not_utf8 0
  by_coding (named k n) foreign = refused not_utf8 k

  unfoldable pub verdict : Verdict
  verdict = by_coding (encoding_read w) (coding_in (encoding_read w))

-- The whole check. A byte order mark of UTF-8 in front is passed over; what looks like UTF-16 or UTF-32 is not UTF-8 (2).
unfoldable pub mark_length : List ℕ → ℕ
mark_length w = pick (starts (0xEF ∷ 0xBB ∷ 0xBF ∷ []) w) 3 0

abbrev pub unmarked : List ℕ → List ℕ
unmarked w = drop (mark_length w) w

abbrev pub moved_text : ℕ → DoctypeText → DoctypeText
moved_text k no_doctype = no_doctype
moved_text k (from_to i j) = from_to (k + i) (k + j)

abbrev pub moved : ℕ → Verdict → Verdict
moved k (accepted i t) = accepted (k + i) (moved_text k t)
moved k (refused r i) = refused r (k + i)
moved k (ended r i j) = ended r (k + i) (k + j)
moved k (rootless r i) = rootless r (k + i)

abbrev pub by_width : Wide → Verdict → Verdict
by_width narrow v = v
by_width utf_16_be v = refused not_utf8 0
by_width utf_16_le v = refused not_utf8 0
by_width utf_32_be v = refused not_utf8 0
by_width utf_32_le v = refused not_utf8 0

unfoldable pub check_document : Dialect → Bool → List ℕ → Verdict
check_document D whole w = by_width (looks_like w) (moved (mark_length w) (verdict D whole (unmarked w)))

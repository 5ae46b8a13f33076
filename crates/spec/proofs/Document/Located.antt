-- The places that a verdict tells lie within the text: the place of the refusal or of the root, and where what does not end was opened.
-- Assumes nothing.
use mathlib.Core.Bool.{Bool, true, false}
use mathlib.Core.List.{List, [], ◌∷◌}
use mathlib.Core.Path.{◌≡◌, refl, sym, ap, ◌∙◌}
use Prim.Native.Nat.{ℕ, zero, suc, ◌+◌, ◌-◌, ◌≤◌}
use native.Mathlib.Omega.{arith}
use lib.Dec.{eqb}
use lib.ListN.{length, take, drop, get_or, length-take, length-drop}
use Rattle.spec.specs.Basics.{pick}
use Rattle.spec.specs.Grammar.Characters.{xml_char, space}
use Rattle.spec.specs.Grammar.Encodings.{Encoding, unnamed, named, Coding, in_utf8, in_bytes, foreign, coding_in, class_of, Wide, narrow, utf_16_be, utf_16_le, utf_32_be, utf_32_le, looks_like}
use Rattle.spec.specs.Grammar.Languages.{ascii, one_of}
use Rattle.spec.specs.Grammar.Names.{Dialect}
use Rattle.spec.specs.Reading.Checks.{is_version_num, check_declaration}
use Rattle.spec.specs.Reading.Document.{is_declaration, read_declaration, read_prolog, read_beginning, legal_length, legal_part}
use Rattle.spec.specs.Reading.Readers.{Result, ok, err, stop_of, taken, run, before, ◌>>◌, starts, choose, word, word_of, contains, up_to}
use Rattle.spec.specs.Reading.Refusals.{unterminated, unexpected}
use Rattle.spec.specs.Reading.Verdict.{
  Verdict,
  accepted,
  refused,
  ended,
  rootless,
  place_in,
  opened_in,
  unended,
  last_less,
  sign_at,
  end_refusal,
  readable,
  ended_at,
  verdict_of,
  verdict_in,
  read_version,
  read_encoding,
  value_at,
  encoding_at,
  encoding_in,
  find_encoding,
  unless_refused,
  encoding_read,
  by_coding,
  verdict,
  mark_length,
  unmarked,
  moved,
  by_width,
  check_document,
}
use Rattle.spec.proofs.Agreement.Words.{starts_within, before_within}
use Rattle.spec.proofs.Base.Results.{ok_inj, by_pick, then_ok, else_refused, else_refuses}
use Rattle.spec.proofs.Document.Within.{in_prolog, in_beginning}
use Rattle.spec.proofs.Inside.Readers.{spaces, some_space, eq_quoted}
use Rattle.spec.proofs.Inside.Ways.{Inside, take_most, ◌then◌, in_word}

abbrev pub Lies : ℕ → Verdict → Type 0
Lies n v = (place_in v ≤ n) × (opened_in v ≤ place_in v)

taken_stop : (a : Result) → taken a ≤ stop_of a
taken_stop (ok k) = omega arith
taken_stop (err r j) = omega arith

legal_short : (p : ℕ → Bool) (w : List ℕ) → length (legal_part p w) ≤ length w
legal_short p w = take_most (legal_length p w) w

-- the sign that ends at a place begins before it
less_before : (k : ℕ) (x : List ℕ) → last_less k x ≤ k
less_before zero x = omega arith
less_before (suc k) x = go (eqb (get_or x k 0) 0x3C) (less_before k x)
  where
    go : (t : Bool) → last_less k x ≤ k → pick t k (last_less k x) ≤ suc k
    go true h = omega arith
    go false h = omega arith

sign_before : (k : ℕ) (x : List ℕ) → sign_at k x ≤ k
unfolding sign_at
sign_before k x = go (one_of "\"'" (get_or x (k - 1) 0))
  where
    go : (t : Bool) → pick t (k - 1) (last_less k x) ≤ k
    go true = omega arith
    go false = less_before k x

-- in a coding
module _ (D : Dialect) (c : Coding) (whole : Bool) (w : List ℕ) where
  abbrev x : List ℕ
  x = readable D c whole w

  at_end : (k : ℕ) → k ≤ length x → Lies (length w) (ended (end_refusal c whole w) (sign_at k x) (length x))
  at_end k h = (legal_short (class_of c) w, let z = sign_before k x in omega arith)

  ended_lies : (a : Result) (k : ℕ) → k ≤ length x → Lies (length w) (ended_at D c whole w a k)
  ended_lies (err r j) k h = at_end k h
  ended_lies (ok j) k h = go (eqb j (length x))
    where
      go : (t : Bool) → Lies (length w) (pick t (rootless (end_refusal c whole w) (length x)) (ended (end_refusal c whole w) (sign_at k x) (length x)))
      go true = (legal_short (class_of c) w, omega arith)
      go false = at_end k h

  verdict_lies : Lies (length w) (verdict_in D c whole w)
  unfolding verdict_in
  verdict_lies = go (read_beginning D x) ((in_beginning D).inside x)
    where
      go : (a : Result) → stop_of a ≤ length x → Lies (length w) (verdict_of D c whole w a)
      go (ok k) h = (let y = (in_prolog D).inside x in let z = taken_stop (read_prolog D x) in let s = legal_short (class_of c) w in omega arith, omega arith)
      go (err r k) h = by (unended r k x)
        where
          by : (t : Bool) → Lies (length w) (pick t (ended_at D c whole w (read_prolog D x) k) (refused r k))
          by true = ended_lies (read_prolog D x) k h
          by false = (let s = legal_short (class_of c) w in omega arith, omega arith)

-- the name of an encoding that is found
in_version : Inside read_version
unfolding read_version
in_version = in_word "xml" _ then some_space then in_word "version" _ then eq_quoted is_version_num

in_encoding : Inside read_encoding
unfolding read_encoding
in_encoding = some_space then in_word "encoding" _ then spaces then in_word "=" _ then spaces

not_named : (k : ℕ) (n : List ℕ) → unnamed ≡ named k n → ⊥
not_named k n e = let z : ◌≡◌ {A = ℕ} 0 1 = cc in omega arith

named_place : (k j : ℕ) (m n : List ℕ) → named k m ≡ named j n → k ≡ j
named_place k j m n e = cc

-- lies at most a byte behind the text of the declaration
at_most : (k : ℕ) (t : List ℕ) (j : ℕ) (n : List ℕ) → encoding_at k t ≡ named j n → j ≤ k + length t + 1
at_most k t j n =
    by_pick (starts (ascii "encoding") (drop (run space t) t)) (value_at (k + taken (read_encoding t)) (drop (taken (read_encoding t)) t)) unnamed (named j n)
    (λ _ e.
    let z : k + taken (read_encoding t) + 1 ≡ j = named_place (k + taken (read_encoding t) + 1) j _ n e in
    let y = in_encoding.inside t in
    let s = taken_stop (read_encoding t) in
    omega arith)
    (λ _ e. absurd (not_named j n e))

in_most : (k : ℕ) (t : List ℕ) (j : ℕ) (n : List ℕ) → encoding_in k t ≡ named j n → j ≤ k + length t + 1
unfolding encoding_in
in_most k t j n e =
    let h = at_most (k + taken (read_version t)) (drop (taken (read_version t)) t) j n e in
    let y = in_version.inside t in
    let s = taken_stop (read_version t) in
    omega (arith, length-drop (taken (read_version t)) t)

-- and the declaration's end stands behind that
found_within : (x : List ℕ) (i j : ℕ) (n : List ℕ) → read_declaration x ≡ ok i → find_encoding x ≡ named j n → j ≤ length x
unfolding find_encoding read_declaration choose
found_within x i j n r =
    by_pick (is_declaration x) (encoding_in 2 (take (before (ascii "?>") (drop 2 x)) (drop 2 x))) unnamed (named j n)
    (λ d e.
    let (a, b, f, g, l) = then_ok (word "<?" unexpected) (up_to "?>" unterminated check_declaration) x i (declared d) in
    let s : starts (ascii "<?") x ≡ true = (mark a f).0 in
    let two : a ≡ 2 = (mark a f).1 in
    let h = in_most 2 (take (before (ascii "?>") (drop 2 x)) (drop 2 x)) j n e in
    let y : 2 ≤ length x = starts_within (ascii "<?") x s in
    let z : before (ascii "?>") (drop 2 x) + 2 ≤ length (drop 2 x) = before_within (ascii "?>") (drop 2 x) (closed b (ap (λ (m : ℕ). up_to "?>" unterminated check_declaration (drop m x)) (sym two) ∙ g)) in
    let q = length-take (before (ascii "?>") (drop 2 x)) (drop 2 x) in
    omega (arith, length-drop 2 x))
    (λ _ e. absurd (not_named j n e))
  where
    declared : is_declaration x ≡ true → (word "<?" unexpected >> up_to "?>" unterminated check_declaration) x ≡ ok i
    declared d = unfold read_declaration choose in (rw d at r)

    mark : (a : ℕ) → word "<?" unexpected x ≡ ok a → (starts (ascii "<?") x ≡ true) × (a ≡ 2)
    mark a f = unfold word_of in (let (s, t) = else_refused unexpected 0 (starts (ascii "<?") x) (ok 2) a f in (s, sym (ok_inj 2 a t)))

    closed : (b : ℕ) → up_to "?>" unterminated check_declaration (drop 2 x) ≡ ok b → contains (ascii "?>") (drop 2 x) ≡ true
    closed b g = unfold up_to in (else_refuses unterminated (contains (ascii "?>") (drop 2 x)) _ (drop 2 x) b g).0

encoding_lies : (w : List ℕ) (k : ℕ) (n : List ℕ) → encoding_read w ≡ named k n → k ≤ length w
unfolding encoding_read
encoding_lies w k n = go (read_declaration x) refl
  where
    x : List ℕ
    x = legal_part xml_char w

    go : (a : Result) → read_declaration x ≡ a → unless_refused a (find_encoding x) ≡ named k n → k ≤ length w
    go (ok i) r e = let h = found_within x i k n r e in let s = legal_short xml_char w in omega arith
    go (err c i) r e = absurd (not_named k n e)

-- further on
moved_lies : (m n k : ℕ) (v : Verdict) → m + n ≤ k → Lies n v → Lies k (moved m v)
moved_lies m n k (accepted i t) h (a, b) = (omega arith, omega arith)
moved_lies m n k (refused r i) h (a, b) = (omega arith, omega arith)
moved_lies m n k (ended r i j) h (a, b) = (omega arith, omega arith)
moved_lies m n k (rootless r i) h (a, b) = (omega arith, omega arith)

module _ (D : Dialect) (whole : Bool) where
  lies : (w : List ℕ) → Lies (length w) (verdict D whole w)
  unfolding verdict
  lies w = go (encoding_read w) refl (coding_in (encoding_read w))
    where
      go : (e : Encoding) → encoding_read w ≡ e → (c : Coding) → Lies (length w) (by_coding D whole w e c)
      go e f in_utf8 = verdict_lies D in_utf8 whole w
      go e f in_bytes = verdict_lies D in_bytes whole w
      go unnamed f foreign = (omega arith, omega arith)
      go (named k n) f foreign = (encoding_lies w k n f, omega arith)

  -- The theorem
  pub check_lies : (w : List ℕ) → Lies (length w) (check_document D whole w)
  unfolding check_document
  check_lies w = go (looks_like w)
    where
      mark : mark_length w ≤ length w
      mark = unfold mark_length in (by (starts (0xEF ∷ 0xBB ∷ 0xBF ∷ []) w) refl)
        where
          by : (t : Bool) → starts (0xEF ∷ 0xBB ∷ 0xBF ∷ []) w ≡ t → pick t 3 0 ≤ length w
          by true e = starts_within (0xEF ∷ 0xBB ∷ 0xBF ∷ []) w e
          by false e = omega arith

      rest : mark_length w + length (unmarked w) ≤ length w
      rest = let m : mark_length w ≤ length w = mark in omega (arith, length-drop (mark_length w) w)

      go : (t : Wide) → Lies (length w) (by_width t (moved (mark_length w) (verdict D whole (unmarked w))))
      go narrow = moved_lies (mark_length w) (length (unmarked w)) (length w) (verdict D whole (unmarked w)) rest (lies (unmarked w))
      go utf_16_be = (omega arith, omega arith)
      go utf_16_le = (omega arith, omega arith)
      go utf_32_be = (omega arith, omega arith)
      go utf_32_le = (omega arith, omega arith)

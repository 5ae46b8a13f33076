-- The whole prolog, with the place of the DOCTYPE's text. Assumes nothing.
use mathlib.Core.Path.{◌≡◌, sym, ap, ◌∙◌}
use mathlib.Core.Bool.{Bool, true, false, ◌&&◌, ◌||◌}
use mathlib.Core.List.{List}
use Prim.Native.Nat.{ℕ, ◌+◌, ◌-◌, ◌≤◌}
use native.Mathlib.Nat.{add_assoc}
use native.Mathlib.Omega.{arith}
use borrow.Author.Rules.{rules}
use borrow.Author.Tests.{not-true, not-false}
use lib.Dec.{eqb, ltb}
use lib.ListN.{length, drop}
use lib.Seq.{drop-drop}
use Rattle.std.specs.Prelude.{Some, None, Ok, Err}
use Rattle.spec.specs.Basics.{pick, limit}
use Rattle.spec.specs.Grammar.Languages.{ascii}
use Rattle.spec.specs.Grammar.Names.{Dialect}
use Rattle.spec.specs.Grammar.Prolog.{DoctypeText, no_doctype, from_to}
use Rattle.spec.specs.Reading.Document.{at_most, unless_closed, closing, read_doctype_text, read_doctype, read_opening, read_ending, read_prolog, read_after, find_doctype}
use Rattle.spec.specs.Reading.Dtd.{doctype_before}
use Rattle.spec.specs.Reading.Readers.{Result, ok, err, Reader, taken, past, ◌>>◌, nothing, some_left, starts, contains, word, word_of}
use Rattle.spec.specs.Reading.Refusals.{Refusal, number, too_long, unterminated, trailing, unexpected, too_deep}
use Rattle.spec.specs.Reading.Verdict.{moved_text}
use Rattle.spec.proofs.Base.Results.{err_ok, ok_inj, on_ok_ok, then_ok, unless_refused, else_refused}
use Rattle.error.specs.Read.{Answer, passed, reason, refused, said, read, placed}
use Rattle.error.specs.declared.Fault.{Fault}
use Rattle.error.proofs.Laws.{passed≢refused, was_ok, seq_no, seq_at, took_nothing}
use Rattle.search.proofs.Words.{on_yes, on_no, word_fits}
use Rattle.spec.proofs.Base.Sequences.{doctype_then}
use Rattle.document.specs.Prologs.{Prolog, up_to, refuses, opens, placed_prolog, prolog_read, ending_read}

-- two refusals are none of them a place
either_err : (t : Bool) (n m : Refusal) (i j k : ℕ) → pick t (err n i) (err m j) ≡ ok k → ⊥
either_err true n m i j k e = err_ok n k e
either_err false n m i j k e = err_ok m k e

-- A DOCTYPE that is read is its word, its text and a '>'.
closing_ok : (R : Reader) (w : List ℕ) (k : ℕ) → closing R w ≡ ok k → R w ≡ ok k
unfolding closing
closing_ok R w k e = go (R w) e
  where
    go : (x : Result) → unless_closed w x ≡ ok k → x ≡ ok k
    go (ok j) f = f
    go (err n j) f = absurd (either_err (contains (ascii ">") (drop j w) || eqb (number n) (number unterminated) && some_left (drop j w)) n unterminated j 0 k f)

word_ok : (kw : List ℕ) (n : Refusal) (w : List ℕ) (k : ℕ) → word_of kw n w ≡ ok k → length kw ≡ k
unfolding word_of
word_ok kw n w k e = let (_, f) = else_refused n 0 (starts kw w) (ok (length kw)) k e in ok_inj (length kw) k f

doctype_parts : (D : Dialect) (w : List ℕ) (k : ℕ) → read_doctype D w ≡ ok k → (m : ℕ) × (read_doctype_text D (drop 9 w) ≡ ok (m + 1)) × (k ≡ 10 + m)
unfolding read_doctype at_most read_doctype_text
doctype_parts D w k e =
    let (j, f, g) = on_ok_ok _ _ k e in
    let (_, h) = unless_refused too_long 0 (ltb (10 + limit) j) (ok j) k g in
    let (a, b, c, d, s) = then_ok (word "<!DOCTYPE" unexpected) (closing (doctype_before D too_deep (word ">" trailing))) w j f in
    let y : 9 ≡ a = word_ok (ascii "<!DOCTYPE") unexpected w a c in
    let t = closing_ok (doctype_before D too_deep (word ">" trailing)) (drop a w) b d in
    let (m, o, p, q, u) = then_ok (doctype_before D too_deep nothing) (word ">" trailing) (drop a w) b (sym (doctype_then D (word ">" trailing) (drop a w)) ∙ t) in
    let v : 1 ≡ o = word_ok (ascii ">") trailing (drop m (drop a w)) o q in
    let x : j ≡ k = ok_inj j k h in
    let z : b ≡ m + 1 = omega arith in
    (m, ap (λ (i : ℕ). doctype_before D too_deep (word ">" trailing) (drop i w)) y ∙ t ∙ ap ok z, omega arith)

pub doctype_some : (D : Dialect) (s : List ℕ) (at i : ℕ) (r : Answer) → r ≡ Ok i → said r ≡ read (read_doctype D) s at → 1 ≤ i
doctype_some D s at i r e a =
    let (k, (f, g)) = was_ok (read_doctype D) s at i r a e in
    let (m, _, h) = doctype_parts D (drop at s) k f in
    omega arith

-- What the reader alone says gives the answer.
module _ (at : ℕ) (y : Result) (t : DoctypeText) where
  answer_no : (x : Fault) → refused (reason x.refusal) x.place ≡ placed at y → refuses (reason x.refusal) x.place ≡ placed_prolog at y t
  answer_no x e = go y e
    where
      go : (y : Result) → refused (reason x.refusal) x.place ≡ placed at y → refuses (reason x.refusal) x.place ≡ placed_prolog at y t
      go (ok j) f = absurd (passed≢refused (sym f))
      go (err m j) f = let n : reason x.refusal ≡ m = cc in let k : x.place ≡ at + j = cc in rw (n, k)

  answer_at : (e : ℕ) → passed e ≡ placed at y → up_to e (moved_text at t) ≡ placed_prolog at y t
  answer_at e f = go y f
    where
      go : (y : Result) → passed e ≡ placed at y → up_to e (moved_text at t) ≡ placed_prolog at y t
      go (ok j) f = let z : e ≡ at + j = cc in rw z
      go (err m j) f = absurd (passed≢refused f)

-- (doctypedecl Misc*)?: what is said of it, r, and b whether a DOCTYPE begins
module _ (D : Dialect) (s : List ℕ) (at : ℕ) where
  pub ending_no : (x : Fault) → said (Err x) ≡ read (read_ending D) s at → opens (Err x) ≡ ending_read D s at
  unfolding ending_read read said opens
  ending_no x a = answer_no at (read_ending D (drop at s)) (read_after D 0 (drop at s)) x a

  module _ (b : Bool) (h : b ≡ starts (ascii "<!DOCTYPE") (drop at s)) where
    pub ending_none : b ≡ false → said (Ok at) ≡ read (read_ending D) s at → opens (Ok (record { end = at; doctype = None })) ≡ ending_read D s at
    unfolding ending_read read said opens
    ending_none f a =
        let t : read_after D 0 (drop at s) ≡ no_doctype = rw (sym h ∙ f) in
        answer_at at (read_ending D (drop at s)) no_doctype at a ∙ ap (placed_prolog at (read_ending D (drop at s))) (sym t)

    pub ending_some : (e i : ℕ) (r q : Answer) → b ≡ true → r ≡ Ok i → said r ≡ read (read_doctype D) s at → q ≡ Ok e → said q ≡ read (read_ending D) s at
        → opens (Ok (record { end = e; doctype = Some (record { start = at + 9; end = i - 1 }) })) ≡ ending_read D s at
    unfolding ending_read read said opens
    ending_some e i r q f g c l a =
        let (k, (x, y)) = was_ok (read_doctype D) s at i r (unfold read said in c) g in
        let (m, u, v) = doctype_parts D (drop at s) k x in
        let t : read_after D 0 (drop at s) ≡ from_to (0 + 9) (0 + 9 + (m + 1 - 1)) = rw (sym h ∙ f, u) in
        let o : at + 9 ≡ at + (0 + 9) = omega arith in
        let p : i - 1 ≡ at + (0 + 9 + (m + 1 - 1)) = omega arith in
        ap (λ (j : ℕ). up_to e (from_to j (i - 1))) o ∙ ap (λ (j : ℕ). up_to e (from_to (at + (0 + 9)) j)) p
        ∙ answer_at at (read_ending D (drop at s)) (from_to (0 + 9) (0 + 9 + (m + 1 - 1))) e (sym (ap said l) ∙ a)
        ∙ ap (placed_prolog at (read_ending D (drop at s))) (sym t)

-- k bytes read before
text_on : (D : Dialect) (at k : ℕ) (x : Result) (v : List ℕ) → placed_prolog (at + k) x (read_after D 0 v) ≡ placed_prolog at (past k x) (read_after D k v)
text_on D at k x v = go (starts (ascii "<!DOCTYPE") v) x (taken (read_doctype_text D (drop 9 v)) - 1)
  where
    go : (t : Bool) (x : Result) (n : ℕ) → placed_prolog (at + k) x (pick t (from_to (0 + 9) (0 + 9 + n)) no_doctype) ≡ placed_prolog at (past k x) (pick t (from_to (k + 9) (k + 9 + n)) no_doctype)
    go t (err m j) n = ap (refuses m) (add_assoc at k j)
    go false (ok j) n = ap (λ (e : ℕ). up_to e no_doctype) (add_assoc at k j)
    go true (ok j) n =
        let e : at + k + j ≡ at + (k + j) = omega arith in
        let f : at + k + (0 + 9) ≡ at + (k + 9) = omega arith in
        let g : at + k + (0 + 9 + n) ≡ at + (k + 9 + n) = omega arith in
        rw (e, f, g)

-- XMLDecl? Misc*, and then that: r is what is said of the first
module _ (D : Dialect) (s : List ℕ) (at : ℕ) (r : Answer) (a : said r ≡ read (read_opening D) s at) where
  pub prolog_no : (x : Fault) → r ≡ Err x → opens (Err x) ≡ prolog_read D s at
  unfolding prolog_read read_prolog read said opens
  prolog_no x e = answer_no at (read_prolog D (drop at s)) (find_doctype D (drop at s)) x (seq_no (read_opening D) (read_ending D) s at x r a e)

  pub prolog_then : (i : ℕ) (p : Prolog) → r ≡ Ok i → p ≡ ending_read D s i → p ≡ prolog_read D s at
  unfolding prolog_read read_prolog ◌>>◌ ending_read find_doctype
  prolog_then i p e f =
      let (k, (g, h)) = was_ok (read_opening D) s at i r a e in
      f ∙ ap (ending_read D s) h ∙ text_on D at k (read_ending D (drop (at + k) s)) (drop (at + k) s)
      ∙ ap (λ (v : List ℕ). placed_prolog at (past k (read_ending D v)) (read_after D k v)) (sym (drop-drop k at s)) ∙ (rw g)

pub ruleset openings = (seq_no, seq_at, rules)

pub ruleset endings = (ending_no, ending_none, ending_some, doctype_some, on_yes, on_no, seq_no, seq_at, took_nothing, word_fits, not-true, not-false, rules)

pub ruleset prologs = (prolog_no, prolog_then, seq_no, seq_at, rules)

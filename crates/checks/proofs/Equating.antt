-- The value of a pseudo attribute: '=' and a literal, and a test of the literal's text. Assumes nothing.
use mathlib.Core.Path.{◌≡◌, refl, sym, ap, ◌∙◌}
use mathlib.Core.Bool.{Bool, true, false}
use mathlib.Core.List.{List}
use Prim.Native.Nat.{ℕ, ◌+◌, ◌-◌, ◌^◌, ◌<◌, ◌≤◌}
use native.Mathlib.Nat.{add-zero}
use native.Mathlib.Omega.{arith}
use borrow.Author.Rules.{rules}
use mir.Syntax.{w64}
use mir.Val.{Fits}
use lib.ListN.{length, take, drop}
use Rattle.std.specs.Prelude.{Result, Ok, Err, IsErrAnd}
use Rattle.std.proofs.lemmas.Result.{err_from_is_err_and}
use Rattle.spec.specs.Basics.{pick}
use Rattle.spec.specs.Grammar.Characters.{space}
use Rattle.spec.specs.Grammar.Languages.{ascii}
use Rattle.spec.specs.Reading.Checks.{valued, parse_eq_quoted}
use Rattle.spec.specs.Reading.Dtd.{skip_s, parse_quoted}
use Rattle.spec.specs.Reading.Readers as Readers
use Rattle.spec.specs.Reading.Readers.{Reader, ◌>>◌, nothing, refuse, starts, choose, word, run}
use Rattle.spec.specs.Reading.Refusals.{Refusal, unexpected, bad_value}
use Rattle.error.specs.Read.{Said, passed, refused, said, reason, placed, read, eaten, Answer}
use Rattle.error.specs.declared.Fault.{Fault}
use Rattle.error.proofs.Laws.{seq_no, seq_at, ate}
use Rattle.cursor.proofs.Quotes.{text_fits, text_last, text_start, text_inside, text_end, text_taken, text_refused, text_none}
use Rattle.cursor.proofs.Reading.{left_of, skip_then}
use Rattle.checks.specs.Pieces.{ValueSaid, spans, stops, quoted_said, between, after_eq, eq_quoted}
use Rattle.source.specs.declared.Span.{Span}

-- parse_eq_quoted: i is where '=' is looked for, and r what eat_str answered there
module _ (s : List ℕ) (at i : ℕ) (r : Answer) (h : i ≡ at + run space (drop at s)) (a : said r ≡ eaten (ascii "=") unexpected s i) where
  eq_read : eq_quoted s at ≡ after_eq s (said r)
  unfolding eq_quoted
  eq_read = rw (← h) (ap (after_eq s) (sym (ate (ascii "=") unexpected s i r a)))

  pub eq_missing : (x : Fault) → r ≡ Err x → quoted_said (Err x) ≡ eq_quoted s at
  unfolding said quoted_said
  eq_missing x e = sym (eq_read ∙ ap (after_eq s) (ap said e))

  -- the literal is looked for at `opening`, with the answer p
  module _ (j opening : ℕ) (p : Answer) (e : r ≡ Ok j) (g : opening ≡ j + run space (drop j s)) (b : said p ≡ read (parse_quoted nothing) s opening) where
    eq_found : eq_quoted s at ≡ between opening (said p)
    unfolding said
    eq_found = eq_read ∙ ap (λ (x : Answer). after_eq s (said x)) e ∙ (rw (← g, ← b))

    pub eq_refused : (x : Fault) → p ≡ Err x → quoted_said (Err x) ≡ eq_quoted s at
    unfolding said quoted_said
    eq_refused x f = sym (eq_found ∙ ap (λ (y : Answer). between opening (said y)) f)

    pub eq_value : (rest : ℕ) → p ≡ Ok rest → quoted_said (Ok (record { start = opening + 1; end = rest - 1 })) ≡ eq_quoted s at
    unfolding said quoted_said
    eq_value rest f = sym (eq_found ∙ ap (λ (x : Answer). between opening (said x)) f)

-- Eq, and what P reads after it
abbrev eq_then : Reader → Reader
eq_then P = skip_s >> word "=" unexpected >> skip_s >> P

-- A value at a place, from `start` to `end`: where its literal opens, how far that goes, and that P reads on at it, whatever P is.
record Between (s : List ℕ) (at start end : ℕ) : Type 0 where
  opening : ℕ
  rest : ℕ
  begins : start ≡ opening + 1
  ends : end ≡ rest - 1
  literal : said (Ok rest) ≡ read (parse_quoted nothing) s opening
  onward : (P : Reader) → read P s opening ≡ read (eq_then P) s at

-- There is one, or what stands there is refused whatever the check of its text.
data Equated (s : List ℕ) (at : ℕ) : Type 0 where
  is : (start end : ℕ) → eq_quoted s at ≡ spans start end → Between s at start end → Equated s at
  none : (n : Refusal) (k : ℕ) → eq_quoted s at ≡ stops n k → ((x : Fault) (check : List ℕ → Readers.Result) → said (Err x) ≡ refused n k → said (Err x) ≡ read (eq_then (parse_quoted check)) s at) → Equated s at

equated : (s : List ℕ) (at : ℕ) → Equated s at
unfolding eq_quoted said
equated s at = by_sign (read (word "=" unexpected) s (at + run space (drop at s))) refl
  where
    by_literal : (o : ℕ) → eq_quoted s at ≡ between o (read (parse_quoted nothing) s o) → ((P : Reader) → read P s o ≡ read (eq_then P) s at) → (x : Said) → x ≡ read (parse_quoted nothing) s o → Equated s at
    by_literal o e on (passed k) f = is _ _ (e ∙ ap (between o) (sym f)) (record { opening = o; rest = k; begins = refl; ends = refl; literal = f; onward = on })
    by_literal o e on (refused n k) f = none n k (e ∙ ap (between o) (sym f)) (λ x check g. text_none check s o x (Err x) (g ∙ f) refl ∙ on (parse_quoted check))

    by_sign : (x : Said) → x ≡ read (word "=" unexpected) s (at + run space (drop at s)) → Equated s at
    by_sign (passed i) e =
        by_literal (i + run space (drop i s)) (ap (after_eq s) (sym e))
        (λ P. skip_then s at _ refl (word "=" unexpected >> skip_s >> P) _ (seq_at (word "=" unexpected) (skip_s >> P) s _ i (Ok i) _ e refl (skip_then s i _ refl P _ refl)))
        _ refl
    by_sign (refused n k) e =
        none n k (ap (after_eq s) (sym e))
        (λ x check g. skip_then s at _ refl (word "=" unexpected >> skip_s >> parse_quoted check) _ (seq_no (word "=" unexpected) (skip_s >> parse_quoted check) s _ x (Err x) (g ∙ e) refl))

-- parse_value: q is what parse_eq_quoted answered
pub value_none : (test : List ℕ → Bool) (s : List ℕ) (at : ℕ) (x : Fault) (q : Result Span Fault) → quoted_said q ≡ eq_quoted s at → q ≡ Err x → said (Err x) ≡ read (parse_eq_quoted test) s at
unfolding parse_eq_quoted quoted_said said
value_none test s at x q a b = go (equated s at) (sym (ap quoted_said b) ∙ a)
  where
    go : Equated s at → stops (reason x.refusal) x.place ≡ eq_quoted s at → said (Err x) ≡ read (parse_eq_quoted test) s at
    go (is from to e y) c = let z : ◌≡◌ {A = ℕ} 0 1 = cc in absurd (omega arith)
    go (none n k e f) c = let m : reason x.refusal ≡ n = cc in let l : x.place ≡ k = cc in f x (valued test) (rw (m, l))

module _ (s : List ℕ) (at : ℕ) (q : Result Span Fault) (v : Span) (a : quoted_said q ≡ eq_quoted s at) (b : q ≡ Ok v) where
  value : Between s at v.start v.end
  unfolding quoted_said
  value = go (equated s at) (sym (ap quoted_said b) ∙ a)
    where
      go : Equated s at → spans v.start v.end ≡ eq_quoted s at → Between s at v.start v.end
      go (is from to e x) c = let k : from ≡ v.start = cc in let l : to ≡ v.end = cc in rw (k, l) at x
      go (none n k e f) c = let z : ◌≡◌ {A = ℕ} 0 1 = cc in absurd (omega arith)

  in_order : value.opening + 1 ≤ value.rest - 1
  in_order = text_start value.rest _ refl s value.opening value.literal

  pub value_start : v.start ≤ v.end
  value_start = omega (arith, value.begins, value.ends, in_order)

  pub value_end : v.end ≤ length s
  value_end = omega (arith, value.ends, text_end value.rest _ refl s value.opening value.literal)

  pub value_fits : length s < 2 ^ 64 → Fits w64 (v.end + 1)
  value_fits h = omega (arith, value.ends, in_order, text_inside value.rest _ refl s value.opening value.literal)

  -- as the test t of its text says
  module _ (test : List ℕ → Bool) (t : Bool) (e : t ≡ test (take (v.end - v.start) (drop v.start s))) where
    -- what the check of the value says
    checked : read (valued test) (take (value.rest - 1 - 0) (drop 0 s)) (value.opening + 1) ≡ pick t (passed v.start) (refused bad_value v.start)
    unfolding read valued choose nothing refuse
    checked = rw (left_of (value.opening + 1) (value.rest - 1) s, ← value.ends, ← value.begins, ← e) (go t)
      where
        go : (x : Bool) → placed v.start (pick x nothing (refuse bad_value) (take (v.end - v.start) (drop v.start s))) ≡ pick x (passed v.start) (refused bad_value v.start)
        go true = rw add-zero
        go false = rw add-zero

    pub value_taken : t ≡ true → said (Ok (v.end + 1)) ≡ read (parse_eq_quoted test) s at
    unfolding parse_eq_quoted said
    value_taken y =
        let z : v.end + 1 ≡ value.rest = omega (arith, value.ends, in_order) in
        ap passed z
        ∙ text_taken value.rest _ refl s value.opening value.literal (valued test) (Ok v.start) (sym (checked ∙ (rw y))) v.start refl
        ∙ value.onward (parse_quoted (valued test))

    pub value_bad : (x : Fault) → t ≡ false → said (Err x) ≡ refused bad_value v.start → said (Err x) ≡ read (parse_eq_quoted test) s at
    unfolding parse_eq_quoted
    value_bad x y f =
        text_refused value.rest _ refl s value.opening value.literal (valued test) (Err x) (f ∙ sym (checked ∙ (rw y))) x refl
        ∙ value.onward (parse_quoted (valued test))

-- what is said of a fault that `?` hands up, q
pub handed : (q : Result Span Fault) (x : Fault) (W : ValueSaid) → IsErrAnd q (λ y. y ≡ x) → quoted_said (Err x) ≡ W → quoted_said q ≡ W
handed q x W e a = let p = err_from_is_err_and q e in rw (p.1, p.2) a

-- what parse_eq_quoted searches, and what tests the value
pub ruleset equating = (eq_missing, eq_refused, eq_value, text_fits, text_last, rules)

pub ruleset testing = (value_none, value_start, value_end, value_fits, value_taken, value_bad, rules)

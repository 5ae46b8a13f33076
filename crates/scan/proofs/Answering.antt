-- Laws of the scan's answer from the answers of its two passes, and of the numbers in front; the promise fixes the answer. Assumes nothing.
use mathlib.Core.Path.{◌≡◌, refl, sym, ap, ◌∙◌}
use mathlib.Core.List.{List}
use Prim.Native.Nat.{ℕ, zero, suc, ◌+◌, ◌^◌, ◌<◌}
use native.Mathlib.Omega.{arith}
use borrow.Author.Rules.{rules}
use mir.Syntax.{w64}
use mir.Val.{Fits}
use lib.ListN.{length, drop}
use Rattle.spec.specs.Grammar.AppendixB.{appendix_b}
use Rattle.spec.specs.Grammar.Languages.{one_of}
use Rattle.spec.specs.Reading.Readers.{nothing}
use Rattle.spec.specs.Reading.Source.{checked}
use Rattle.spec.specs.Reading.Scan as Rule
use Rattle.spec.specs.Reading.Places.{at}
use Rattle.spec.specs.Reading.Scan.{Scan, subset_open, subset_end, scan_from, scan_after}
use Rattle.spec.proofs.Agreement.Accepts.{looked_at}
use Rattle.spec.proofs.Characters.AppendixB.{appendix_b_ascii}
use Rattle.spec.proofs.Base.Outside.{outside_within}
use Rattle.spec.proofs.Division.Promised.{cuts_promise}
use Rattle.search.specs.Places.{found, place_from}
use Rattle.std.specs.Prelude.{Option, Some, None, Result, Ok, Err}
use Rattle.search.proofs.Placing.{from_nowhere, from_here}
use Rattle.scan.specs.declared.calls.Scanned.{Scanned}
use Rattle.scan.specs.declared.calls.Scanned.TheVariants.{NotOpened, NotClosed, Closed}
use Rattle.error.specs.Read.{Verdict, code, reason}
use Rattle.error.specs.declared.refusal.Refusal.{Refusal}
use Rattle.error.proofs.Numbers.{number_inj}
use Rattle.spec.specs.Reading.Refusals.{number}
use Rattle.spec.proofs.Base.Results.{number_pos}
use Rattle.scan.specs.Answers.{Gives, gives, gives_none, scan_of, scan_gives, by_rule, Scans}

-- the first pass over s gave o
module _ (s : List ℕ) (o : Option ℕ) (a : found o ≡ place_from subset_open s 0) where
  pub scan_not_opened : o ≡ None → scan_of NotOpened ≡ Rule.scan s
  unfolding scan_of Rule.scan
  scan_not_opened b = rw (from_nowhere subset_open s 0 o a b)

  module _ (i : ℕ) (b : o ≡ Some i) where
    open_at : subset_open s ≡ at i
    open_at = let (n, e, f) = from_here subset_open s 0 o a i b in let z : n ≡ i = omega arith in e ∙ ap at z

    pub scan_fits : length s < 2 ^ 64 → Fits w64 (i + 1)
    scan_fits h = omega (arith, outside_within (one_of "[") 0 s i open_at)

    -- the second pass, from the next byte on, gave e
    module _ (e : Option ℕ) (c : found e ≡ place_from (subset_end 0 0) s (i + 1)) where
      opened : Rule.scan s ≡ scan_after (i + 1) (subset_end 0 0 (drop (i + 1) s))
      unfolding Rule.scan
      opened = let n : suc i ≡ i + 1 = omega arith in ap (scan_from s) open_at ∙ ap (λ (k : ℕ). scan_after k (subset_end 0 0 (drop k s))) n

      pub scan_not_closed : e ≡ None → scan_of NotClosed ≡ Rule.scan s
      unfolding scan_of
      scan_not_closed d = rw (opened, from_nowhere (subset_end 0 0) s (i + 1) e c d)

      pub scan_closed : (j : ℕ) → e ≡ Some j → scan_of (Closed j) ≡ Rule.scan s
      unfolding scan_of
      scan_closed j d = let (n, f, g) = from_here (subset_end 0 0) s (i + 1) e c j d in ap Rule.closed g ∙ (rw (opened, f))

-- the numbers in front: a is what admit gave
module _ (w : List ℕ) (a : Verdict) (e : code a ≡ checked nothing w) where
  -- whoever gives that number and the rule's answer keeps the promise, for a front part that may be looked at has the number 0 in front
  promised : (r : Result Scanned Refusal) → code r ≡ code a → scan_gives r ≡ by_rule (code a) w → Scans w r
  promised r m f = record {
    number = m ∙ e;
    rule = f ∙ ap (λ (k : ℕ). by_rule k w) e;
    cuts = cuts_promise appendix_b appendix_b_ascii w (λ a. scan_gives r ≡ gives a) (λ t. f ∙ ap (λ (k : ℕ). by_rule k w) (e ∙ looked_at w t));
  }

  pub scan_refused : (x : Refusal) → a ≡ Err x → Scans w (Err x)
  scan_refused x y = promised (Err x) (sym (ap code y)) (go (code a) (λ z. let p = number_pos (reason x) in let q : code a ≡ number (reason x) = ap code y in omega arith))
    where
      go : (n : ℕ) → (n ≡ 0 → ⊥) → gives_none ≡ by_rule n w
      go zero z = absurd (z refl)
      go (suc n) z = refl

  pub scan_answered : (r : Scanned) → a ≡ Ok tt → scan_of r ≡ Rule.scan w → Scans w (Ok r)
  scan_answered r y f = promised (Ok r) (sym (ap code y)) (ap gives f ∙ ap (λ (k : ℕ). by_rule k w) (sym (ap code y)))

-- The promise fixes the answer: a number and what is given with it are those of one case.
case_of : Gives → Scanned
case_of (gives Rule.not_opened) = NotOpened
case_of (gives Rule.not_closed) = NotClosed
case_of (gives (Rule.closed i)) = Closed i
case_of gives_none = NotOpened

case_is : (r : Scanned) → case_of (gives (scan_of r)) ≡ r
unfolding scan_of case_of
case_is NotOpened = refl
case_is NotClosed = refl
case_is (Closed i) = refl

pub fixed : (w : List ℕ) (r r' : Result Scanned Refusal) → Scans w r → Scans w r' → r ≡ r'
fixed w r r' a b = go r r' (a.number ∙ sym b.number) (a.rule ∙ sym b.rule)
  where
    go : (r r' : Result Scanned Refusal) → code r ≡ code r' → scan_gives r ≡ scan_gives r' → r ≡ r'
    go (Ok r) (Ok q) e f = ap Ok (sym (case_is r) ∙ ap case_of f ∙ case_is q)
    go (Ok r) (Err y) e f = let p = number_pos (reason y) in absurd (omega arith)
    go (Err x) (Ok q) e f = let p = number_pos (reason x) in absurd (omega arith)
    go (Err x) (Err y) e f = ap Err (number_inj x y e)

pub ruleset answering = (scan_not_opened, scan_fits, scan_not_closed, scan_closed, scan_refused, scan_answered, rules)

-- What the calls search. Each law is one way through a call, and its premises are the tests and the calls on that way. Assumes nothing.
use mathlib.Core.Path.{◌≡◌, refl, sym, ap, ◌∙◌}
use mathlib.Core.Bool.{true, false, ◌||◌, not}
use mathlib.Core.List.{List}
use Prim.Native.Nat.{ℕ, zero, suc, ◌+◌, ◌<◌, ◌≤◌}
use native.Mathlib.Omega.{arith}
use Rattle.std.proofs.lemmas.Bool.{cases_lt}
use Rattle.std.proofs.Common.{◌⊎◌, inl, inr, min, ltb, ◌^◌, ◌-◌}
use borrow.Author.Rules.{rules}
use borrow.Author.Tests.{le-ltb, lt-ltb}
use lib.Dec.{eqb}
use Rattle.std.specs.Prelude.{Result, Ok, Err, IsErrAnd}
use Rattle.std.specs.Result.{result_from_control_flow}
use Rattle.std.proofs.Common.{Break, Continue}
use Rattle.std.proofs.lemmas.Result.{err_from_is_err_and}
use Rattle.spec.specs.Basics.{pick}
use Rattle.spec.specs.Grammar.AppendixB.{appendix_b}
use Rattle.spec.specs.Reading.Checks.{check_declaration}
use Rattle.spec.specs.Reading.Dtd.{check_doctype}
use Rattle.spec.specs.Reading.Gate as G
use Rattle.spec.specs.Reading.Gate.{Record, Outcome, says_open, says, one_more, answered, unless}
use Rattle.spec.specs.Reading.Readers.{number_of, nothing}
use Rattle.spec.specs.Reading.Refusals.{number}
use Rattle.spec.specs.Reading.Scan.{scan}
use Rattle.spec.specs.Reading.Source.{checked}
use Rattle.spec.specs.Reading.Wellformed.{check_chars}
use Rattle.spec.proofs.Base.Results.{number_pos}
use Rattle.error.specs.Read.{Verdict, code, reason}
use Rattle.error.specs.declared.refusal.Refusal.{Refusal}
use Rattle.scan.specs.declared.calls.Scanned.{Scanned}
use Rattle.scan.specs.declared.calls.Scanned.TheVariants.{NotOpened, NotClosed, Closed}
use Rattle.scan.specs.Answers.{scan_of}
use Rattle.gate.specs.declared.record.Gate.{Gate}
use Rattle.gate.specs.declared.record.Docked.{Docked}
use Rattle.gate.specs.declared.record.Docked.TheVariants.{Whole, Open}
use Rattle.gate.specs.Promises.{recorded, tallied, replied, numbered, answered_by, Declares, Docks}

-- the record after something was read, and after a DOCTYPE was seen
abbrev begun : Gate → Gate
begun g = record { started = true; seen = g.seen; «open» = g.«open»; refused = g.refused }

abbrev met : Gate → Gate
met g = record { started = true; seen = true; «open» = g.«open»; refused = g.refused }

abbrev opened : Gate → Gate
opened g = record { started = true; seen = true; «open» = true; refused = g.refused }

-- a refusal is counted, and nothing else
refusal_counts : (g : Record) (x : Refusal) → (answered g (number (reason x))).left ≡ G.count g
refusal_counts g x = go (number (reason x)) (number_pos (reason x))
  where
    go : (n : ℕ) → 0 < n → (answered g n).left ≡ G.count g
    go zero h = absurd (omega arith)
    go (suc n) h = refl

answer_is : (g : Record) (n : ℕ) → says n ≡ (answered g n).answer
answer_is g zero = refl
answer_is g (suc n) = refl

-- `decl`: k is the record without the count
module _ (g k h : Gate) (w : List ℕ) (v : Verdict) (e : numbered k (code v) ≡ G.decl (recorded g) w) where
  pub declares : recorded h ≡ tallied v (recorded k) → Declares g w h (code v)
  unfolding numbered
  declares f = record { answer = answer_is (recorded k) (code v) ∙ ap (λ (o : Outcome). o.answer) e; left = f ∙ go v ∙ ap (λ (o : Outcome). o.left) e }
    where
      go : (v : Verdict) → tallied v (recorded k) ≡ (answered (recorded k) (code v)).left
      go (Ok u) = refl
      go (Err x) = sym (refusal_counts (recorded k) x)

-- a check in front of the rest
stops : (x : Refusal) (g : Record) (rest : Outcome) → answered g (number (reason x)) ≡ unless (number (reason x)) g rest
stops x g rest = go (number (reason x)) (number_pos (reason x))
  where
    go : (n : ℕ) → 0 < n → answered g n ≡ unless n g rest
    go zero h = absurd (omega arith)
    go (suc n) h = refl

-- a is what admit gave, and b where `?` goes on or leaves after it
module _ (g : Gate) (w : List ℕ) (a : Verdict) (c : code a ≡ checked nothing w) (b : _) (p : a ≡ result_from_control_flow b) where
  module _ (f : _) (t : b ≡ Break f) where
    front : number (reason f.0) ≡ checked nothing w
    front = sym (ap code (p ∙ ap result_from_control_flow t)) ∙ c

    pub decl_refused : (q : Verdict) → IsErrAnd q (λ y. y ≡ f.0) → numbered g (code q) ≡ G.decl (recorded g) w
    unfolding numbered G.decl
    decl_refused q k = let z = err_from_is_err_and q k in rw (z.1, z.2, ← front) (stops f.0 (recorded g) _)

    pub dock_refused : (phase : ℕ) (q : Result Docked Refusal) → IsErrAnd q (λ y. y ≡ f.0) → answered_by g q ≡ G.doctype appendix_b (recorded g) phase w
    unfolding answered_by numbered G.doctype
    dock_refused phase q k = let z = err_from_is_err_and q k in rw (z.1, z.2, ← front) (stops f.0 (recorded g) _)

  module _ (u : Unit {0}) (t : b ≡ Continue u) where
    nought : checked nothing w ≡ 0
    nought = sym c ∙ ap code (p ∙ ap result_from_control_flow t)

    pub decl_late : g.started ≡ true → numbered g 21 ≡ G.decl (recorded g) w
    unfolding numbered G.decl recorded
    decl_late s = rw (nought, s)

    pub decl_first : (v : Verdict) → g.started ≡ false → code v ≡ number_of (check_declaration w) → numbered (begun g) (code v) ≡ G.decl (recorded g) w
    unfolding numbered G.decl recorded
    decl_first v s e = rw (nought, s, e)

    -- the characters: m is what their check gave, and d where `?` goes on or leaves after it
    module _ (phase : ℕ) (m : Verdict) (e : code m ≡ number_of (check_chars w)) (d : _) (r : m ≡ result_from_control_flow d) where
      pub dock_char : (f : _) (q : Result Docked Refusal) → d ≡ Break f → IsErrAnd q (λ y. y ≡ f.0) → answered_by (begun g) q ≡ G.doctype appendix_b (recorded g) phase w
      unfolding answered_by numbered G.doctype recorded
      dock_char f q s k =
          let z = err_from_is_err_and q k in
          let y : number (reason f.0) ≡ number_of (check_chars w) = sym (ap code (r ∙ ap result_from_control_flow s)) ∙ e in
          rw (z.1, z.2, nought, ← y) (stops f.0 (G.start (recorded g)) _)

      module _ (v : Unit {0}) (s : d ≡ Continue v) where
        legal : number_of (check_chars w) ≡ 0
        legal = sym e ∙ ap code (r ∙ ap result_from_control_flow s)

        pub dock_late : (x : Refusal) → (g.seen || not (eqb phase 0)) ≡ true → number (reason x) ≡ 21 → answered_by (begun g) (Err x) ≡ G.doctype appendix_b (recorded g) phase w
        unfolding answered_by numbered G.doctype recorded
        dock_late x i j = rw (nought, legal, i, j)

        module _ (first : (g.seen || not (eqb phase 0)) ≡ false) where
          scanned : G.doctype appendix_b (recorded g) phase w ≡ G.by_scan appendix_b (scan w) (recorded (met g)) w
          unfolding G.doctype recorded
          scanned = rw (nought, legal, first)

          pub dock_open : (o : Scanned) → scan_of o ≡ scan w → o ≡ NotClosed → answered_by (opened g) (Ok Open) ≡ G.doctype appendix_b (recorded g) phase w
          unfolding answered_by recorded scan_of
          dock_open o i j = sym (scanned ∙ (rw (sym i ∙ ap scan_of j)))

          -- where the scan does not say "not closed", the grammar decides: k is what it says, and z where `?` goes on or leaves after it
          module _ (o : Scanned) (i : scan_of o ≡ scan w) (n : o ≡ NotClosed → ⊥) (k : Verdict) (l : code k ≡ number_of (check_doctype appendix_b w)) (z : _) (y : k ≡ result_from_control_flow z) where
            decided : G.doctype appendix_b (recorded g) phase w ≡ answered (recorded (met g)) (number_of (check_doctype appendix_b w))
            unfolding scan_of
            decided = scanned ∙ go o n (sym i)
              where
                go : (o : Scanned) → (o ≡ NotClosed → ⊥) → scan w ≡ scan_of o → G.by_scan appendix_b (scan w) (recorded (met g)) w ≡ answered (recorded (met g)) (number_of (check_doctype appendix_b w))
                go NotOpened n e = rw e
                go NotClosed n e = absurd (n refl)
                go (Closed i) n e = rw e

            pub dock_wrong : (f : _) (q : Result Docked Refusal) → z ≡ Break f → IsErrAnd q (λ y. y ≡ f.0) → answered_by (met g) q ≡ G.doctype appendix_b (recorded g) phase w
            unfolding answered_by numbered
            dock_wrong f q x j =
                let v = err_from_is_err_and q j in
                let h : number (reason f.0) ≡ number_of (check_doctype appendix_b w) = sym (ap code (y ∙ ap result_from_control_flow x)) ∙ l in
                rw (v.1, v.2, h) (sym decided)

            pub dock_whole : (x : Unit {0}) → z ≡ Continue x → answered_by (met g) (Ok Whole) ≡ G.doctype appendix_b (recorded g) phase w
            unfolding answered_by numbered
            dock_whole x j =
                let h : 0 ≡ number_of (check_doctype appendix_b w) = sym (ap code (y ∙ ap result_from_control_flow j)) ∙ l in
                ap (answered (recorded (met g))) h ∙ sym decided

-- `doctype`: k is the record without the count
module _ (g k h : Gate) (phase : ℕ) (w : List ℕ) (r : Result Docked Refusal) (e : answered_by k r ≡ G.doctype appendix_b (recorded g) phase w) where
  pub docks : recorded h ≡ tallied r (recorded k) → Docks g phase w h r
  unfolding answered_by numbered
  docks f = record { answer = go r ∙ ap (λ (o : Outcome). o.answer) e; left = f ∙ kept r ∙ ap (λ (o : Outcome). o.left) e }
    where
      go : (r : Result Docked Refusal) → replied r ≡ (answered_by k r).answer
      go (Ok Whole) = refl
      go (Ok Open) = refl
      go (Err x) = answer_is (recorded k) (number (reason x))

      kept : (r : Result Docked Refusal) → tallied r (recorded k) ≡ (answered_by k r).left
      kept (Ok Whole) = refl
      kept (Ok Open) = refl
      kept (Err x) = sym (refusal_counts (recorded k) x)

-- the count, held at its limit
held : (n : ℕ) → min (n + 1) 65_535 ≡ one_more n
unfolding one_more
held n = go (cases_lt n 65_535)
  where
    go : (n < 65_535) ⊎ (65_535 ≤ n) → min (n + 1) 65_535 ≡ pick (ltb n 65_535) (n + 1) 65_535
    go (inl h) = rw (lt-ltb n 65_535 h) (omega arith)
    go (inr h) = rw (le-ltb n 65_535 h) (omega arith)

pub count_held : (g : Gate) (k : ℕ) → k ≡ min (g.refused + 1) (2 ^ 16 - 1) → recorded (record { started = g.started; seen = g.seen; «open» = g.«open»; refused = k }) ≡ G.count (recorded g)
unfolding recorded
count_held g k e = rw (e, held g.refused)

pub ruleset reading = (decl_refused, decl_late, decl_first, dock_refused, dock_char, dock_late, dock_open, dock_wrong, dock_whole, count_held, rules)

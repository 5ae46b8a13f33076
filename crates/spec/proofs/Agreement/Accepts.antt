-- From a rule that agrees with the grammar to what a public call promises. Assumes nothing.
use mathlib.Core.Bool.{Bool, true, false, ◌&&◌, true≢false}
use mathlib.Core.List.{List}
use mathlib.Core.Logic.{◌↔◌}
use mathlib.Core.Path.{◌≡◌, refl, sym, ◌∙◌}
use Prim.Native.Nat.{ℕ}
use native.Mathlib.Omega.{arith}
use lib.Dec.{eqb}
use Rattle.spec.specs.Grammar.Characters.{Text}
use Rattle.spec.specs.Grammar.Languages.{Lang}
use Rattle.spec.specs.Promises.{Accepted, Checks, Tells}
use Rattle.spec.specs.Reading.Readers.{Result, ok, err, Reader, number_of, on_ok, nothing}
use Rattle.spec.specs.Reading.Source.{admit, checked}
use Rattle.spec.proofs.Base.Results.{number_pos}
use Rattle.spec.proofs.Base.Tests.{true→T, false→no, eqb-true, eqb_yes}
use Rattle.spec.proofs.Characters.Valid.{admit_ok, admits}

-- a rule takes of the texts just those that the grammar derives
pub record Agrees (rule : Reader) (L : Lang) : Type 0 where
  pub sound : (w : List ℕ) (k : ℕ) → Text w → rule w ≡ ok k → L w
  pub complete : (w : List ℕ) → L w → (k : ℕ) × (rule w ≡ ok k)
  pub text : (w : List ℕ) → L w → Text w

-- a test holds of the texts for just those that the grammar derives
pub record Decides (test : List ℕ → Bool) (L : Lang) : Type 0 where
  pub answer : (w : List ℕ) → Text w → (test w ≡ true) ↔ L w
  pub text : (w : List ℕ) → L w → Text w

-- 0 is given where the text may be looked at and the rule takes it
pub zero_ok : (x : Result) → number_of x ≡ 0 → (k : ℕ) × (x ≡ ok k)
zero_ok (ok k) e = (k, refl)
zero_ok (err r j) e = absurd (let h = number_pos r in omega arith)

checked_zero : (rule : Reader) (w : List ℕ) → checked rule w ≡ 0 → Accepted Text w × ((k : ℕ) × (rule w ≡ ok k))
unfolding checked
checked_zero rule w e = go (admit w) refl e
  where
    go : (x : Result) → admit w ≡ x → number_of (on_ok x (λ k. rule w)) ≡ 0 → Accepted Text w × ((k : ℕ) × (rule w ≡ ok k))
    go (ok k) f e = (admit_ok w k f, zero_ok (rule w) e)
    go (err r j) f e = absurd (let h = number_pos r in omega arith)

zero_checked : (rule : Reader) (w : List ℕ) (k : ℕ) → Accepted Text w → rule w ≡ ok k → checked rule w ≡ 0
unfolding checked
zero_checked rule w k (h, t) e = let (j, a) = admits w h t in rw (a, e)

-- a text that may be looked at has no number in front
pub looked_at : (w : List ℕ) → Accepted Text w → checked nothing w ≡ 0
unfolding nothing
looked_at w a = zero_checked nothing w 0 a refl

-- the number in front of a call and the call's own: where it is not 0 it is the answer, where it is 0 the rule decides
module _ (rule : Reader) (w : List ℕ) (n : ℕ) (e : n ≡ checked nothing w) where
  pub not_admitted : (n ≡ 0 → ⊥) → n ≡ checked rule w
  unfolding checked nothing
  not_admitted z = go (admit w) e
    where
      go : (x : Result) → n ≡ number_of (on_ok x (λ k. ok 0)) → n ≡ number_of (on_ok x (λ k. rule w))
      go (ok k) f = absurd (z f)
      go (err r j) f = f

  pub admitted : (m : ℕ) → n ≡ 0 → m ≡ number_of (rule w) → m ≡ checked rule w
  unfolding checked
  admitted m z f = let ((h, t), _) = checked_zero nothing w (sym e ∙ z) in let (k, a) = admits w h t in f ∙ (rw a)

-- what a check promises, from the number that it gives
pub promise : {rule : Reader} {L : Lang} → Agrees rule L → (w : List ℕ) (n : ℕ) → n ≡ checked rule w → Checks rule L w n
promise {rule} {L} a w n e =
    record {
      number = e;
      grammar = (
        λ z. let ((h, t), (k, f)) = checked_zero rule w (sym e ∙ z) in (h, a.sound w k t f),
        λ (h, l). let (k, f) = a.complete w l in e ∙ zero_checked rule w k (h, a.text w l) f,
      );
    }

-- what a yes-or-no call promises, from the number and its test; and where the number is not 0
pub told : {test : List ℕ → Bool} {L : Lang} → Decides test L → (w : List ℕ) (n : ℕ) (b : Bool) → n ≡ checked nothing w → n ≡ 0 → b ≡ test w → Tells L w n b
told {test} {L} d w n b e z f =
    let ((h, t), _) = checked_zero nothing w (sym e ∙ z) in
    record {
      number = e;
      answer = (λ y. (h, (d.answer w t).0 (sym f ∙ y)), λ (h, l). f ∙ (d.answer w t).1 l);
    }

pub told_no : {test : List ℕ → Bool} {L : Lang} → Decides test L → (w : List ℕ) (n : ℕ) → n ≡ checked nothing w → (n ≡ 0 → ⊥) → Tells L w n false
told_no {test} {L} d w n e z =
    record {
      number = e;
      answer = (λ y. absurd (true≢false (sym y)), λ (h, l). absurd (z (e ∙ looked_at w (h, d.text w l))));
    }

-- a yes-or-no call whose answer is no with 1 and 2, and else its test's
pub tells : {test : List ℕ → Bool} {L : Lang} → Decides test L → (w : List ℕ) → Tells L w (checked nothing w) (eqb (checked nothing w) 0 && test w)
tells {test} {L} d w = go (eqb (checked nothing w) 0) refl
  where
    go : (b : Bool) → eqb (checked nothing w) 0 ≡ b → Tells L w (checked nothing w) (b && test w)
    go true e = told d w (checked nothing w) (test w) refl (eqb-true (checked nothing w) 0 e) refl
    go false e = told_no d w (checked nothing w) refl (λ z. false→no (eqb (checked nothing w) 0) e (true→T (eqb (checked nothing w) 0) (eqb_yes (checked nothing w) 0 z)))

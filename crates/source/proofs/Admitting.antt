-- Laws of what stands in front of a public call: the two numbers in their order, and the answer of is_utf8. Assumes nothing.
use mathlib.Core.Path.{◌≡◌, refl, sym, ap, ◌∙◌}
use mathlib.Core.Logic.{◌⊎◌, inl, inr}
use mathlib.Core.Bool.{Bool, true, false, true≢false}
use mathlib.Core.List.{List}
use Prim.Native.Nat.{ℕ, suc, ◌<◌, ◌≤◌}
use native.Mathlib.Omega.{arith}
use borrow.Author.Rules.{rules}
use borrow.Author.Tests.{eqb-true, eqb-false}
use lib.Dec.{eqb}
use lib.ListN.{length}
use Rattle.std.specs.Prelude.{Ok, Err, IsErrAnd}
use Rattle.std.specs.Result.{result_from_control_flow}
use Rattle.std.proofs.Common.{Break, Continue}
use Rattle.std.proofs.lemmas.Result.{err_from_is_err_and}
use Rattle.error.specs.Read.{Verdict, Answer, code, said, reason, answer_number, read}
use Rattle.error.specs.declared.refusal.Refusal.{Refusal}
use Rattle.error.proofs.Laws.{answered}
use Rattle.spec.proofs.Base.Results.{number_pos}
use Rattle.spec.specs.Basics.{pick, limit}
use Rattle.spec.specs.Grammar.Languages.{Lang}
use Rattle.spec.specs.Grammar.Characters.{Text}
use Rattle.spec.specs.Reading.Refusals.{not_utf8}
use Rattle.spec.specs.Reading.Readers.{Result, ok, err, Reader, number_of, on_ok, nothing}
use Rattle.spec.specs.Reading.Source.{utf8, admit, checked}
use Rattle.spec.specs.Promises.{Checks, Tells}
use Rattle.spec.proofs.Base.Tests.{leb_yes, leb_no}
use Rattle.spec.proofs.Characters.Valid.{utf8_cases, utf8_complete}
use Rattle.spec.proofs.Agreement.Accepts.{Agrees, Decides, admitted, not_admitted, promise, told, told_no}
use Rattle.utf8.specs.Seen.{accepts}

-- 1 before 2
pub admit_long : (w : List ℕ) → limit < length w → 1 ≡ checked nothing w
unfolding checked admit
admit_long w h = rw (leb_yes _ _ h)

module _ (w : List ℕ) (b : Bool) (h : length w ≤ limit) (e : b ≡ accepts (utf8 w)) where
  admit_utf8 : pick b 0 2 ≡ checked nothing w
  unfolding checked admit nothing
  admit_utf8 = rw (leb_no (suc limit) (length w) (omega arith)) (go (utf8_cases w))
    where
      go : Text w ⊎ ((k : ℕ) × (utf8 w ≡ err not_utf8 k)) → pick b 0 2 ≡ number_of (on_ok (utf8 w) (λ k. nothing w))
      go (inl t) = rw (e, utf8_complete w t)
      go (inr (k, f)) = rw (e, f)

  pub admit_yes : b ≡ true → 0 ≡ checked nothing w
  admit_yes f = rw f at admit_utf8

  pub admit_no : b ≡ false → 2 ≡ checked nothing w
  admit_no f = rw f at admit_utf8

-- a rule that agrees with the grammar decides by whether it takes the text
accepts_ok : (x : Result) → accepts x ≡ true → (k : ℕ) × (x ≡ ok k)
accepts_ok (ok k) e = (k, refl)
accepts_ok (err r j) e = absurd (true≢false (sym e))

pub decides : {rule : Reader} {L : Lang} → Agrees rule L → Decides (λ w. accepts (rule w)) L
decides {rule} {L} a =
    record {
      answer = λ w t. (λ e. let (k, f) = accepts_ok (rule w) e in a.sound w k t f, λ l. let (k, f) = a.complete w l in ap accepts f);
      text = a.text;
    }

-- where nothing more is asked than that it is a text, the number tells all
pub told_text : (w : List ℕ) (n : ℕ) → n ≡ checked nothing w → Tells Text w n (eqb n 0)
told_text w n e = go (eqb n 0) refl
  where
    all : Decides (λ w. true) Text
    all = record { answer = λ w t. (λ _. t, λ _. refl); text = λ w t. t }

    go : (b : Bool) → eqb n 0 ≡ b → Tells Text w n b
    go true f = told all w n true e (eqb-true n 0 f) refl
    go false f = told_no all w n e (eqb-false n 0 f)

-- a public check after admit: r is what stands in front, and q what is answered in the end
module _ (rule : Reader) (L : Lang) (w : List ℕ) (r : Verdict) (e : code r ≡ checked nothing w) where
  pub call_refused : (x : Refusal) → Agrees rule L → r ≡ Err x → Checks rule L w (code {A = Unit {0}} (Err x))
  call_refused x a f = promise a w _ (not_admitted rule w _ (sym (ap code f) ∙ e) (λ z. let y = number_pos (reason x) in omega arith))

  pub call_answered : (u : Unit {0}) (q : Verdict) → Agrees rule L → r ≡ Ok u → code q ≡ number_of (rule w) → Checks rule L w (code q)
  call_answered u q a f g = promise a w _ (admitted rule w _ e _ (ap code f) g)

  -- the same as `?` has it: b is where it goes on or leaves
  pub call_left : (b : _) (f : _) (q : Verdict) → r ≡ result_from_control_flow b → b ≡ Break f → IsErrAnd q (λ y. y ≡ f.0) → Agrees rule L → Checks rule L w (code q)
  call_left b f q g h k a = let p = err_from_is_err_and q k in rw (p.1, p.2) (call_refused f.0 a (g ∙ ap result_from_control_flow h))

  pub call_passed : (b : _) (u : Unit {0}) (q : Verdict) → r ≡ result_from_control_flow b → b ≡ Continue u → Agrees rule L → code q ≡ number_of (rule w) → Checks rule L w (code q)
  call_passed b u q g h a k = call_answered u q a (g ∙ ap result_from_control_flow h) k

-- a rule whose answer has a place, asked only whether it refuses: `?` leaves by From<Fault>
module _ (rule : Reader) (w : List ℕ) (a : Answer) (h : said a ≡ read rule w 0) where
  pub place_left : (b : _) (f : _) (q : Verdict) → a ≡ result_from_control_flow b → b ≡ Break f → IsErrAnd q (λ y. y ≡ f.0.refusal) → code q ≡ number_of (rule w)
  place_left b f q g e k = let p = err_from_is_err_and q k in rw (p.1, p.2) (ap answer_number (sym (g ∙ ap result_from_control_flow e)) ∙ answered rule w a h)

  pub place_passed : (b : _) (i : ℕ) → a ≡ result_from_control_flow b → b ≡ Continue i → 0 ≡ number_of (rule w)
  place_passed b i g e = ap answer_number (sym (g ∙ ap result_from_control_flow e)) ∙ answered rule w a h

-- what the proofs of other crates' public calls search, with the agreement of their rule
pub ruleset calling = (call_refused, call_answered, call_left, call_passed, told, told_no, rules)

-- what the proofs of this crate's public calls search
pub ruleset admitting = (admit_long, admit_yes, admit_no, told_text, rules)

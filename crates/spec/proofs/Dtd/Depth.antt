-- When the limit on open groups decides: the refusal of one group too many is met exactly when, whatever it is, it is the answer, and an
-- answer that is not this refusal is the answer under every larger limit. Assumes nothing.
use mathlib.Core.Bool.{Bool, true, false, not}
use mathlib.Core.List.{List}
use mathlib.Core.Logic.{◌↔◌, ◌⊎◌, inl, inr}
use mathlib.Core.Path.{◌≡◌, refl, sym, ◌∙◌, ap, subst}
use Prim.Native.Nat.{ℕ, ◌+◌, ◌-◌, ◌≤◌}
use native.Mathlib.Omega.{arith}
use lib.Dec.{T, ltb, eqb}
use lib.ListN.{length}
use Rattle.spec.specs.Basics.{pick, limit}
use Rattle.spec.specs.Grammar.Characters.{Text}
use Rattle.spec.specs.Grammar.Names.{Dialect, with_groups}
use Rattle.spec.specs.Reading.Dtd.{doctype_before, check_doctype}
use Rattle.spec.specs.Reading.Readers.{Result, ok, err, number_of, on_ok, at_end}
use Rattle.spec.specs.Reading.Refusals.{Refusal, too_long, not_utf8, trailing, too_deep}
use Rattle.spec.specs.Reading.Source.{utf8, admit, checked}
use Rattle.spec.proofs.Base.Results.{err_place}
use Rattle.spec.proofs.Characters.Valid.{utf8_cases, utf8_complete}
use Rattle.spec.proofs.Dtd.DepthAlike.{other, Alike, met, same}
use Rattle.spec.proofs.Dtd.DepthReaders.{doctype}

not_20 : (a : Result) → T (other a) → number_of a ≡ 20 → ⊥
not_20 a t e = subst (λ (n : ℕ). T (not (eqb n 20))) e t

-- the two ways to be alike
first_way : {j : ℕ} {y : Refusal} {a b : Result} → Alike j y a b → (k : ℕ) → a ≡ err too_deep k → j ≡ 0 → b ≡ err y k
first_way {j} {y} {a} {b} (met i e m) k f z = m z ∙ ap (err y) (err_place too_deep i k (sym e ∙ f))
first_way {j} {y} {a} {b} (same e t) k f z = absurd (not_20 a t (ap number_of f))

second_way : {j : ℕ} {y : Refusal} {a b : Result} → Alike j y a b → ((k : ℕ) → a ≡ err too_deep k → ⊥) → b ≡ a
second_way (met k e m) n = absurd (n k e)
second_way (same e t) n = sym e

-- 20 is the number of no other refusal that is met
deep_err : {j : ℕ} {y : Refusal} {a b : Result} → Alike j y a b → number_of a ≡ 20 → (k : ℕ) × (a ≡ err too_deep k)
deep_err (met k e m) f = (k, e)
deep_err {j} {y} {a} (same e t) f = absurd (not_20 a t f)

-- under the limit of D, with the refusal too_deep and with x
module _ (D : Dialect) (w : List ℕ) where
  limited : (x : Refusal) → Alike 0 x (check_doctype D w) (doctype_before D x (at_end trailing) w)
  limited x = (doctype D D.groups 0 (omega arith) x).it w

  -- a text for which the refusal of one group too many is the answer, whatever it is, and at one place
  abbrev pub Deep : Type 0
  Deep = (k : ℕ) × ((x : Refusal) → doctype_before D x (at_end trailing) w ≡ err x k)

  met_exactly : ((k : ℕ) × (check_doctype D w ≡ err too_deep k)) ↔ Deep
  unfolding check_doctype
  met_exactly = (λ (k, e). (k, λ x. first_way (limited x) k e refl), λ (k, all). (k, all too_deep))

-- where it is not met, a larger limit changes nothing
deeper_same : (D : Dialect) (h j : ℕ) (w : List ℕ) → ((k : ℕ) → check_doctype (with_groups D h) w ≡ err too_deep k → ⊥) → check_doctype (with_groups D (h + j)) w ≡ check_doctype (with_groups D h) w
unfolding check_doctype
deeper_same D h j w n = second_way ((doctype (with_groups D h) (h + j) j refl too_deep).it w) n

-- of the public number

-- 1 and 2 are not 20
admit_other : (w : List ℕ) → T (other (admit w))
unfolding admit
admit_other w = go (ltb limit (length w)) (utf8_cases w)
  where
    go : (b : Bool) → Text w ⊎ ((k : ℕ) × (utf8 w ≡ err not_utf8 k)) → T (other (pick b (err too_long 0) (utf8 w)))
    go true c = tt
    go false (inl t) = rw (utf8_complete w t) tt
    go false (inr (k, e)) = rw e tt

module _ (D : Dialect) where
  pub met_at_20 : (w : List ℕ) → (checked (check_doctype D) w ≡ 20) ↔ (((k : ℕ) × (admit w ≡ ok k)) × Deep D w)
  unfolding checked check_doctype
  met_at_20 w = (go (admit w) refl (admit_other w), λ ((k, f), (i, all)). rw f (ap number_of (all too_deep)))
    where
      go : (a : Result) → admit w ≡ a → T (other a) → number_of (on_ok a (λ k. check_doctype D w)) ≡ 20 → ((k : ℕ) × (admit w ≡ ok k)) × Deep D w
      go (ok k) f t e = ((k, f), (met_exactly D w).0 (deep_err (limited D w too_deep) e))
      go (err r j) f t e = absurd (not_20 (err r j) t e)

  pub unmet_free : (w : List ℕ) → (checked (check_doctype D) w ≡ 20 → ⊥) → (n : ℕ) → D.groups ≤ n → checked (check_doctype (with_groups D n)) w ≡ checked (check_doctype D) w
  unfolding checked
  unmet_free w z n h = go (admit w) z
    where
      go : (a : Result) → (number_of (on_ok a (λ k. check_doctype D w)) ≡ 20 → ⊥)
          → number_of (on_ok a (λ k. check_doctype (with_groups D n) w)) ≡ number_of (on_ok a (λ k. check_doctype D w))
      go (ok k) z =
          let e : D.groups + (n - D.groups) ≡ n = omega arith in
          subst (λ (i : ℕ). number_of (check_doctype (with_groups D i) w) ≡ number_of (check_doctype D w)) e
          (ap number_of (deeper_same D D.groups (n - D.groups) w (λ k f. z (ap number_of f))))
      go (err r j) z = refl

-- Loops of readers, whatever the fuel: one turn and then the loop again. Assumes nothing.
use mathlib.Core.Bool.{Bool, true, false, true≢false}
use mathlib.Core.List.{List, [], ◌∷◌}
use mathlib.Core.Path.{◌≡◌, refl, sym, ◌∙◌, ap}
use Prim.Native.Nat.{ℕ, zero, suc, ◌≤◌, ◌<◌}
use native.Mathlib.Omega.{arith}
use lib.ListN.{length, drop, length-drop}
use lib.Seq.{drop-drop, drop-nil}
use Rattle.spec.specs.Basics.{pick}
use Rattle.spec.specs.Reading.Readers.{Result, ok, err, Reader, on_ok, past, nothing, while_fuel, while, some_left, throughout, ◌>>◌}
use Rattle.spec.specs.Reading.Refusals.{Refusal}
use Rattle.spec.proofs.Base.Results.{ok_inj, by_reader, then_ok}

-- a reader that takes a byte or more, where one is left and it does not refuse
pub record Somes (r : Reader) : Type 0 where
  pub some : (b : ℕ) (w : List ℕ) (j : ℕ) → r (b ∷ w) ≡ ok j → 0 < j

module _ (t : List ℕ → Bool) (r : Reader) (ends : t [] ≡ false) (s : (x : List ℕ) (j : ℕ) → t x ≡ true → r x ≡ ok j → 0 < j) where
  enough : (d e : ℕ) (w : List ℕ) → length w ≤ d → length w ≤ e → while_fuel d t r w ≡ while_fuel e t r w
  unfolding while_fuel nothing
  enough zero zero w h g = refl
  enough zero (suc e) [] h g = rw ends
  enough (suc d) zero [] h g = rw ends
  enough zero (suc e) (b ∷ w) h g = absurd (let z : suc (length w) ≤ 0 = h in omega arith)
  enough (suc d) zero (b ∷ w) h g = absurd (let z : suc (length w) ≤ 0 = g in omega arith)
  enough (suc d) (suc e) w h g = by_test (t w) refl (λ x. enough d e x)
    where
      by_turn : (a : Result) → t w ≡ true → r w ≡ a → ((x : List ℕ) → length x ≤ d → length x ≤ e → while_fuel d t r x ≡ while_fuel e t r x)
          → on_ok a (λ k. past k (while_fuel d t r (drop k w))) ≡ on_ok a (λ k. past k (while_fuel e t r (drop k w)))
      by_turn (err n i) y f ih = refl
      by_turn (ok k) y f ih =
          let z : 0 < k = s w k y f in
          ap (past k) (ih (drop k w) (omega (arith, length-drop k w)) (omega (arith, length-drop k w)))

      by_test : (b : Bool) → t w ≡ b → ((x : List ℕ) → length x ≤ d → length x ≤ e → while_fuel d t r x ≡ while_fuel e t r x)
          → pick b (λ x. on_ok (r x) (λ k. past k (while_fuel d t r (drop k x)))) nothing w ≡ pick b (λ x. on_ok (r x) (λ k. past k (while_fuel e t r (drop k x)))) nothing w
      by_test true y ih = by_turn (r w) y refl ih
      by_test false y ih = refl

  -- a turn is taken where the test holds
  pub while_turn : (w : List ℕ) (k : ℕ) → t w ≡ true → r w ≡ ok k → while t r w ≡ past k (while t r (drop k w))
  unfolding while while_fuel nothing
  while_turn [] k e f = absurd (true≢false (sym e ∙ ends))
  while_turn (b ∷ w) k e f =
      let z : 0 < k = s (b ∷ w) k e f in
      rw (e, f) (ap (past k) (enough (length w) (length (drop k (b ∷ w))) (drop k (b ∷ w)) (omega (arith, length-drop k (b ∷ w))) (omega arith)))

-- the loop ends where its test fails
pub while_stop : (t : List ℕ → Bool) (r : Reader) (w : List ℕ) → t w ≡ false → while t r w ≡ ok 0
unfolding while while_fuel nothing
while_stop t r [] e = refl
while_stop t r (b ∷ w) e = rw e

-- and passes on what a turn refuses
pub while_refused : (t : List ℕ → Bool) (r : Reader) → t [] ≡ false → (w : List ℕ) (n : Refusal) {j : ℕ} → t w ≡ true → r w ≡ err n j → while t r w ≡ err n j
unfolding while while_fuel nothing
while_refused t r ends [] n {j} e f = absurd (true≢false (sym e ∙ ends))
while_refused t r ends (b ∷ w) n {j} e f = rw (e, f)

-- to the text's end
pub through_end : (r : Reader) → throughout r [] ≡ ok 0
unfolding throughout some_left
through_end r = while_stop some_left r [] refl

pub through_turn : (r : Reader) → Somes r → (b : ℕ) (w : List ℕ) (k : ℕ) → r (b ∷ w) ≡ ok k → throughout r (b ∷ w) ≡ past k (throughout r (drop k (b ∷ w)))
unfolding throughout some_left
through_turn r s b w k e = while_turn some_left r refl left (b ∷ w) k refl e
  where
    left : (x : List ℕ) (j : ℕ) → some_left x ≡ true → r x ≡ ok j → 0 < j
    left [] j t f = absurd (true≢false (sym t))
    left (c ∷ x) j t f = s.some c x j f

pub through_refused : (r : Reader) (b : ℕ) (w : List ℕ) (n : Refusal) {j : ℕ} → r (b ∷ w) ≡ err n j → throughout r (b ∷ w) ≡ err n j
unfolding throughout some_left
through_refused r b w n e = while_refused some_left r refl (b ∷ w) n refl e

-- the same where something is left
pub through_some : (r : Reader) → Somes r → (w : List ℕ) (k : ℕ) → 0 < length w → r w ≡ ok k → throughout r w ≡ past k (throughout r (drop k w))
through_some r s [] k h e = absurd (let z : 0 < 0 = h in omega arith)
through_some r s (b ∷ w) k h e = through_turn r s b w k e

pub through_none : (r : Reader) (w : List ℕ) (n : Refusal) {j : ℕ} → 0 < length w → r w ≡ err n j → throughout r w ≡ err n j
through_none r [] n h e = absurd (let z : 0 < 0 = h in omega arith)
through_none r (b ∷ w) n h e = through_refused r b w n e

-- a loop whose turns take a byte or more ends only where its test fails
pub while_exit : (t : List ℕ → Bool) (r : Reader) → t [] ≡ false → Somes r → (d : ℕ) (w : List ℕ) (k : ℕ) → length w ≤ d → while_fuel d t r w ≡ ok k → t (drop k w) ≡ false
unfolding while_fuel nothing ◌>>◌
while_exit t r n some zero [] k h e = ap t (drop-nil k) ∙ n
while_exit t r n some zero (b ∷ w) k h e = absurd (let z : suc (length w) ≤ 0 = h in omega arith)
while_exit t r n some (suc d) w k h e = by_reader (t w) (r >> while_fuel d t r) nothing w (ok k) (again (λ x. while_exit t r n some d x)) (λ f g. ap (λ (q : ℕ). t (drop q w)) (sym (ok_inj 0 k g)) ∙ f) e
  where
    first : (x : List ℕ) (j : ℕ) → t x ≡ true → r x ≡ ok j → 0 < j
    first [] j y f = absurd (true≢false (sym y ∙ n))
    first (b ∷ x) j y f = some.some b x j f

    again : ((x : List ℕ) (m : ℕ) → length x ≤ d → while_fuel d t r x ≡ ok m → t (drop m x) ≡ false) → t w ≡ true → (r >> while_fuel d t r) w ≡ ok k → t (drop k w) ≡ false
    again ih y g =
        let (i, j, f, l, s) = then_ok r (while_fuel d t r) w k g in
        let p : 0 < i = first w i y f in
        ap (λ (q : ℕ). t (drop q w)) (sym s) ∙ ap t (sym (drop-drop j i w)) ∙ ih (drop i w) j (omega (arith, length-drop i w)) l

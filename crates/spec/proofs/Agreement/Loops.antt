-- A reader again and again while a test holds. Assumes nothing.
use mathlib.Core.Bool.{Bool, true, false}
use mathlib.Core.List.{List, ◌++◌, append_assoc}
use mathlib.Core.Path.{◌≡◌, refl, ◌∙◌, ap}
use Prim.Native.Nat.{ℕ, zero, suc, ◌+◌, ◌≤◌, ◌<◌}
use native.Mathlib.Omega.{arith}
use lib.Dec.{T}
use lib.ListN.{length, length-append}
use lib.Seq.{drop-append_seam}
use Rattle.spec.specs.Grammar.Languages.{Lang, Star, end, more}
use Rattle.spec.specs.Reading.Readers.{ok, Reader, nothing, while_fuel, while, ◌>>◌}
use Rattle.spec.proofs.Agreement.Reads.{Sound, Complete, Leads, Reads, Next, took_as, took_none, sound_seq}
use Rattle.spec.proofs.Agreement.Signs.{kind, Class, Sub, sub_at, ◌∪◌, in_left, in_right}
use Rattle.spec.proofs.Base.Results.{ok_inj, by_reader}
use Rattle.spec.proofs.Characters.Text.{plus_star}

-- again and again
module _ (t : List ℕ → Bool) (r : Reader) (L : Lang) where
  pub sound_while : Sound r L → (d : ℕ) → Sound (while_fuel d t r) (Star L)
  unfolding while_fuel nothing ◌>>◌
  sound_while sr zero w k tw e = took_none (ok_inj 0 k e) tw (end refl)
  sound_while sr (suc d) w k tw e =
      let ih : Sound (while_fuel d t r) (Star L) = sound_while sr d in
      by_reader (t w) (r >> while_fuel d t r) nothing w (ok k)
      (λ _ f. took_as (λ u c. plus_star c) refl (sound_seq r (while_fuel d t r) L (Star L) sr ih w k tw f))
      (λ _ f. took_none (ok_inj 0 k f) tw (end refl)) e

  leads_star : (F : Lang) (p q f : Class) → ((v : List ℕ) → F v → T (p (kind v))) → Leads L (Next q) f → Sub (f ∪ p) q → {u : List ℕ} (v : List ℕ) → Star L u → F v → T ((f ∪ p) (kind (u ++ v)))
  leads_star F p q f in_p ll h v (end e) x = rw e (in_right (f (kind v)) (p (kind v)) (in_p v x))
  leads_star F p q f in_p ll h v (more a b e l s) x =
      rw (e, append_assoc a b v)
      (in_left (f (kind (a ++ (b ++ v)))) (p (kind (a ++ (b ++ v)))) (ll a (b ++ v) l (record { it = sub_at (f ∪ p) q h (b ++ v) (leads_star F p q f in_p ll h v s x) })))

  complete_while : (F : Lang) (p q f : Class) → ((v : List ℕ) → F v → T (p (kind v))) → Complete r L (Next q) → Leads L (Next q) f → Sub (f ∪ p) q
      → ((u : List ℕ) → L u → 0 < length u) → ((u v : List ℕ) → L u → Next q v → t (u ++ v) ≡ true) → ((v : List ℕ) → F v → t v ≡ false)
      → (d : ℕ) (u v : List ℕ) → Star L u → length u ≤ d → F v → while_fuel d t r (u ++ v) ≡ ok (length u)
  unfolding while_fuel nothing
  complete_while F p q f in_p cr ll h some_l yes_l no_p zero u v (end e) m x = rw e
  complete_while F p q f in_p cr ll h some_l yes_l no_p zero u v (more a b e l s) m x =
      let c : length u ≡ length a + length b = ap length e ∙ length-append a b in
      let z : 0 < length a = some_l a l in
      absurd (omega arith)
  complete_while F p q f in_p cr ll h some_l yes_l no_p (suc d) u v (end e) m x = rw (e, no_p v x)
  complete_while F p q f in_p cr ll h some_l yes_l no_p (suc d) u v (more a b e l s) m x =
      let c : length u ≡ length a + length b = ap length e ∙ length-append a b in
      let z : 0 < length a = some_l a l in
      let y : Next q (b ++ v) = record { it = sub_at (f ∪ p) q h (b ++ v) (leads_star F p q f in_p ll h v s x) } in
      let w : u ++ v ≡ a ++ (b ++ v) = ap (λ (z : List ℕ). z ++ v) e ∙ append_assoc a b v in
      rw (
        w,
        yes_l a (b ++ v) l y,
        cr a (b ++ v) l y,
        drop-append_seam a (b ++ v),
        complete_while F p q f in_p cr ll h some_l yes_l no_p d b v s (omega arith) x,
        c,
      )

pub loop_by : {r : Reader} {L F : Lang} {q f : Class} (p : Class) (t : List ℕ → Bool) → ((v : List ℕ) → F v → T (p (kind v)))
    → ((u : List ℕ) → L u → 0 < length u) → ((u v : List ℕ) → L u → Next q v → t (u ++ v) ≡ true) → ((v : List ℕ) → F v → t v ≡ false)
    → Sub (f ∪ p) q → Reads r L (Next q) f → Reads (while t r) (Star L) F (f ∪ p)
unfolding while
loop_by {r} {L} {F} {q} {f} p t in_p some_l yes_l no_p h a = record {
  sound = λ w k tw e. sound_while t r L a.sound (length w) w k tw e;
  complete = λ u v s x. complete_while t r L F p q f in_p a.complete a.leads h some_l yes_l no_p (length (u ++ v)) u v s (omega (arith, length-append u v)) x;
  leads = λ u v s x. leads_star t r L F p q f in_p a.leads h v s x;
}

pub loop : {r : Reader} {L : Lang} {q f : Class} (p : Class) (t : List ℕ → Bool)
    → ((u : List ℕ) → L u → 0 < length u) → ((u v : List ℕ) → L u → Next q v → t (u ++ v) ≡ true) → ((v : List ℕ) → T (p (kind v)) → t v ≡ false)
    → Sub (f ∪ p) q → Reads r L (Next q) f → Reads (while t r) (Star L) (Next p) (f ∪ p)
loop p t some_l yes_l no_p h a = loop_by p t (λ v n. n.it) some_l yes_l (λ v n. no_p v n.it) h a

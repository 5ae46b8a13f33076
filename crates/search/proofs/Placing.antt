-- Laws of the code's places, which are counted from the text's first byte, and the rule's. Assumes nothing.
use mathlib.Core.Path.{◌≡◌, refl, sym, ap, ◌∙◌}
use mathlib.Core.List.{List}
use Prim.Native.Nat.{ℕ, ◌+◌}
use native.Mathlib.Omega.{arith}
use lib.ListN.{drop}
use lib.Seq.{drop-drop}
use Rattle.std.specs.Prelude.{Option, Some, None}
use Rattle.spec.specs.Reading.Places.{Place, at, nowhere, later}
use Rattle.spec.proofs.Base.Outside.{later_later}
use Rattle.search.specs.Places.{found, place_from}

-- n bytes further on, and the same there if nothing is to be found in them
pub from_far : (f : List ℕ → Place) (s : List ℕ) (i n : ℕ) → place_from f s (i + n) ≡ later i (later n (f (drop n (drop i s))))
unfolding place_from
from_far f s i n = ap (λ (w : List ℕ). later (i + n) (f w)) (sym (drop-drop n i s)) ∙ sym (later_later i n (f (drop n (drop i s))))

pub from_onward : (f : List ℕ → Place) (s : List ℕ) (i n : ℕ) → f (drop i s) ≡ later n (f (drop n (drop i s))) → place_from f s (i + n) ≡ place_from f s i
from_onward f s i n e = from_far f s i n ∙ (unfold place_from in ap (later i) (sym e))

-- the rule's place from the code's, which is counted from the text's first byte
module _ (f : List ℕ → Place) (s : List ℕ) (from : ℕ) (r : Option ℕ) (a : found r ≡ place_from f s from) where
  pub from_nowhere : r ≡ None → f (drop from s) ≡ nowhere
  unfolding found place_from
  from_nowhere b = go (f (drop from s)) (ap found (sym b) ∙ a)
    where
      go : (p : Place) → nowhere ≡ later from p → p ≡ nowhere
      go nowhere e = refl
      go (at n) e = let z : ◌≡◌ {A = ℕ} 0 1 = cc in absurd (omega arith)

  pub from_here : (j : ℕ) → r ≡ Some j → (n : ℕ) × (f (drop from s) ≡ at n) × (j ≡ from + n)
  unfolding found place_from
  from_here j b = go (f (drop from s)) refl (ap found (sym b) ∙ a)
    where
      go : (p : Place) → f (drop from s) ≡ p → at j ≡ later from p → (n : ℕ) × (f (drop from s) ≡ at n) × (j ≡ from + n)
      go nowhere g e = let z : ◌≡◌ {A = ℕ} 0 1 = cc in absurd (omega arith)
      go (at n) g e = (n, g, cc)

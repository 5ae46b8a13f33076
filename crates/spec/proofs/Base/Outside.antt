-- Laws of places, and of the first byte of a class outside quotes. Assumes nothing.
use mathlib.Core.Bool.{Bool, true, false}
use mathlib.Core.List.{List, [], ◌∷◌}
use mathlib.Core.Path.{◌≡◌, refl, ap}
use Prim.Native.Nat.{ℕ, zero, suc, ◌+◌, ◌<◌}
use native.Mathlib.Omega.{arith}
use lib.Dec.{eqb}
use lib.ListN.{length, get_or}
use Rattle.spec.specs.Basics.{pick}
use Rattle.spec.specs.Grammar.Languages.{one_of}
use Rattle.spec.specs.Reading.Places.{Place, at, nowhere, later, outside}

pub nowhere_at : (i : ℕ) → nowhere ≡ at i → ⊥
nowhere_at i e = let z : ◌≡◌ {A = ℕ} 0 1 = cc in omega arith

pub at_inj : (i j : ℕ) → at i ≡ at j → i ≡ j
at_inj i j e = cc

pub later_suc : (n : ℕ) (p : Place) → later 1 (later n p) ≡ later (suc n) p
later_suc n (at i) = let e : 1 + (n + i) ≡ suc n + i = omega arith in ap at e
later_suc n nowhere = refl

pub later_later : (m n : ℕ) (p : Place) → later m (later n p) ≡ later (m + n) p
later_later m n (at i) = let e : m + (n + i) ≡ m + n + i = omega arith in ap at e
later_later m n nowhere = refl

pub later_zero : (p : Place) → p ≡ later 0 p
later_zero (at i) = let e : i ≡ 0 + i = omega arith in ap at e
later_zero nowhere = refl

-- how a later place came about
pub later_at : (n i : ℕ) (p : Place) → later n p ≡ at i → (j : ℕ) × (p ≡ at j) × (n + j ≡ i)
later_at n i (at j) e = (j, refl, at_inj (n + j) i e)
later_at n i nowhere e = absurd (nowhere_at i e)

-- what is found is a byte of the text
pub outside_within : (p : ℕ → Bool) (q : ℕ) (w : List ℕ) (i : ℕ) → outside p q w ≡ at i → i < length w
unfolding outside
outside_within p q [] i e = absurd (nowhere_at i e)
outside_within p zero (b ∷ w) i e = go (p b) e (outside_within p (pick (one_of "\"'" b) b 0) w)
  where
    go : (t : Bool) → pick t (at 0) (later 1 (outside p (pick (one_of "\"'" b) b 0) w)) ≡ at i → ((j : ℕ) → outside p (pick (one_of "\"'" b) b 0) w ≡ at j → j < length w) → i < suc (length w)
    go true f h = omega (arith, at_inj 0 i f)
    go false f h = let (j, g, k) = later_at 1 i (outside p (pick (one_of "\"'" b) b 0) w) f in omega (arith, h j g)
outside_within p (suc q) (b ∷ w) i e =
    let (j, g, k) = later_at 1 i (outside p (pick (eqb b (suc q)) 0 (suc q)) w) e in omega (arith, outside_within p (pick (eqb b (suc q)) 0 (suc q)) w j g)

-- and one of the class
further : (p : ℕ → Bool) (b : ℕ) (w : List ℕ) (x : Place) (i : ℕ) → later 1 x ≡ at i → ((j : ℕ) → x ≡ at j → p (get_or w j 0) ≡ true) → p (get_or (b ∷ w) i 0) ≡ true
further p b w x i e h = let (j, f, g) = later_at 1 i x e in let z : i ≡ suc j = omega arith in rw z (h j f)

pub outside_hit : (p : ℕ → Bool) (q : ℕ) (w : List ℕ) (i : ℕ) → outside p q w ≡ at i → p (get_or w i 0) ≡ true
unfolding outside
outside_hit p q [] i e = absurd (nowhere_at i e)
outside_hit p zero (b ∷ w) i e = go (p b) refl e (outside_hit p (pick (one_of "\"'" b) b 0) w)
  where
    go : (t : Bool) → p b ≡ t → pick t (at 0) (later 1 (outside p (pick (one_of "\"'" b) b 0) w)) ≡ at i → ((j : ℕ) → outside p (pick (one_of "\"'" b) b 0) w ≡ at j → p (get_or w j 0) ≡ true) → p (get_or (b ∷ w) i 0) ≡ true
    go true f g h = rw (← at_inj 0 i g) f
    go false f g h = further p b w (outside p (pick (one_of "\"'" b) b 0) w) i g h
outside_hit p (suc q) (b ∷ w) i e = further p b w (outside p (pick (eqb b (suc q)) 0 (suc q)) w) i e (outside_hit p (pick (eqb b (suc q)) 0 (suc q)) w)

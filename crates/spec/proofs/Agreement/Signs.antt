-- The sign that a text begins with, and classes of signs: which may follow is decided by computing. Assumes nothing.
use mathlib.Core.Bool.{Bool, true, false, ◌&&◌, ◌||◌, not}
use mathlib.Core.List.{List, [], ◌∷◌}
use mathlib.Core.Logic.{⊎_elim}
use mathlib.Core.Path.{◌≡◌, refl, ◌∙◌, ap}
use Prim.Native.Nat.{ℕ, zero, suc, ◌<◌}
use native.Mathlib.Omega.{arith}
use borrow.Author.Tests.{eqb-false}
use lib.Dec.{T, ltb, eqb}
use Rattle.spec.specs.Basics.{pick}
use Rattle.spec.specs.Grammar.Languages.{any}
use Rattle.spec.proofs.Base.Tests.{T→true, true→T, decide, leb_yes, leb_true, eqb-true, and_left, and_right, and_both, or_cases}

-- The sign that a text begins with: an ASCII byte, 128 for any other byte, 129 at the text's end. A class is a test of signs.
unfoldable pub kind : List ℕ → ℕ
kind [] = 129
kind (b ∷ bs) = pick (ltb b 128) b 128

abbrev pub Class : Type 0
Class = ℕ → Bool

abbrev pub below : ℕ → Class → Bool
below zero f = true
below (suc n) f = f n && below n f

-- each sign of the one class is in the other
pub record Sub (p q : Class) : Type 0 where
  pub at : (k : ℕ) → k < 130 → T (p k) → T (q k)

pub below_at : (n : ℕ) (f : Class) → below n f ≡ true → (k : ℕ) → k < n → f k ≡ true
below_at zero f e k h = absurd (let z : k < 0 = h in omega arith)
below_at (suc n) f e k h =
    ⊎_elim (λ x. ap f (eqb-true k n x) ∙ and_left (f n) (below n f) e)
    (λ x. let y : k ≡ n → ⊥ = eqb-false k n x in below_at n f (and_right (f n) (below n f) e) k (omega arith)) (decide (eqb k n))

pub at_below : (n : ℕ) (f : Class) → ((k : ℕ) → k < n → f k ≡ true) → below n f ≡ true
at_below zero f h = refl
at_below (suc n) f h = and_both (f n) (below n f) (h n (omega arith)) (at_below n f (λ k l. h k (omega arith)))

kind_below : (v : List ℕ) → kind v < 130
unfolding kind
kind_below [] = omega arith
kind_below (b ∷ bs) = go (ltb b 128) refl
  where
    go : (t : Bool) → ltb b 128 ≡ t → pick t b 128 < 130
    go true e = let h : b < 128 = leb_true (suc b) 128 e in omega arith
    go false e = omega arith

imp : (a b : Bool) → (not a || b) ≡ true → T a → T b
imp true b e t = true→T b e
imp false b e t = absurd t

pub sub_at : (p q : Class) → Sub p q → (v : List ℕ) → T (p (kind v)) → T (q (kind v))
sub_at p q s v t = s.at (kind v) (kind_below v) t

-- by computing both classes at each sign
pub by_signs : {p q : Class} → T (below 130 (λ k. not (p k) || q k)) → Sub p q
by_signs {p} {q} s = record { at = λ k h t. imp (p k) (q k) (below_at 130 (λ k. not (p k) || q k) (T→true (below 130 (λ k. not (p k) || q k)) s) k h) t }

infixr 45 ◌∪◌
abbrev pub ◌∪◌ : Class → Class → Class
(p ∪ q) k = p k || q k

pub in_left : (a b : Bool) → T a → T (a || b)
in_left true b t = tt
in_left false b t = absurd t

pub in_right : (a b : Bool) → T b → T (a || b)
in_right true b t = tt
in_right false b t = t

pub sub_any : {p : Class} → Sub p any
sub_any = record { at = λ k h t. tt }

pub sub_refl : {p : Class} → Sub p p
sub_refl = record { at = λ k h t. t }

pub sub_either : {p q r : Class} → Sub p r → Sub q r → Sub (p ∪ q) r
sub_either {p} {q} {r} a b = record { at = λ k h t. ⊎_elim (λ e. a.at k h (true→T (p k) e)) (λ e. b.at k h (true→T (q k) e)) (or_cases (p k) (q k) (T→true (p k || q k) t)) }

-- an ASCII byte that stands first is the sign
pub kind_ascii : (a : ℕ) (v : List ℕ) → a < 128 → kind (a ∷ v) ≡ a
unfolding kind
kind_ascii a v h = rw (leb_yes (suc a) 128 h)

-- The search in a table of ranges, for any table that ascends. Assumes nothing.
use mathlib.Core.Path.{◌≡◌, refl, sym, ap, ◌∙◌}
use mathlib.Core.Bool.{Bool, true, false, ◌&&◌, ◌||◌, and-true, or-false}
use mathlib.Core.List.{List, [], ◌∷◌}
use Prim.Native.Nat.{ℕ, zero, suc, ◌<◌, ◌≤◌}
use native.Mathlib.Omega.{arith}
use lib.Dec.{leb, ltb}
use lib.ListN.{length, get_or}
use Rattle.std.specs.List.Sorted.{IsPartitionedBy, IsPartitionPoint}
use Rattle.std.proofs.lemmas.List.Sorted.{IsPartitionedBy-ltb}
use Rattle.spec.specs.Grammar.Ranges.{in_table, ascending}
use Rattle.spec.proofs.Base.Tests.{leb_yes, leb_true, leb_false, and_left, and_right, each_of, within_low, within_high}
use Rattle.classes.specs.Classes.{ends}

-- the ranges of t ascend, from p on
data Rising : ℕ → List (ℕ × ℕ) → Type 0 where
  over : {p : ℕ} → Rising p []
  range : {p : ℕ} {t : List (ℕ × ℕ)} (lo hi : ℕ) → p ≤ lo → lo ≤ hi → Rising (suc hi) t → Rising p ((lo, hi) ∷ t)

rising_from : (p lo hi : ℕ) (t : List (ℕ × ℕ)) → p ≤ lo → ascending (ends ((lo, hi) ∷ t)) ≡ true → Rising p ((lo, hi) ∷ t)
unfolding ascending
rising_from p lo hi [] h e = range lo hi h (leb_true lo hi e) over
rising_from p lo hi ((next, last) ∷ t) h e =
    let f : (leb lo hi && ltb hi next) ≡ true = and_left (leb lo hi && ltb hi next) (ascending (ends ((next, last) ∷ t))) e in
    let g : suc hi ≤ next = leb_true (suc hi) next (and_right (leb lo hi) (ltb hi next) f) in
    range lo hi h (leb_true lo hi (and_left (leb lo hi) (ltb hi next) f))
    (rising_from (suc hi) next last t g (and_right (leb lo hi && ltb hi next) (ascending (ends ((next, last) ∷ t))) e))

rising : (t : List (ℕ × ℕ)) → ascending (ends t) ≡ true → Rising 0 t
rising [] e = over
rising ((lo, hi) ∷ t) e = rising_from 0 lo hi t (omega arith) e

-- each end is at or after where the table begins, and the ends ascend
end_from : {p : ℕ} {t : List (ℕ × ℕ)} → Rising p t → (k : ℕ) (d : ℕ × ℕ) → k < length t → p ≤ (get_or t k d).1
end_from over k d h = absurd (omega arith)
end_from (range lo hi l g r) zero d h = omega arith
end_from (range lo hi l g r) (suc k) d h = let i = end_from r k d (omega arith) in omega arith

ends_rise : {p : ℕ} {t : List (ℕ × ℕ)} → Rising p t → (j k : ℕ) (d : ℕ × ℕ) → j ≤ k → k < length t → (get_or t j d).1 ≤ (get_or t k d).1
ends_rise over j k d h g = absurd (omega arith)
ends_rise (range lo hi l m r) zero zero d h g = omega arith
ends_rise (range lo hi l m r) (suc j) zero d h g = absurd (omega arith)
ends_rise (range lo hi l m r) zero (suc k) d h g = let i = end_from r k d (omega arith) in omega arith
ends_rise (range lo hi l m r) (suc j) (suc k) d h g = ends_rise r j k d (omega arith) (omega arith)

-- x is below every range
below : {p : ℕ} {t : List (ℕ × ℕ)} (x : ℕ) → Rising p t → x < p → in_table (ends t) x ≡ false
unfolding in_table
below x over h = refl
below x (range lo hi l g r) h = rw (within_low lo hi x (omega arith)) (below x r (omega arith))

-- x is above every range
above : {p : ℕ} {t : List (ℕ × ℕ)} (x : ℕ) (d : ℕ × ℕ) → Rising p t → ((j : ℕ) → j < length t → (get_or t j d).1 < x) → in_table (ends t) x ≡ false
unfolding in_table
above x d over f = refl
above x d (range lo hi l g r) f = rw (within_high lo hi x (f 0 (omega arith))) (above x d r (λ j h. f (suc j) (omega arith)))

-- the first range that does not end below x decides
found : {p : ℕ} {t : List (ℕ × ℕ)} (x : ℕ) (d : ℕ × ℕ) → Rising p t → (k : ℕ) → k < length t → ((j : ℕ) → j < k → (get_or t j d).1 < x) → x ≤ (get_or t k d).1
    → leb (get_or t k d).0 x ≡ in_table (ends t) x
unfolding in_table
found x d over k h f e = absurd (omega arith)
found x d (range lo hi l g r) zero h f e = rw (leb_yes x hi e, below x r (omega arith)) (rw (and-true, or-false))
found x d (range lo hi l g r) (suc k) h f e = rw (within_high lo hi x (f 0 (omega arith))) (found x d r k (omega arith) (λ j i. f (suc j) (omega arith)) e)

-- what the search asks of the table, and what its place says
module _ (t : List (ℕ × ℕ)) (x : ℕ) (a : ascending (ends t) ≡ true) where
  pub parted : IsPartitionedBy (λ (r : ℕ × ℕ). ltb r.1 x) t
  parted = IsPartitionedBy-ltb (λ (r : ℕ × ℕ). r.1) t x (λ j k d. ends_rise (rising t a) j k d)

  module _ (i : ℕ) (p : IsPartitionPoint (λ (r : ℕ × ℕ). ltb r.1 x ≡ true) (λ (r : ℕ × ℕ). ltb r.1 x ≡ false) t i) where
    pub search_at : (d : ℕ × ℕ) → true ≡ ltb i (length t) → d ≡ get_or t i d → leb d.0 x ≡ in_table (ends t) x
    search_at d h e =
        let g = leb_true (suc i) (length t) (sym h) in
        ap (λ (r : ℕ × ℕ). leb r.0 x) e
        ∙ found x d (rising t a) i g (λ j f. leb_true (suc (get_or t j d).1) x (p.0 j d (omega arith) f))
        (let z = leb_false (suc (get_or t i d).1) x (p.1 i d (omega arith) g) in omega arith)

    pub search_end : false ≡ ltb i (length t) → false ≡ in_table (ends t) x
    search_end h =
        let g = leb_false (suc i) (length t) (sym h) in
        sym (above x (0, 0) (rising t a) (λ j f. leb_true (suc (get_or t j (0, 0)).1) x (p.0 j (0, 0) (omega arith) (omega arith))))

-- x is past the last range of a table below 2^16
pub beyond : (t : List ℕ) (x : ℕ) → each_of (λ b. leb b 0xFFFF) t ≡ true → 0xFFFF < x → in_table t x ≡ false
unfolding in_table
beyond [] x e h = refl
beyond (lo ∷ []) x e h = refl
beyond (lo ∷ hi ∷ t) x e h =
    let f : (leb hi 0xFFFF && each_of (λ b. leb b 0xFFFF) t) ≡ true = and_right (leb lo 0xFFFF) (leb hi 0xFFFF && each_of (λ b. leb b 0xFFFF) t) e in
    let g : hi ≤ 0xFFFF = leb_true hi 0xFFFF (and_left (leb hi 0xFFFF) (each_of (λ b. leb b 0xFFFF) t) f) in
    rw (within_high lo hi x (omega arith)) (beyond t x (and_right (leb hi 0xFFFF) (each_of (λ b. leb b 0xFFFF) t) f) h)

-- two tests, one after the other
pub or_first : {a v : Bool} (b : Bool) → v ≡ a → v ≡ true → v ≡ (a || b)
or_first b e y = y ∙ (rw (sym e ∙ y))

pub or_second : {a b v r : Bool} → v ≡ a → v ≡ false → r ≡ b → r ≡ (a || b)
or_second e n f = f ∙ (rw (sym e ∙ n))

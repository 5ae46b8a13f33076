-- Tests and the facts that they stand for; tests of signs. Assumes nothing.
use mathlib.Core.Bool.{Bool, true, false, ◌&&◌, ◌||◌, not, true≢false, or-false}
use mathlib.Core.List.{List, [], ◌∷◌}
use mathlib.Core.Logic.{◌⊎◌, inl, inr, ⊎_elim}
use mathlib.Core.Path.{◌≡◌, refl, sym, subst, ◌∙◌, ap}
use Prim.Native.Nat.{ℕ, ◌≤◌, ◌<◌}
use native.Mathlib.Omega.{arith}
use lib.Dec.{T, leb, eqb, leb→le, le→leb, nleb→lt, eqb→eq, eqb_refl}
use Rattle.spec.specs.Basics.{within}
use Rattle.spec.specs.Grammar.Languages.{among}

pub T→true : (b : Bool) → T b → b ≡ true
T→true true t = refl
T→true false t = absurd t

pub true→T : (b : Bool) → b ≡ true → T b
true→T true e = tt
true→T false e = absurd (true≢false (sym e))

pub no→false : (b : Bool) → (T b → ⊥) → b ≡ false
no→false true f = absurd (f tt)
no→false false f = refl

pub false→no : (b : Bool) → b ≡ false → T b → ⊥
false→no true e t = true≢false e
false→no false e t = t

-- of a test turned round
pub not-true : (b : Bool) → not b ≡ true → b ≡ false
not-true true e = absurd (true≢false (sym e))
not-true false e = refl

pub not-false : (b : Bool) → not b ≡ false → b ≡ true
not-false true e = refl
not-false false e = absurd (true≢false e)

-- a test is passed or not
pub decide : (b : Bool) → (b ≡ true) ⊎ (b ≡ false)
decide true = inl refl
decide false = inr refl

pub leb_yes : (m n : ℕ) → m ≤ n → leb m n ≡ true
leb_yes m n h = T→true (leb m n) (le→leb m n h)

pub leb_no : (m n : ℕ) → n < m → leb m n ≡ false
leb_no m n h = no→false (leb m n) (λ t. let g : m ≤ n = leb→le m n t in omega arith)

pub leb_true : (m n : ℕ) → leb m n ≡ true → m ≤ n
leb_true m n e = leb→le m n (true→T (leb m n) e)

pub leb_false : (m n : ℕ) → leb m n ≡ false → n < m
leb_false m n e = nleb→lt m n (subst (λ (b : Bool). T (not b)) (sym e) tt)

pub eqb-true : (m n : ℕ) → eqb m n ≡ true → m ≡ n
eqb-true m n e = eqb→eq m n (true→T (eqb m n) e)

pub eqb_yes : (m n : ℕ) → m ≡ n → eqb m n ≡ true
eqb_yes m n e = T→true (eqb m n) (subst (λ (k : ℕ). T (eqb m k)) e (eqb_refl m))

pub eqb_no : (m n : ℕ) → (m ≡ n → ⊥) → eqb m n ≡ false
eqb_no m n f = no→false (eqb m n) (λ t. f (eqb→eq m n t))

pub and_left : (a b : Bool) → (a && b) ≡ true → a ≡ true
and_left true b e = refl
and_left false b e = e

pub and_right : (a b : Bool) → (a && b) ≡ true → b ≡ true
and_right true b e = e
and_right false b e = absurd (true≢false (sym e))

pub and_both : (a b : Bool) → a ≡ true → b ≡ true → (a && b) ≡ true
and_both a b e f = rw (e, f)

pub both_left : (a b : Bool) → T (a && b) → T a
both_left true b t = tt
both_left false b t = absurd t

pub both_right : (a b : Bool) → T (a && b) → T b
both_right true b t = t
both_right false b t = absurd t

pub both : (a b : Bool) → T a → T b → T (a && b)
both true b s t = t
both false b s t = s

pub or_cases : (a b : Bool) → (a || b) ≡ true → (a ≡ true) ⊎ (b ≡ true)
or_cases true b e = inl refl
or_cases false b e = inr e

-- each of two tests is enough
pub or_elim : {a b l : Bool} → (a ≡ true → l ≡ true) → (b ≡ true → l ≡ true) → (a || b) ≡ true → l ≡ true
or_elim {a} {b} f g e = ⊎_elim f g (or_cases a b e)

pub or_false_left : (a b : Bool) → (a || b) ≡ false → a ≡ false
or_false_left true b e = e
or_false_left false b e = refl

pub or_false_right : (a b : Bool) → (a || b) ≡ false → b ≡ false
or_false_right true b e = absurd (true≢false e)
or_false_right false b e = e

pub within_yes : (lo hi n : ℕ) → lo ≤ n → n ≤ hi → within lo hi n ≡ true
within_yes lo hi n h g = rw (leb_yes lo n h, leb_yes n hi g)

pub within_low : (lo hi n : ℕ) → n < lo → within lo hi n ≡ false
within_low lo hi n h = rw (leb_no lo n h)

pub within_high : (lo hi n : ℕ) → hi < n → within lo hi n ≡ false
within_high lo hi n h = go (leb lo n)
  where
    go : (b : Bool) → (b && leb n hi) ≡ false
    go true = leb_no n hi h
    go false = refl

pub within_lo : (lo hi n : ℕ) → within lo hi n ≡ true → lo ≤ n
within_lo lo hi n e = leb_true lo n (and_left (leb lo n) (leb n hi) e)

pub within_hi : (lo hi n : ℕ) → within lo hi n ≡ true → n ≤ hi
within_hi lo hi n e = leb_true n hi (and_right (leb lo n) (leb n hi) e)

-- two tests that come out alike are the same
abbrev pub alike : Bool → Bool → Bool
alike true b = b
alike false true = false
alike false false = true

pub alike_same : (a b : Bool) → alike a b ≡ true → a ≡ b
alike_same true true e = refl
alike_same true false e = sym e
alike_same false true e = e
alike_same false false e = refl

pub same_alike : (a b : Bool) → a ≡ b → alike a b ≡ true
same_alike true b e = sym e
same_alike false true e = absurd (true≢false (sym e))
same_alike false false e = refl

-- a sign of a word of one, and of two
pub one_sign : (a b : ℕ) → among (a ∷ []) b ≡ true → b ≡ a
one_sign a b e = eqb-true b a (sym (or-false (eqb b a)) ∙ e)

pub two_signs : (a d b : ℕ) → among (a ∷ d ∷ []) b ≡ true → (b ≡ a) ⊎ (b ≡ d)
two_signs a d b e = ⊎_elim (λ f. inl (eqb-true b a f)) (λ f. inr (one_sign d b f)) (or_cases (eqb b a) (among (d ∷ []) b) e)

-- what holds of each sign of a word
abbrev pub each_of : (ℕ → Bool) → List ℕ → Bool
each_of q [] = true
each_of q (b ∷ s) = q b && each_of q s

pub each_at : (q : ℕ → Bool) (s : List ℕ) → each_of q s ≡ true → (a : ℕ) → among s a ≡ true → q a ≡ true
each_at q [] h a e = absurd (true≢false (sym e))
each_at q (b ∷ s) h a e =
    ⊎_elim (λ f. ap q (eqb-true a b f) ∙ and_left (q b) (each_of q s) h) (λ f. each_at q s (and_right (q b) (each_of q s) h) a f) (or_cases (eqb a b) (among s a) e)

-- the signs of one word are among those of another: computed
abbrev pub all_among : List ℕ → List ℕ → Bool
all_among t s = each_of (among s) t

-- then what is one of its own is one of the other's, and what is none of the other's is none of its own
pub among_sub : (t s : List ℕ) → T (all_among t s) → (b : ℕ) → among t b ≡ true → among s b ≡ true
among_sub t s h b e = each_at (among s) t (T→true (all_among t s) h) b e

pub none_sub : (t s : List ℕ) → T (all_among t s) → (b : ℕ) → among s b ≡ false → among t b ≡ false
none_sub t s h b n = no→false (among t b) (λ x. true≢false (sym (among_sub t s h b (T→true (among t b) x)) ∙ n))

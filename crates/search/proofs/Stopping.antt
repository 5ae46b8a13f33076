-- Laws of the way to the next byte of a class: block by block, then byte by byte. Assumes nothing.
use mathlib.Core.Path.{◌≡◌, refl, sym, ap, ◌∙◌}
use mathlib.Core.Bool.{Bool, true, false, ◌&&◌, ◌||◌, not, or-false, or_assoc}
use mathlib.Core.List.{List, [], ◌∷◌}
use Prim.Native.Nat.{ℕ, zero, suc, ◌+◌, ◌<◌, ◌≤◌}
use native.Mathlib.Omega.{arith}
use lib.Dec.{eqb}
use lib.ListN.{length, get_or, take, drop, length-drop}
use lib.Seq.{get_or-drop, length-take-le}
use borrow.Author.Tests.{not-true}
use Rattle.std.specs.List.{fold}
use Rattle.spec.specs.Basics.{pick}
use Rattle.spec.specs.Reading.Readers.{run}
use Rattle.spec.proofs.Base.Tests.{and_left, and_right, or_false_left, or_false_right}
use Rattle.search.specs.FirstPlace.{only}
use Rattle.search.specs.Places.{stop}
use Rattle.search.specs.Runs.{away, Skipped, Block}

-- the class as the code tests it
pub stop_is : (sign other b : ℕ) → eqb b 34 || eqb b 39 || eqb b sign || eqb b other ≡ stop sign other b
unfolding stop
stop_is sign other b = simp (or-false, or_assoc)

-- a block without bytes of two classes, and of four
away_or : (p q : ℕ → Bool) (n : ℕ) (w : List ℕ) → n ≤ away p w → n ≤ away q w → n ≤ away (λ b. p b || q b) w
unfolding away run
away_or p q zero w h k = omega arith
away_or p q (suc n) [] h k = h
away_or p q (suc n) (b ∷ w) h k = go (p b) (q b) h k (away_or p q n w)
  where
    go : (s t : Bool) → suc n ≤ pick (not s) (suc (run (λ c. not (p c)) w)) 0 → suc n ≤ pick (not t) (suc (run (λ c. not (q c)) w)) 0
        → (n ≤ run (λ c. not (p c)) w → n ≤ run (λ c. not (q c)) w → n ≤ run (λ c. not (p c || q c)) w) → suc n ≤ pick (not (s || t)) (suc (run (λ c. not (p c || q c)) w)) 0
    go true t h k ih = h
    go false true h k ih = k
    go false false h k ih = omega (arith, ih (omega arith) (omega arith))

away_all : (p : ℕ → Bool) (n : ℕ) (w : List ℕ) → n ≤ away p w → n ≤ away (λ b. false) w
unfolding away run
away_all p zero w h = omega arith
away_all p (suc n) [] h = h
away_all p (suc n) (b ∷ w) h = go (p b) h (away_all p n w)
  where
    go : (s : Bool) → suc n ≤ pick (not s) (suc (run (λ c. not (p c)) w)) 0 → (n ≤ run (λ c. not (p c)) w → n ≤ run (λ c. true) w) → suc n ≤ suc (run (λ c. true) w)
    go true h ih = absurd (omega arith)
    go false h ih = omega (arith, ih (omega arith))

pub plain_block : (sign other : ℕ) (s : List ℕ) (i n : ℕ) (a b c d : Bool) → Block (only 34) s i n a → Block (only 39) s i n b → Block (only sign) s i n c → Block (only other) s i n d → Block (stop sign other) s i n (a && b && c && d)
unfolding stop
plain_block sign other s i n a b c d f g h k = record {
  lies = λ e.
      let x = and_left (a && b && c) d e in
      let y = and_left (a && b) c x in
      let l = k.lies (and_right (a && b && c) d e) in
      let w : List ℕ = drop i s in
      away_or (only 34) _ n w (f.lies (and_left a b y)) (away_or (only 39) _ n w (g.lies (and_right a b y))
      (away_or (only sign) _ n w (h.lies (and_right (a && b) c x)) (away_or (only other) (λ _. false) n w l (away_all (only other) n w l))));
}

-- the end of a run outside the class is where the class is met
pub away_run : (p : ℕ → Bool) (s : List ℕ) (at i r : ℕ) → Skipped p s at i → r ≡ i + run (λ b. not (p b)) (drop i s) → r ≡ at + away p (drop at s)
unfolding away
away_run p s at i r k e = e ∙ (unfold away in k.ends)

-- a pass over a block found none of the class
passed_over : (q : ℕ → Bool) (w : List ℕ) (t : Bool) → fold (λ (found : Bool) (b : ℕ). found || q b) t w ≡ false → (t ≡ false) × (length w ≤ away q w)
unfolding away run
passed_over q [] t e = (e, omega arith)
passed_over q (b ∷ w) t e =
    let (f, n) = passed_over q w (t || q b) e in
    (or_false_left t (q b) f, rw (or_false_right t (q b) f) (omega arith))

-- a block is the front of what is left
in_front : (q : ℕ → Bool) (n : ℕ) (w : List ℕ) → n ≤ away q (take n w) → n ≤ away q w
unfolding away run
in_front q zero w h = omega arith
in_front q (suc n) [] h = h
in_front q (suc n) (b ∷ w) h = go (q b) h (in_front q n w)
  where
    go : (t : Bool) → suc n ≤ pick (not t) (suc (run (λ c. not (q c)) (take n w))) 0 → (n ≤ run (λ c. not (q c)) (take n w) → n ≤ run (λ c. not (q c)) w) → suc n ≤ pick (not t) (suc (run (λ c. not (q c)) w)) 0
    go true h ih = h
    go false h ih = omega (arith, ih (omega arith))

pub block_lacking : (b : ℕ) (s : List ℕ) (at k n : ℕ) (r : Bool) → k ≡ n → at + n ≤ length s → r ≡ fold (λ (found : Bool) (x : ℕ). found || eqb x b) false (take k (drop at s)) → Block (only b) s at n (not r)
block_lacking b s at k n r e h f = record {
  lies = λ g.
      let l : length (take k (drop at s)) ≡ k = length-take-le k (drop at s) (omega (arith, length-drop at s)) in
      let m = (passed_over (only b) (take k (drop at s)) false (sym f ∙ not-true r g)).1 in
      in_front (only b) n (drop at s) (rw (← e) (omega (arith, l, m)));
}

-- what stands there is of the class
hit : (p : ℕ → Bool) (w : List ℕ) → away p w < length w → p (get_or w (away p w) 0) ≡ true
unfolding away run
hit p [] h = absurd (omega arith)
hit p (b ∷ w) h = go (p b) refl h (hit p w)
  where
    n : ℕ
    n = run (λ c. not (p c)) w

    go : (t : Bool) → p b ≡ t → pick (not t) (suc n) 0 < suc (length w) → (n < length w → p (get_or w n 0) ≡ true) → p (get_or (b ∷ w) (pick (not t) (suc n) 0) 0) ≡ true
    go true e h ih = e
    go false e h ih = ih (omega arith)

pub stopped : (p : ℕ → Bool) (s : List ℕ) (i r : ℕ) → r ≡ i + away p (drop i s) → r < length s → p (get_or s r 0) ≡ true
stopped p s i r a h = ap (λ (k : ℕ). p (get_or s k 0)) a ∙ ap p (sym (get_or-drop i s (away p (drop i s)) 0)) ∙ hit p (drop i s) (omega (arith, length-drop i s))

-- what a class of marks searches
pub ruleset marks = (stop_is, plain_block)

-- Lines and columns: what one more byte does to them. Assumes nothing.
use mathlib.Core.Path.{◌≡◌, refl, sym, ap, ◌∙◌}
use mathlib.Core.Bool.{Bool, true, false, ◌&&◌, not, cond, and-true, and-false, and_assoc}
use mathlib.Core.List.{List, [], ◌∷◌, ◌++◌, reverse}
use Prim.Native.Nat.compare
use Prim.Native.Nat.{ℕ, suc, ◌+◌, ◌*◌, ◌^◌, ◌<◌, ◌≤◌}
use native.Mathlib.Omega.{arith}
use borrow.Author.Rules.{rules}
use mir.Syntax.{w64}
use mir.Val.{Fits}
use lib.Dec.{eqb}
use lib.ListN.{length, get_or, take, drop}
use Rattle.std.proofs.lemmas.List.{length-reverse, reverse-append, reverse-reverse}
use Rattle.std.proofs.lemmas.List.Sums.{count_by-le-length, take_while-cons, sum_by-cons}
use Rattle.std.specs.List.{count_by, prefix_len, take_while}
use Rattle.spec.specs.Basics.{pick}
use Rattle.spec.specs.Reading.Checks.{all_of}
use Rattle.spec.specs.Reading.Readers.{run}
use Rattle.spec.specs.Reading.Utf8.{tail}
use Rattle.spec.proofs.Base.Places.{drop_at, drop_end}
use Rattle.spec.proofs.Base.Tests.{eqb_no}
use Rattle.spec.proofs.Inside.Ways.{take_most}
use Rattle.lines.specs.Lines.{ends_line, line_ends, on_line, last_line, characters, line, column}

-- no more lines end than there are bytes
ends_short : (a : ℕ) (w : List ℕ) → line_ends a w ≤ length w
unfolding line_ends
ends_short a [] = omega arith
ends_short a (b ∷ w) = go (ends_line a b) (ends_short b w)
  where
    go : (t : Bool) → line_ends b w ≤ length w → pick t (suc (line_ends b w)) (line_ends b w) ≤ suc (length w)
    go true h = omega arith
    go false h = omega arith

-- LINES. The invariant: the lines counted so far and those that end from the byte i on, which a stands before, are all that there are.
module _ (s w : List ℕ) (at i a n : ℕ) (bytes : w ≡ take at s) (inv : n + line_ends a (drop i w) ≡ line s at) where
  pub line_end : length w ≤ i → n ≡ line s at
  unfolding line_ends
  line_end h = let e = (rw (drop_end w i h) at inv) in omega arith

  module _ (h : i < length w) where
    stepped : n + pick (ends_line a (get_or w i 0)) (suc (line_ends (get_or w i 0) (drop (i + 1) w))) (line_ends (get_or w i 0) (drop (i + 1) w)) ≡ line s at
    unfolding line_ends
    stepped = (rw (drop_at w i h) at inv)

    module _ (t : Bool) (e : t ≡ ends_line a (get_or w i 0)) where
      pub line_ended : t ≡ true → n + 1 + line_ends (get_or w i 0) (drop (i + 1) w) ≡ line s at
      line_ended f = let z = (rw (sym e ∙ f) at stepped) in omega arith

      pub line_on : t ≡ false → n + line_ends (get_or w i 0) (drop (i + 1) w) ≡ line s at
      line_on f = (rw (sym e ∙ f) at stepped)

      pub line_fits : t ≡ true → length s * 1 < 2 ^ 63 → Fits w64 (n + 1)
      unfolding line
      line_fits f l = let z = line_ended f in let k = ends_short 0 (take at s) in let m = take_most at s in omega arith

pub line_start : (s w : List ℕ) (at : ℕ) → w ≡ take at s → 1 + line_ends 0 w ≡ line s at
unfolding line
line_start s w at e = rw e

-- COLUMNS. A byte more at the end:
all_one : (b : ℕ) (w : List ℕ) → all_of on_line (b ∷ w) ≡ (on_line b && all_of on_line w)
unfolding all_of run
all_one b w = go (on_line b)
  where
    go : (t : Bool) → eqb (pick t (suc (run on_line w)) 0) (suc (length w)) ≡ (t && eqb (run on_line w) (length w))
    go true = rw compare.suc-suc
    go false = eqb_no 0 (suc (length w)) (λ (e : 0 ≡ suc (length w)). omega arith)

all_snoc : (u : List ℕ) (b : ℕ) → all_of on_line (u ++ (b ∷ [])) ≡ (all_of on_line u && on_line b)
unfolding all_of run
all_snoc [] b = all_one b [] ∙ and-true (on_line b)
all_snoc (a ∷ u) b = all_one a (u ++ (b ∷ [])) ∙ (rw (all_snoc u b)) ∙ sym (and_assoc (on_line a) (all_of on_line u) (on_line b)) ∙ (rw (all_one a u))

-- it begins a line,
last_break : (b : ℕ) → on_line b ≡ false → (u : List ℕ) → last_line (u ++ (b ∷ [])) ≡ []
unfolding last_line
last_break b f [] = rw (all_one b [], f)
last_break b f (a ∷ u) = rw (all_snoc (a ∷ u) b, f, and-false (all_of on_line (a ∷ u))) (last_break b f u)

-- or it stands on the line before it
last_other : (b : ℕ) → on_line b ≡ true → (u : List ℕ) → last_line (u ++ (b ∷ [])) ≡ last_line u ++ (b ∷ [])
unfolding last_line all_of run
last_other b f [] = rw (all_one b [], f)
last_other b f (a ∷ u) = go (all_of on_line (a ∷ u)) (all_snoc (a ∷ u) b ∙ (rw (f, and-true (all_of on_line (a ∷ u))))) (last_other b f u)
  where
    go : (t : Bool) → all_of on_line (a ∷ (u ++ (b ∷ []))) ≡ t → last_line (u ++ (b ∷ [])) ≡ last_line u ++ (b ∷ [])
        → pick (all_of on_line (a ∷ (u ++ (b ∷ [])))) (a ∷ (u ++ (b ∷ []))) (last_line (u ++ (b ∷ []))) ≡ pick t (a ∷ u) (last_line u) ++ (b ∷ [])
    go true e f = rw e
    go false e f = rw (e, f)

characters_snoc : (u : List ℕ) (b : ℕ) → characters (u ++ (b ∷ [])) ≡ pick (tail b) (characters u) (suc (characters u))
unfolding characters
characters_snoc [] b = refl
characters_snoc (a ∷ u) b = go (tail a) (tail b) (characters_snoc u b)
  where
    go : (x y : Bool) → characters (u ++ (b ∷ [])) ≡ pick y (characters u) (suc (characters u))
        → pick x (characters (u ++ (b ∷ []))) (suc (characters (u ++ (b ∷ [])))) ≡ pick y (pick x (characters u) (suc (characters u))) (suc (pick x (characters u) (suc (characters u))))
    go true true e = e
    go true false e = e
    go false true e = ap suc e
    go false false e = ap suc e

-- so the characters of the last line are counted back from the end
back : (u : List ℕ) → count_by (λ b. not (tail b)) (take_while on_line u) ≡ characters (last_line (reverse u))
unfolding characters last_line
back [] = refl
back (b ∷ u) = go (on_line b) refl (back u)
  where
    step : {n m : ℕ} (t : Bool) → n ≡ m → cond (not t) 1 0 + n ≡ pick t m (suc m)
    step true h = omega arith
    step false h = omega arith

    go : (t : Bool) → on_line b ≡ t → count_by (λ d. not (tail d)) (take_while on_line u) ≡ characters (last_line (reverse u))
        → count_by (λ d. not (tail d)) (take_while on_line (b ∷ u)) ≡ characters (last_line (reverse (b ∷ u)))
    go true e h = rw (take_while-cons on_line b u, e, reverse-append (b ∷ []) u, last_other b e (reverse u), characters_snoc (last_line (reverse u)) b, sum_by-cons (λ d. cond (not (tail d)) 1 0) b (take_while on_line u)) (step (tail b) h)
    go false e h = rw (take_while-cons on_line b u, e, reverse-append (b ∷ []) u, last_break b e (reverse u))

-- n is the characters of the last line before the place, w what stands before it
module _ (s w : List ℕ) (at n : ℕ) (counted : n ≡ count_by (λ b. not (tail b)) (take_while on_line (reverse w))) (bytes : w ≡ take at s) where
  counted_back : n ≡ characters (last_line (take at s))
  counted_back = counted ∙ back (reverse w) ∙ (rw (reverse-reverse, bytes))

  pub column_back : 1 + n ≡ column s at
  unfolding column
  column_back = ap (λ k. 1 + k) counted_back

  pub column_fits : length s * 1 < 2 ^ 63 → Fits w64 (1 + n)
  column_fits h =
      let k = count_by-le-length (λ b. not (tail b)) (take_while on_line (reverse w)) in
      let l = take_most (prefix_len on_line (reverse w)) (reverse w) in
      let m = take_most at s in
      omega (arith, counted, length-reverse w, ap length bytes)

-- what the loop, and the column, search
pub ruleset lines = (line_end, line_ended, line_on, line_fits, line_start, rules)

pub ruleset columns = (column_back, column_fits, rules)

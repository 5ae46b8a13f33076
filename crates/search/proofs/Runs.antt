-- Runs of bytes of a class, byte by byte: from `at` on, of which i is the next place. Assumes nothing.
use mathlib.Core.Path.{◌≡◌, refl, sym, ap, ◌∙◌}
use mathlib.Core.Bool.{Bool, true, false, ◌||◌, not, true≢false}
use mathlib.Core.List.{List, [], ◌∷◌}
use Prim.Native.Nat.{ℕ, zero, suc, ◌+◌, ◌-◌, ◌^◌, ◌<◌, ◌≤◌, max}
use native.Mathlib.Omega.{arith}
use borrow.Author.Rules.{rules}
use mir.Syntax.{w64}
use mir.Val.{Fits}
use lib.ListN.{length, get_or, drop, length-drop}
use lib.Seq.{drop-drop}
use Rattle.spec.specs.Basics.{pick}
use Rattle.spec.specs.Reading.Readers.{run}
use Rattle.spec.proofs.Base.Tests.{or_false_left, or_false_right}
use Rattle.spec.proofs.Base.Places.{drop_at, drop_end, run_within}
use Rattle.search.specs.Runs.{away, Skipped, Block}

module _ (p : ℕ → Bool) (s : List ℕ) (at i : ℕ) (inv : i + run p (drop i s) ≡ at + run p (drop at s)) where
  pub run_end : length s ≤ i → i ≡ at + run p (drop at s)
  unfolding run
  run_end h = let z = rw (drop_end s i h) at inv in omega arith

  pub run_stop : i < length s → p (get_or s i 0) ≡ false → i ≡ at + run p (drop at s)
  unfolding run
  run_stop h e = let z = rw (drop_at s i h, e) at inv in omega arith

  pub run_go : i < length s → p (get_or s i 0) ≡ true → i + 1 + run p (drop (i + 1) s) ≡ at + run p (drop at s)
  unfolding run
  run_go h e = let z = rw (drop_at s i h, e) at inv in omega arith

  -- a loop that began at `at` found no other byte
  pub run_over : (r : ℕ) → at ≤ i → (at ≤ length s → i ≤ length s) → length s ≤ i → r ≡ max at (length s) → r ≡ at + run p (drop at s)
  run_over r g k h e = let z = run_end h in omega (arith, run_within p (drop at s), length-drop at s)

-- a byte outside the class q
module _ (q : ℕ → Bool) (s : List ℕ) (at i : ℕ) (t : Bool) (h : i < length s) (e : t ≡ q (get_or s i 0)) where
  pub away_go : i + away q (drop i s) ≡ at + away q (drop at s) → t ≡ false → i + 1 + away q (drop (i + 1) s) ≡ at + away q (drop at s)
  unfolding away
  away_go inv f = run_go (λ b. not (q b)) s at i inv h (ap not (sym e ∙ f))

  -- in a pass that only looks whether one of the class stands anywhere
  pub pass_go : (found : Bool) → (found ≡ false → i + away q (drop i s) ≡ at + away q (drop at s)) → found || t ≡ false → i + 1 + away q (drop (i + 1) s) ≡ at + away q (drop at s)
  pass_go found inv f = away_go (inv (or_false_left found t f)) (or_false_right found t f)

-- some bytes were passed
pub skipped_none : (q : ℕ → Bool) (s : List ℕ) (at : ℕ) → Skipped q s at at
skipped_none q s at = record { onward = omega arith; ends = refl }

pub skipped_pass : (q : ℕ → Bool) (s : List ℕ) (at i : ℕ) (found : Bool) → at ≤ i → (found ≡ false → i + away q (drop i s) ≡ at + away q (drop at s)) → found ≡ false → Skipped q s at i
skipped_pass q s at i found h inv f = record { onward = h; ends = inv f }

pub skipped_more : (q : ℕ → Bool) (s : List ℕ) (at i j : ℕ) → Skipped q s at i → Skipped q s i j → Skipped q s at j
skipped_more q s at i j a b = record { onward = omega (arith, a.onward, b.onward); ends = b.ends ∙ a.ends }

-- A block: n bytes outside the class stand first, and may be passed at once.
away_split : (q : ℕ → Bool) (n : ℕ) (w : List ℕ) → n ≤ away q w → away q w ≡ n + away q (drop n w)
unfolding away run
away_split q zero w h = omega arith
away_split q (suc n) [] h = absurd (omega arith)
away_split q (suc n) (b ∷ w) h = go (q b) h (away_split q n w)
  where
    go : (t : Bool) → suc n ≤ pick (not t) (suc (run (λ c. not (q c)) w)) 0 → (n ≤ run (λ c. not (q c)) w → run (λ c. not (q c)) w ≡ n + run (λ c. not (q c)) (drop n w))
        → pick (not t) (suc (run (λ c. not (q c)) w)) 0 ≡ suc n + run (λ c. not (q c)) (drop n w)
    go true k ih = absurd (omega arith)
    go false k ih = omega (arith, ih (omega arith))

pub away_within : (q : ℕ → Bool) (w : List ℕ) → away q w ≤ length w
unfolding away
away_within q w = run_within (λ b. not (q b)) w

-- there is no room for a block
pub block_none : (q : ℕ → Bool) (s : List ℕ) (at n : ℕ) → Block q s at n false
block_none q s at n = record { lies = λ f. absurd (true≢false (sym f)) }

-- t says that a block begins at i
module _ (q : ℕ → Bool) (s : List ℕ) (i n : ℕ) (t : Bool) (a : Block q s i n t) (y : t ≡ true) where
  pub block_fits : length s < 2 ^ 64 → 0 < n → Fits w64 (i + n)
  block_fits h p = omega (arith, a.lies y, away_within q (drop i s), length-drop i s)

  pub block_less : 0 < n → length s - (i + n) < length s - i
  block_less p = omega (arith, a.lies y, away_within q (drop i s), length-drop i s)

  pub block_passed : (at : ℕ) → Skipped q s at i → Skipped q s at (i + n)
  block_passed at k = skipped_more q s at i (i + n) k (record { onward = omega arith; ends = ends })
    where
      ends : i + n + away q (drop (i + n) s) ≡ i + away q (drop i s)
      ends = let z = away_split q n (drop i s) (a.lies y) in rw (← drop-drop) (omega arith)

-- what a pass searches, and a loop over blocks
pub ruleset passing = (pass_go, skipped_none, skipped_pass, rules)

pub ruleset blocks = (skipped_none, block_fits, block_less, block_passed, rules)

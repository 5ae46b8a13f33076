-- Tables of range ends: when a table has all characters of a range, and when a class has all characters of a table. Each is a computed test.
-- Assumes nothing.
use mathlib.Core.Bool.{Bool, true, false, ◌&&◌, ◌||◌, true≢false, or-true}
use mathlib.Core.List.{List, [], ◌∷◌}
use mathlib.Core.Path.{◌≡◌, sym}
use Prim.Native.Nat.{ℕ}
use Prim.Native.String.{String}
use native.Mathlib.Omega.{arith}
use lib.Dec.{leb}
use Rattle.spec.specs.Basics.{within}
use Rattle.spec.specs.Grammar.Languages.{ascii, one_of}
use Rattle.spec.specs.Grammar.Ranges.{in_table}
use Rattle.spec.proofs.Base.Tests.{each_of, each_at, leb_true, or_elim, and_left, and_right, within_yes, within_lo, within_hi}

-- one range of the table reaches from lo to hi
unfoldable pub spans : List ℕ → ℕ → ℕ → Bool
spans [] lo hi = false
spans (a ∷ []) lo hi = false
spans (a ∷ b ∷ t) lo hi = (leb a lo && leb hi b) || spans t lo hi

pub spans_in : (t : List ℕ) (lo hi c : ℕ) → spans t lo hi ≡ true → within lo hi c ≡ true → in_table t c ≡ true
unfolding spans in_table
spans_in [] lo hi c e h = absurd (true≢false (sym e))
spans_in (a ∷ []) lo hi c e h = absurd (true≢false (sym e))
spans_in (a ∷ b ∷ t) lo hi c e h =
    or_elim
    (λ f. let l = leb_true a lo (and_left (leb a lo) (leb hi b) f) in
    let g = leb_true hi b (and_right (leb a lo) (leb hi b) f) in
    let m = within_lo lo hi c h in
    let n = within_hi lo hi c h in
    rw (within_yes a b c (omega arith) (omega arith)))
    (λ f. rw (spans_in t lo hi c f h, or-true))
    e

-- the ends of each range of the table pass the test
unfoldable pub each_range : (ℕ → ℕ → Bool) → List ℕ → Bool
each_range q [] = true
each_range q (lo ∷ []) = true
each_range q (lo ∷ hi ∷ t) = q lo hi && each_range q t

-- a class that has each range whose ends pass the test has the tables and the signs that pass it
module _ (q : ℕ → ℕ → Bool) (p : ℕ → Bool) (law : (lo hi c : ℕ) → q lo hi ≡ true → within lo hi c ≡ true → p c ≡ true) where
  pub table_held : (t : List ℕ) → each_range q t ≡ true → (c : ℕ) → in_table t c ≡ true → p c ≡ true
  unfolding each_range in_table
  table_held [] h c e = absurd (true≢false (sym e))
  table_held (lo ∷ []) h c e = absurd (true≢false (sym e))
  table_held (lo ∷ hi ∷ t) h c e =
      or_elim (law lo hi c (and_left (q lo hi) (each_range q t) h)) (table_held t (and_right (q lo hi) (each_range q t) h) c) e

  pub signs_held : (s : String) → each_of (λ b. q b b) (ascii s) ≡ true → (c : ℕ) → one_of s c ≡ true → p c ≡ true
  signs_held s h c e = law c c c (each_at (λ b. q b b) (ascii s) h c e) (within_yes c c c (omega arith) (omega arith))

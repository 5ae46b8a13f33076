-- Bytes and places in a text. Assumes nothing.
use mathlib.Core.Bool.{Bool, true, false}
use mathlib.Core.List.{List, [], ◌∷◌}
use mathlib.Core.Path.{◌≡◌, sym, ap, ◌∙◌}
use Prim.Native.Nat.{ℕ, zero, suc, ◌+◌, ◌-◌, ◌<◌, ◌≤◌}
use native.Mathlib.Nat.{add-zero, sub-zero, zero-sub, suc-sub-suc}
use native.Mathlib.Numerals.{add-one}
use native.Mathlib.Omega.{arith}
use lib.ListN.{length, get_or, take, drop, length-drop, drop_of_length-le, get_or-eq_default}
use lib.Seq.{take_all, take-nil, drop-cons, get_or-drop}
use Rattle.spec.specs.Basics.{pick}
use Rattle.spec.specs.Reading.Readers.{run}

-- the byte at i, and what follows it
pub drop_at : (s : List ℕ) (i : ℕ) → i < length s → drop i s ≡ get_or s i 0 ∷ drop (i + 1) s
drop_at s i h = rw (add-one, drop-cons s i 0)

-- nothing is left at the end
pub drop_end : (s : List ℕ) (i : ℕ) → length s ≤ i → drop i s ≡ []
drop_end s i h = drop_of_length-le s h

-- past the end a byte reads as 0
pub byte_past : (s : List ℕ) (i : ℕ) → length s ≤ i → 0 ≡ get_or s i 0
byte_past s i h = sym (get_or-eq_default s 0 h)

-- so a byte other than 0 stands in the text
pub byte_in : (s : List ℕ) (i b : ℕ) → b ≡ get_or s i 0 → (b ≡ 0 → ⊥) → i < length s
byte_in [] i b e n = absurd (n e)
byte_in (x ∷ s) zero b e n = omega arith
byte_in (x ∷ s) (suc i) b e n = let h = byte_in s i b e n in omega arith

-- the first byte of what is left
pub front_at : (s : List ℕ) (at : ℕ) → get_or (drop at s) 0 0 ≡ get_or s at 0
front_at s at = get_or-drop at s 0 0 ∙ (rw add-zero)

-- a run lies within the text
pub run_within : (p : ℕ → Bool) (w : List ℕ) → run p w ≤ length w
unfolding run
run_within p [] = omega arith
run_within p (b ∷ w) = go (p b) (run_within p w)
  where
    go : (t : Bool) → run p w ≤ length w → pick t (suc (run p w)) 0 ≤ suc (length w)
    go true h = omega arith
    go false h = omega arith

-- a part, as what is left at i of the text up to n
pub drop_take : (i n : ℕ) (s : List ℕ) → drop i (take n s) ≡ take (n - i) (drop i s)
drop_take zero n s = rw sub-zero
drop_take (suc i) zero s = sym (ap (λ (k : ℕ). take k (drop (suc i) s)) (zero-sub (suc i)))
drop_take (suc i) (suc n) [] = sym (take-nil (suc n - suc i))
drop_take (suc i) (suc n) (b ∷ s) = drop_take i n s ∙ ap (λ (k : ℕ). take k (drop i s)) (sym (suc-sub-suc n i))

-- the part of a text from i on, as code cuts it
pub take_rest : (s : List ℕ) (i : ℕ) → take (length s - i) (drop i s) ≡ drop i s
take_rest s i = take_all (length s - i) (drop i s) (omega (arith, length-drop i s))

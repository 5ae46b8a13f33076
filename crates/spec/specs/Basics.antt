-- Choice by a test, ranges of numbers, and the longest text that is looked at. Assumes nothing.
use Rattle.std.specs.Prelude.{Bool, true, false, ◌&&◌, ℕ, leb}

-- a where the test holds, b where it does not
abbrev pub pick : {A : Type 0} → Bool → A → A → A
pick true a b = a
pick false a b = b

-- lo ≤ n ≤ hi
abbrev pub within : ℕ → ℕ → ℕ → Bool
within lo hi n = leb lo n && leb n hi

-- the longest text that is looked at, in bytes: an addition of ours (1)
abbrev pub limit : ℕ
limit = 1_048_576

-- How far a text was looked at. Assumes nothing.
use Rattle.std.specs.Prelude.{◌≡◌, List, ℕ, ◌+◌, ◌≤◌, length, drop}
use Rattle.spec.specs.Reading.Source.{utf8}
use Rattle.utf8.specs.Seen.{accepts}

-- whole characters stand from `at` to r, so that what follows decides
pub record Passed (s : List ℕ) (at r : ℕ) : Type 0 where
  pub onward : at ≤ r
  pub inside : at ≤ length s → r ≤ length s
  pub decides : accepts (utf8 (drop r s)) ≡ accepts (utf8 (drop at s))

-- r is at most three places before `at`
pub record Near (at r : ℕ) : Type 0 where
  pub back : r ≤ at
  pub close : at ≤ r + 3

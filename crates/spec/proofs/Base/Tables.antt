-- Tables: what is said of every row, by a test of each. Assumes nothing.
use mathlib.Core.Bool.{Bool, true, ◌&&◌}
use mathlib.Core.List.{List, [], ◌∷◌}
use mathlib.Core.Path.{◌≡◌}
use Rattle.spec.specs.Rows.{All}
use Rattle.spec.proofs.Base.Tests.{and_left, and_right}

abbrev pub each : {A : Type 0} → (A → Bool) → List A → Bool
each test [] = true
each test (r ∷ rs) = test r && each test rs

-- where a row that passes the test is as it is said to be
pub by_test : {A : Type 0} {P : A → Type 0} (test : A → Bool) → ((r : A) → test r ≡ true → P r) → (rs : List A) → each test rs ≡ true → All P rs
by_test test law [] e = tt
by_test test law (r ∷ rs) e = (law r (and_left (test r) (each test rs) e), by_test test law rs (and_right (test r) (each test rs) e))

-- Runs of bytes outside a class, of which code may pass some at once. Assumes nothing.
use Rattle.std.specs.Prelude.{◌≡◌, Bool, true, not, List, ℕ, ◌+◌, ◌≤◌, drop}
use Rattle.spec.specs.Reading.Readers.{run}

-- how many bytes outside the class stand first
unfoldable pub away : (ℕ → Bool) → List ℕ → ℕ
away q = run (λ b. not (q b))

-- some of them were passed: the bytes outside the class from r on end where those from `at` on do
pub record Skipped (q : ℕ → Bool) (s : List ℕ) (at r : ℕ) : Type 0 where
  pub onward : at ≤ r
  pub ends : r + away q (drop r s) ≡ at + away q (drop at s)

-- where t is true, n bytes outside the class stand at a place; where it is false, nothing is said
pub record Block (q : ℕ → Bool) (s : List ℕ) (at n : ℕ) (t : Bool) : Type 0 where
  pub lies : t ≡ true → n ≤ away q (drop at s)

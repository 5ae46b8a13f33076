-- `utf8::padded` meets its contract. The invariant: the bytes so far are in their places. Assumes nothing.
use mathlib.Core.Path.{◌≡◌}
use mathlib.Core.List.{◌∷◌}
use Prim.Native.Nat.{ℕ, ◌+◌, ◌<◌}
use lib.ListN.{length, get_or}
use Rattle.utf8.proofs.padded.Given as goal

abbrev pub invariant-loop-i : goal.invariant-loop-i
invariant-loop-i l = (length l.t ≡ 22) × ((k : ℕ) → k < l.i + 3 → get_or l.t k 0 ≡ get_or (0 ∷ 0 ∷ 0 ∷ l.s) k 0)

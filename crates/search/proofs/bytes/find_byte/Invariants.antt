-- `search::bytes::find_byte` meets its contract. The invariant: the first place from i on is the first place from `at` on. Assumes nothing.
use mathlib.Core.Path.{◌≡◌}
use mathlib.Core.List.{[], ◌∷◌}
use Rattle.search.specs.FirstPlace.{first_place}
use Rattle.search.proofs.bytes.find_byte.Given as goal

abbrev pub invariant-loop-i : goal.invariant-loop-i
invariant-loop-i l = first_place (l.b ∷ []) l.s l.i ≡ first_place (l.b ∷ []) l.s l.at

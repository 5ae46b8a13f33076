-- `search::places::find` meets its contract. The invariant: the first place from i on is the first place from `at` on. Assumes nothing.
use mathlib.Core.Path.{◌≡◌}
use Prim.Native.Nat.{◌-◌}
use lib.ListN.{length}
use Rattle.search.specs.FirstPlace.{first_place}
use Rattle.search.proofs.places.find.Given as goal

abbrev pub invariant-loop-i : goal.invariant-loop-i
invariant-loop-i l = first_place l.kw l.s l.i ≡ first_place l.kw l.s l.at

abbrev pub decreases-loop-i : goal.decreases-loop-i
decreases-loop-i l = length l.s - l.i

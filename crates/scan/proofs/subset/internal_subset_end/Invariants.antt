-- `scan::subset::internal_subset_end` meets its contract. The invariant: what the pass finds from i on is what it finds. Assumes nothing.
use mathlib.Core.Path.{◌≡◌}
use Prim.Native.Nat.{◌-◌}
use lib.ListN.{length}
use Rattle.spec.specs.Reading.Scan.{subset_end}
use Rattle.search.specs.Places.{place_from}
use Rattle.scan.proofs.subset.internal_subset_end.Given as goal

abbrev pub invariant-loop-i : goal.invariant-loop-i
invariant-loop-i l = place_from (subset_end 0 0) l.s l.i ≡ place_from (subset_end 0 0) l.s l.at

abbrev pub decreases-loop-i : goal.decreases-loop-i
decreases-loop-i l = length l.s - l.i

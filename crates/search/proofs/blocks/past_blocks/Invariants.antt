-- `search::blocks::past_blocks` meets its contract. The invariant: only bytes outside the class were passed. Assumes nothing.
use Prim.Native.Nat.{◌-◌}
use lib.ListN.{length}
use Rattle.search.specs.Runs.{Skipped}
use Rattle.search.proofs.blocks.past_blocks.Given as goal

abbrev pub invariant-loop-i : goal.invariant-loop-i
invariant-loop-i g l = Skipped (g.C.Blocks.class l.of) l.s l.at l.i

abbrev pub decreases-loop-i : goal.decreases-loop-i
decreases-loop-i g l = length l.s - l.i

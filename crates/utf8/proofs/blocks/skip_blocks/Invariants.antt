-- `utf8::blocks::skip_blocks` meets its contract. The invariant: only blocks of ASCII were passed.
-- Assumes nothing.
use Prim.Native.Nat.{◌-◌}
use lib.ListN.{length}
use Rattle.utf8.specs.Passed.{Passed}
use Rattle.utf8.proofs.blocks.skip_blocks.Given as goal

abbrev pub invariant-loop-end : goal.invariant-loop-end
invariant-loop-end l = Passed l.s l.at l.i

abbrev pub decreases-loop-end : goal.decreases-loop-end
decreases-loop-end l = length l.s - l.i

-- `chars::skip::skip_blocks` meets its contract. The invariant: only bytes that are not special were passed.
-- Assumes nothing.
use Prim.Native.Nat.{◌-◌}
use lib.ListN.{length}
use Rattle.chars.specs.Bytes.{special}
use Rattle.search.specs.Runs.{Skipped}
use Rattle.chars.proofs.skip.skip_blocks.Given as goal

abbrev pub invariant-loop-i : goal.invariant-loop-i
invariant-loop-i l = Skipped (special l.mark) l.s l.at l.i

abbrev pub decreases-loop-i : goal.decreases-loop-i
decreases-loop-i l = length l.s - l.i

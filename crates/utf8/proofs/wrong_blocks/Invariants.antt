-- `utf8::wrong_blocks` meets its contract. The invariant: the blocks ahead are the text's end, and if no byte so far is out of place, the
-- last block and those passed are in order. Assumes nothing.
use lib.ListN.{length}
use Rattle.utf8.proofs.Windows.{Blocks}
use Rattle.utf8.proofs.wrong_blocks.Given as goal

abbrev pub invariant-loop-rest : goal.invariant-loop-rest
invariant-loop-rest l = Blocks l.s l.rest l.bad

abbrev pub decreases-loop-rest : goal.decreases-loop-rest
decreases-loop-rest l = length l.rest

-- What is left to show of `wrong_blocks`. Assumes nothing.
use Rattle.utf8.proofs.Windows.{blocks_start, blocks_more, blocks_end}
use Rattle.utf8.proofs.wrong_blocks.Goals as goal

pub loop-rest-init : goal.loop-rest-init
loop-rest-init c = blocks_start _ _ c.requires c.wrong_windows-bad.ensures

pub loop-rest-preserved : goal.loop-rest-preserved
loop-rest-preserved c = blocks_more _ _ _ c.loop-rest.invariant _ c.loop-rest-test.true c.wrong_windows-bad-in-loop-rest.ensures

pub returns : goal.returns
returns c = blocks_end _ _ _ c.loop-rest.invariant c.loop-rest-test.false

-- What is left to show of `read_misc`. Assumes nothing.
use Rattle.document.proofs.Items.{miscs}
use Rattle.document.proofs.misc.read_misc.Goals as goal

pub loop-names-smaller : goal.loop-names-smaller
loop-names-smaller c = search (miscs, c.in_ok-j.was)

pub loop-names-preserved : goal.loop-names-preserved
loop-names-preserved c = search (miscs, c.in_ok-j.was)

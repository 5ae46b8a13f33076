-- What is left to show of `past_bars`. Assumes nothing.
use Rattle.spec.specs.Reading.Dtd.{after}
use Rattle.cursor.proofs.Barred.{listing}
use Rattle.cursor.proofs.bars.past_bars.Goals as goal

pub loop-from-smaller : goal.loop-from-smaller
unfolding after
loop-from-smaller g c = search (listing, c.in_ok-to.was)

pub loop-from-preserved : goal.loop-from-preserved
unfolding after
loop-from-preserved g c = search (listing, c.in_ok-to.was)

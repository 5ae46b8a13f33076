-- What is left to show of `count`. Assumes nothing.
use Rattle.gate.proofs.Stepping.{reading}
use Rattle.gate.proofs.record.Gate.count.Goals as goal

pub returns : goal.returns
returns c = search reading

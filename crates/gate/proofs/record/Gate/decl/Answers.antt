-- What is left to show of `decl`. Assumes nothing.
use Rattle.gate.proofs.Stepping.{declares}
use Rattle.gate.proofs.record.Gate.decl.Goals as goal

pub returns : goal.returns
returns c = rw c.counted.ensures.answer (declares _ _ _ _ _ c.read_decl-verdict.ensures c.counted.ensures.record)

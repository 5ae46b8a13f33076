-- What is left to show of `doctype`. Assumes nothing.
use Rattle.gate.proofs.Stepping.{docks}
use Rattle.gate.proofs.record.Gate.doctype.Goals as goal

pub returns : goal.returns
returns c = rw c.counted.ensures.answer (docks _ _ _ _ _ _ c.read_doctype-answer.ensures c.counted.ensures.record)

-- What is left to show of `read_decl`. Assumes nothing.
use Rattle.gate.proofs.Stepping.{reading}
use Rattle.gate.proofs.record.Gate.read_decl.Goals as goal

pub returns-in_err-admit : goal.returns-in_err-admit
returns-in_err-admit c = search reading

pub returns-then-self : goal.returns-then-self
returns-then-self c = search reading

pub returns : goal.returns
returns c = search reading

-- What is left to show of `check_name`. Assumes nothing.
use Rattle.names.proofs.Calls.{calls}
use Rattle.names.proofs.checks.check_name.Goals as goal

pub returns-in_err-admit : goal.returns-in_err-admit
returns-in_err-admit c = search calls

pub returns : goal.returns
returns c = search calls

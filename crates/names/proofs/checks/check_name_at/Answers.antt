-- What is left to show of `check_name_at`. Assumes nothing.
use Rattle.names.proofs.Calls.{located}
use Rattle.names.proofs.checks.check_name_at.Goals as goal

pub returns-in_err-admit_at : goal.returns-in_err-admit_at
returns-in_err-admit_at c = search located

pub returns : goal.returns
returns c = search located

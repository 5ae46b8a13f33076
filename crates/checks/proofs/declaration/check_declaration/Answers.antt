-- What is left to show of `check_declaration`. Assumes nothing.
use Rattle.checks.proofs.Declaring.{declaring}
use Rattle.checks.proofs.declaration.check_declaration.Goals as goal

pub returns-in_err-admit : goal.returns-in_err-admit
returns-in_err-admit c = search declaring

pub returns : goal.returns
returns c = search declaring

-- What is left to show of `check_declaration_at`. Assumes nothing.
use Rattle.checks.proofs.Declaring.{located}
use Rattle.checks.proofs.declaration.check_declaration_at.Goals as goal

pub returns-in_err-admit_at : goal.returns-in_err-admit_at
returns-in_err-admit_at c = search located

pub returns : goal.returns
returns c = search located

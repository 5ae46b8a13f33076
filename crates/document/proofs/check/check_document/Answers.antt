-- What is left to show of `check_document`. Assumes nothing.
use Rattle.document.proofs.Checking.{checking}
use Rattle.document.proofs.check.check_document.Goals as goal

pub returns-then-is_some : goal.returns-then-is_some
returns-then-is_some c = search checking

pub returns : goal.returns
returns c = search checking

-- What is left to show of `check_doctype`. Assumes nothing.
use Rattle.dtd.proofs.Whole.{whole}
use Rattle.dtd.proofs.doctype.check_doctype.Goals as goal

pub returns-in_err-admit : goal.returns-in_err-admit
returns-in_err-admit c = search whole

pub returns : goal.returns
returns c = search whole

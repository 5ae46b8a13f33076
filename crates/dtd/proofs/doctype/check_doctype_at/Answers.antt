-- What is left to show of `check_doctype_at`. Assumes nothing.
use Rattle.dtd.proofs.Whole.{located}
use Rattle.dtd.proofs.doctype.check_doctype_at.Goals as goal

pub returns-in_err-admit_at : goal.returns-in_err-admit_at
returns-in_err-admit_at c = search located

pub returns : goal.returns
returns c = search located

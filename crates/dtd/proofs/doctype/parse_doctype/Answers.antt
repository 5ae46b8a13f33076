-- What is left to show of `parse_doctype`. Assumes nothing.
use Rattle.spec.specs.Reading.Dtd.{check_doctype}
use Rattle.error.proofs.Passing.{handed_up}
use Rattle.dtd.proofs.Whole.{ending}
use Rattle.dtd.proofs.doctype.parse_doctype.Goals as goal

pub returns-in_err-i : goal.returns-in_err-i
unfolding check_doctype
returns-in_err-i c = handed_up _ _ _ _ _ c.in_err-i.is c.branch-i.ensures c.from_residual.ensures.1 (search (ending, c.in_err-i.was))

pub returns : goal.returns
unfolding check_doctype
returns c = search (ending, c.in_ok-i.was)

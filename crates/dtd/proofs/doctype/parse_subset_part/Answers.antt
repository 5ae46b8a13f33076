-- What is left to show of `parse_subset_part`. Assumes nothing.
use Rattle.spec.specs.Reading.Readers.{on}
use Rattle.dtd.specs.Parts.{subset_part}
use Rattle.error.proofs.Passing.{handed_up}
use Rattle.dtd.proofs.Whole.{parts_read}
use Rattle.dtd.proofs.doctype.parse_subset_part.Goals as goal

pub returns-in_default : goal.returns-in_default
unfolding on subset_part
returns-in_default c = search parts_read

pub returns-in_err-i : goal.returns-in_err-i
unfolding on subset_part
returns-in_err-i c = handed_up _ _ _ _ _ c.in_err-i.is c.branch-i.ensures c.from_residual.ensures.1 (search (parts_read, c.in_err-i.was))

pub returns : goal.returns
unfolding on subset_part
returns c = search (parts_read, c.in_ok-i.was)

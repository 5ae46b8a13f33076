-- What is left to show of `parse_before_end`. Assumes nothing.
use Rattle.spec.specs.Reading.Dtd.{doctype_before}
use Rattle.dtd.specs.Parts.{id_part}
use Rattle.dtd.specs.Parts.{subset_part}
use Rattle.error.proofs.Passing.{handed_up}
use Rattle.dtd.proofs.Whole.{parts_read}
use Rattle.dtd.proofs.doctype.parse_before_end.Goals as goal

pub returns-in_err-i-2 : goal.returns-in_err-i-2
unfolding doctype_before id_part subset_part
returns-in_err-i-2 c = handed_up _ _ _ _ _ c.in_err-i-2.is c.branch-i-2.ensures c.from_residual-in_err-i-2.ensures.1 (search (parts_read, c.in_ok-i.was, c.in_err-i-2.was))

pub returns : goal.returns
unfolding doctype_before id_part subset_part
returns c = search (parts_read, c.in_ok-i.was, c.in_ok-i-2.was)

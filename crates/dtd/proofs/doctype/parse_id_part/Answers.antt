-- What is left to show of `parse_id_part`. Assumes nothing.
use Rattle.error.proofs.Passing.{handed_up}
use Rattle.dtd.proofs.Whole.{parts_read}
use Rattle.dtd.proofs.doctype.parse_id_part.Goals as goal

pub returns-in_err-i : goal.returns-in_err-i
returns-in_err-i c = handed_up _ _ _ _ _ c.in_err-i.is c.branch-i.ensures c.from_residual.ensures.1 (search (parts_read, c.in_err-i.was))

pub returns-then-at_keyword : goal.returns-then-at_keyword
returns-then-at_keyword c = search (parts_read, c.in_ok-i.was)

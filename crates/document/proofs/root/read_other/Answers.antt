-- What is left to show of `read_other`. Assumes nothing.
use Rattle.spec.specs.Reading.Document.{read_other}
use Rattle.error.proofs.Passing.{handed_up}
use Rattle.document.proofs.Tags.{tags}
use Rattle.document.proofs.root.read_other.Goals as goal

pub returns-then-is_some : goal.returns-then-is_some
unfolding read_other
returns-then-is_some c = search tags

pub returns-in_err-i : goal.returns-in_err-i
unfolding read_other
returns-in_err-i c = handed_up _ _ _ _ _ c.in_err-i.is c.branch-i.ensures c.from_residual.ensures.1 (search (tags, c.in_err-i.was))

pub returns : goal.returns
unfolding read_other
returns c = search (tags, c.in_ok-i.was)

-- What is left to show of `parse_after_version`. Assumes nothing.
use Rattle.spec.specs.Reading.Checks.{pseudo_attr}
use Rattle.error.proofs.Passing.{handed_up}
use Rattle.cursor.proofs.Reading.{reading}
use Rattle.checks.specs.Pieces.{pseudo_attr_of}
use Rattle.checks.proofs.declaration.parse_after_version.Goals as goal

pub returns-in_err-i-2 : goal.returns-in_err-i-2
unfolding pseudo_attr pseudo_attr_of
returns-in_err-i-2 c = handed_up _ _ _ _ _ c.in_err-i-2.is c.branch-i-2.ensures c.from_residual-in_err-i-2.ensures.1 (search (reading, c.in_ok-i.was, c.in_err-i-2.was))

pub returns : goal.returns
unfolding pseudo_attr pseudo_attr_of
returns c = search (reading, c.in_ok-i.was, c.in_ok-i-2.was)

-- What is left to show of `parse_id`. Assumes nothing.
use Rattle.spec.specs.Reading.Readers.{on}
use Rattle.error.proofs.Passing.{handed_up}
use Rattle.cursor.proofs.Reading.{reading}
use Rattle.cursor.proofs.literals.parse_id.Goals as goal

pub returns-in_err-i : goal.returns-in_err-i
unfolding on
returns-in_err-i g c = handed_up _ _ _ _ _ c.in_err-i.is c.branch-i.ensures c.from_residual.ensures.1 (search (reading, c.in_err-i.was))

pub returns-in_err-j : goal.returns-in_err-j
unfolding on
returns-in_err-j g c = handed_up _ _ _ _ _ c.in_err-j.is c.branch-j.ensures c.from_residual-in_err-j.ensures.1 (search (reading, c.in_ok-i.was, c.in_err-j.was))

pub returns-in_err-e : goal.returns-in_err-e
unfolding on
returns-in_err-e g c = handed_up _ _ _ _ _ c.in_err-e.is c.branch-e.ensures c.from_residual-in_err-e.ensures.1 (search (reading, c.in_ok-i.was, c.in_ok-j.was, c.in_err-e.was))

pub returns : goal.returns
unfolding on
returns g c = search (reading, c.in_ok-i.was, c.in_ok-j.was, c.in_ok-e.was)

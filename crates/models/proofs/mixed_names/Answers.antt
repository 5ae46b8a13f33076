-- What is left to show of `mixed_names`. Assumes nothing.
use Rattle.error.proofs.Passing.{handed_up}
use Rattle.cursor.proofs.Reading.{reading}
use Rattle.models.specs.Parts.{mixed_names}
use Rattle.models.proofs.mixed_names.Goals as goal

pub returns-in_err-e : goal.returns-in_err-e
unfolding mixed_names
returns-in_err-e c = handed_up _ _ _ _ _ c.in_err-e.is c.branch-e.ensures c.from_residual-in_err-e.ensures.1 (search (reading, c.in_ok-j.was, c.in_err-e.was))

pub returns : goal.returns
unfolding mixed_names
returns c = search (reading, c.in_ok-j.was, c.in_ok-e.was)

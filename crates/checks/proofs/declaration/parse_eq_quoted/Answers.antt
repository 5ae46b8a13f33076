-- What is left to show of `parse_eq_quoted`. Assumes nothing.
use Rattle.checks.proofs.Equating.{handed, equating}
use Rattle.checks.proofs.declaration.parse_eq_quoted.Goals as goal

pub returns-in_err-rest : goal.returns-in_err-rest
returns-in_err-rest c = handed _ _ _ c.from_residual-in_err-rest.ensures.1 (search (equating, c.in_ok-i.was, c.in_err-rest.was))

pub returns : goal.returns
returns c = search (equating, c.in_ok-i.was, c.in_ok-rest.was)

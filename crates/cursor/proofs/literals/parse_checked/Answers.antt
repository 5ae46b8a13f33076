-- What is left to show of `parse_checked`. Assumes nothing.
use Rattle.error.proofs.Passing.{handed_up}
use Rattle.cursor.proofs.Quotes.{texts}
use Rattle.cursor.proofs.literals.parse_checked.Goals as goal

pub returns-in_err-read : goal.returns-in_err-read
returns-in_err-read g c = handed_up _ _ _ _ _ c.in_err-read.is c.branch-read.ensures c.from_residual-in_err-read.ensures.1 (search (texts, c.in_ok-end.was, c.in_err-read.was))

pub returns : goal.returns
returns g c = search (texts, c.in_ok-end.was, c.in_ok-read.was)

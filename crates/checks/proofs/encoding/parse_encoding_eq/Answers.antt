-- What is left to show of `parse_encoding_eq`. Assumes nothing.
use Rattle.spec.specs.Reading.Verdict.{read_encoding}
use Rattle.error.proofs.Passing.{handed_up}
use Rattle.cursor.proofs.Reading.{reading}
use Rattle.checks.proofs.encoding.parse_encoding_eq.Goals as goal

pub returns-in_err-i-2 : goal.returns-in_err-i-2
unfolding read_encoding
returns-in_err-i-2 c = handed_up _ _ _ _ _ c.in_err-i-2.is c.branch-i-2.ensures c.from_residual-in_err-i-2.ensures.1 (search (reading, c.in_ok-i.was, c.in_err-i-2.was))

pub returns-in_err-i-3 : goal.returns-in_err-i-3
unfolding read_encoding
returns-in_err-i-3 c = handed_up _ _ _ _ _ c.in_err-i-3.is c.branch-i-3.ensures c.from_residual-in_err-i-3.ensures.1 (search (reading, c.in_ok-i.was, c.in_ok-i-2.was, c.in_err-i-3.was))

pub returns : goal.returns
unfolding read_encoding
returns c = search (reading, c.in_ok-i.was, c.in_ok-i-2.was, c.in_ok-i-3.was)

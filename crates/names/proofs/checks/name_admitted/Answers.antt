-- What is left to show of `name_admitted`. Assumes nothing.
use Rattle.source.proofs.Admitting.{place_left, place_passed}
use Rattle.names.proofs.checks.name_admitted.Goals as goal

pub returns-in_err-whole_name : goal.returns-in_err-whole_name
returns-in_err-whole_name c = place_left _ _ _ c.whole_name.ensures _ _ _ c.branch-whole_name.ensures c.in_err-whole_name.is c.from_residual.ensures.1

pub returns : goal.returns
returns c = place_passed _ _ _ c.whole_name.ensures _ _ c.branch-whole_name.ensures c.in_ok-whole_name.is

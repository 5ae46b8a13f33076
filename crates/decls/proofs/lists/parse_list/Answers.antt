-- What is left to show of `parse_list`. Assumes nothing.
use Rattle.spec.specs.Reading.Dtd.{bar_list}
use Rattle.error.proofs.Passing.{handed_up}
use Rattle.cursor.proofs.Reading.{reading}
use Rattle.decls.proofs.lists.parse_list.Goals as goal

pub returns-in_err-to : goal.returns-in_err-to
unfolding bar_list
returns-in_err-to g c = handed_up _ _ _ _ _ c.in_err-to.is c.branch-to.ensures c.from_residual-in_err-to.ensures.1 (search (reading, c.in_ok-opened.was, c.in_err-to.was))

pub returns : goal.returns
unfolding bar_list
returns g c = search (reading, c.in_ok-opened.was, c.in_ok-to.was)

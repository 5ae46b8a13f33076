-- What is left to show of `parse_element_decl`. Assumes nothing.
use Rattle.spec.specs.Reading.Dtd.{parse_element_decl}
use Rattle.error.proofs.Passing.{handed_up}
use Rattle.cursor.proofs.Reading.{reading}
use Rattle.subset.proofs.declarations.parse_element_decl.Goals as goal

pub returns-in_err-i-2 : goal.returns-in_err-i-2
unfolding parse_element_decl
returns-in_err-i-2 c = handed_up _ _ _ _ _ c.in_err-i-2.is c.branch-i-2.ensures c.from_residual-in_err-i-2.ensures.1 (search (reading, c.in_ok-i.was, c.in_err-i-2.was))

pub returns-in_err-i-3 : goal.returns-in_err-i-3
unfolding parse_element_decl
returns-in_err-i-3 c = handed_up _ _ _ _ _ c.in_err-i-3.is c.branch-i-3.ensures c.from_residual-in_err-i-3.ensures.1 (search (reading, c.in_ok-i.was, c.in_ok-i-2.was, c.in_err-i-3.was))

pub returns-in_err-i-4 : goal.returns-in_err-i-4
unfolding parse_element_decl
returns-in_err-i-4 c = handed_up _ _ _ _ _ c.in_err-i-4.is c.branch-i-4.ensures c.from_residual-in_err-i-4.ensures.1 (search (reading, c.in_ok-i.was, c.in_ok-i-2.was, c.in_ok-i-3.was, c.in_err-i-4.was))

pub returns : goal.returns
unfolding parse_element_decl
returns c = search (reading, c.in_ok-i.was, c.in_ok-i-2.was, c.in_ok-i-3.was, c.in_ok-i-4.was)

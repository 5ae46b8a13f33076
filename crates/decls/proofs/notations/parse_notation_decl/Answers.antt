-- What is left to show of `parse_notation_decl`. Assumes nothing.
use Rattle.spec.specs.Reading.Dtd.{parse_notation_decl}
use Rattle.error.proofs.Passing.{handed_up}
use Rattle.cursor.proofs.Reading.{reading}
use Rattle.decls.proofs.notations.parse_notation_decl.Goals as goal

pub returns-in_err-j : goal.returns-in_err-j
unfolding parse_notation_decl
returns-in_err-j c = handed_up _ _ _ _ _ c.in_err-j.is c.branch-j.ensures c.from_residual-in_err-j.ensures.1 (search (reading, c.in_ok-i.was, c.in_err-j.was))

pub returns-in_err-k : goal.returns-in_err-k
unfolding parse_notation_decl
returns-in_err-k c = handed_up _ _ _ _ _ c.in_err-k.is c.branch-k.ensures c.from_residual-in_err-k.ensures.1 (search (reading, c.in_ok-i.was, c.in_ok-j.was, c.in_err-k.was))

pub returns-in_err-l : goal.returns-in_err-l
unfolding parse_notation_decl
returns-in_err-l c = handed_up _ _ _ _ _ c.in_err-l.is c.branch-l.ensures c.from_residual-in_err-l.ensures.1 (search (reading, c.in_ok-i.was, c.in_ok-j.was, c.in_ok-k.was, c.in_err-l.was))

pub returns : goal.returns
unfolding parse_notation_decl
returns c = search (reading, c.in_ok-i.was, c.in_ok-j.was, c.in_ok-k.was, c.in_ok-l.was)

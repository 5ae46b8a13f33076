-- What is left to show of `parse_attlist_decl`. Assumes nothing.
use Rattle.spec.specs.Reading.Dtd.{parse_attlist_decl}
use Rattle.error.proofs.Passing.{handed_up}
use Rattle.cursor.proofs.Reading.{reading}
use Rattle.decls.proofs.attlists.parse_attlist_decl.Goals as goal

pub returns : goal.returns
unfolding parse_attlist_decl
returns c = search (reading, c.in_ok-i.was, c.in_ok-j.was)

pub returns-in_err-j : goal.returns-in_err-j
unfolding parse_attlist_decl
returns-in_err-j c = handed_up _ _ _ _ _ c.in_err-j.is c.branch-j.ensures c.from_residual-in_err-j.ensures.1 (search (reading, c.in_ok-i.was, c.in_err-j.was))

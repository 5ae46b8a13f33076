-- What is left to show of `parse_pe_reference`. Assumes nothing.
use Rattle.spec.specs.Reading.Dtd.{parse_pe_reference}
use Rattle.error.proofs.Passing.{handed_up}
use Rattle.cursor.proofs.Reading.{reading}
use Rattle.markup.proofs.references.parse_pe_reference.Goals as goal

pub returns-in_err-e : goal.returns-in_err-e
unfolding parse_pe_reference
returns-in_err-e c = handed_up _ _ _ _ _ c.in_err-e.is c.branch-e.ensures c.from_residual-in_err-e.ensures.1 (search (reading, c.in_ok-i.was, c.in_err-e.was))

pub returns : goal.returns
unfolding parse_pe_reference
returns c = search (reading, c.in_ok-i.was, c.in_ok-e.was)

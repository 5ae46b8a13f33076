-- What is left to show of `parse_entity_or_notation`. Assumes nothing.
use Rattle.spec.specs.Reading.Readers.{on}
use Rattle.subset.specs.Kinds.{entity_or_notation}
use Rattle.error.proofs.Passing.{handed_up}
use Rattle.cursor.proofs.Reading.{reading}
use Rattle.subset.proofs.declarations.parse_entity_or_notation.Goals as goal

pub returns-in_err-i : goal.returns-in_err-i
unfolding on entity_or_notation
returns-in_err-i c = handed_up _ _ _ _ _ c.in_err-i.is c.branch-i.ensures c.from_residual.ensures.1 (search (reading, c.in_err-i.was))

pub returns : goal.returns
unfolding on entity_or_notation
returns c = search (reading, c.in_ok-i.was)

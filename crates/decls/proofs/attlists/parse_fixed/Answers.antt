-- What is left to show of `parse_fixed`. Assumes nothing.
use Rattle.spec.specs.Reading.Readers.{on}
use Rattle.cursor.proofs.Reading.{reading}
use Rattle.decls.proofs.attlists.parse_fixed.Goals as goal

pub returns : goal.returns
unfolding on
returns c = search reading

-- What is left to show of `parse_declaration`. Assumes nothing.
use Rattle.spec.specs.Reading.Readers.{on}
use Rattle.subset.specs.Kinds.{declaration}
use Rattle.cursor.proofs.Reading.{reading}
use Rattle.subset.proofs.declarations.parse_declaration.Goals as goal

pub returns-in-Ok-eat_str : goal.returns-in-Ok-eat_str
unfolding on declaration
returns-in-Ok-eat_str c = search reading

pub returns : goal.returns
unfolding on declaration
returns c = search reading

-- What is left to show of `parse_contentspec`. Assumes nothing.
use Rattle.spec.specs.Reading.Readers.{on}
use Rattle.spec.specs.Reading.Dtd.{parse_contentspec}
use Rattle.models.specs.Parts.{model}
use Rattle.models.proofs.Contentspecs.{specified}
use Rattle.models.proofs.parse_contentspec.Goals as goal

pub returns-in-Ok-eat_str : goal.returns-in-Ok-eat_str
unfolding on parse_contentspec model
returns-in-Ok-eat_str c = search specified

pub returns : goal.returns
unfolding on parse_contentspec model
returns c = search specified

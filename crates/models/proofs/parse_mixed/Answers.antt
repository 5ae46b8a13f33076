-- What is left to show of `parse_mixed`. Assumes nothing.
use Rattle.spec.specs.Reading.Dtd.{parse_mixed}
use Rattle.models.specs.Parts.{mixed_end}
use Rattle.models.specs.Parts.{mixed_names}
use Rattle.models.proofs.Contentspecs.{mixing}
use Rattle.models.proofs.parse_mixed.Goals as goal

pub returns : goal.returns
unfolding parse_mixed mixed_end mixed_names
returns c = search (mixing, c.in_ok-e.was)

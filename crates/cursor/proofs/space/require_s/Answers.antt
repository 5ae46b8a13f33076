-- What is left to show of `require_s`. Assumes nothing.
use Rattle.spec.specs.Reading.Dtd.{require_s}
use Rattle.cursor.proofs.Spaces.{requiring}
use Rattle.cursor.proofs.space.require_s.Goals as goal

pub returns-then-e-at : goal.returns-then-e-at
unfolding require_s
returns-then-e-at c = search requiring

pub returns : goal.returns
unfolding require_s
returns c = search requiring

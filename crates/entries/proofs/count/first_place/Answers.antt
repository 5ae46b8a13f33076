-- What is left to show of `first_place`. Assumes nothing.
use Rattle.entries.proofs.Counting.{starting}
use Rattle.entries.proofs.count.first_place.Goals as goal

pub returns-in-Some : goal.returns-in-Some
returns-in-Some c = search starting

-- What is left to show of `ascii_len`. Assumes nothing.
use Rattle.names.proofs.PlaceLaws.{ascii_found}
use Rattle.names.proofs.ends.ascii_len.Goals as goal

pub returns : goal.returns
returns c = ascii_found _ _ c.past_run.ensures

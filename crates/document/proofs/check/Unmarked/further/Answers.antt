-- What is left to show of `further`. Assumes nothing.
use Rattle.document.proofs.Checking.{checking}
use Rattle.document.proofs.check.Unmarked.further.Goals as goal

pub returns : goal.returns
returns c = search checking

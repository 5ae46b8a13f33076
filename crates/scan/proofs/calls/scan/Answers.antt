-- What is left to show of `scan`. Assumes nothing.
use Rattle.scan.proofs.Answering.{scan_answered}
use Rattle.scan.proofs.calls.scan.Goals as goal

pub returns : goal.returns
returns c = search (scan_answered, c.in_ok-admit.was)

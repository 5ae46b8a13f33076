-- What is left to show of `scan_admitted`. Assumes nothing.
use Rattle.scan.proofs.Answering.{answering}
use Rattle.scan.proofs.calls.scan_admitted.Goals as goal

pub returns-in-Some-internal_subset_end : goal.returns-in-Some-internal_subset_end
returns-in-Some-internal_subset_end c = search answering

pub returns-in-None : goal.returns-in-None
returns-in-None c = search answering

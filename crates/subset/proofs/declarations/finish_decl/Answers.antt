-- What is left to show of `finish_decl`. Assumes nothing.
use Rattle.error.proofs.Passing.{handed_up}
use Rattle.subset.proofs.Finishing.{finishing}
use Rattle.subset.proofs.declarations.finish_decl.Goals as goal

pub slice_bounds-has_pe_reference-end : goal.slice_bounds-has_pe_reference-end
slice_bounds-has_pe_reference-end g c = search (finishing, c.in_ok-end.was)

pub slice_bounds-read-end : goal.slice_bounds-read-end
slice_bounds-read-end g c = search (finishing, c.in_ok-end.was)

pub returns-in_err-read : goal.returns-in_err-read
returns-in_err-read g c = handed_up _ _ _ _ _ c.in_err-read.is c.branch-read.ensures c.from_residual-in_err-read.ensures.1 (search (finishing, c.in_ok-end.was, c.in_err-read.was))

pub returns : goal.returns
returns g c = search (finishing, c.in_ok-end.was, c.in_ok-read.was)

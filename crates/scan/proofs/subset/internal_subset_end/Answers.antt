-- What is left to show of `internal_subset_end`. Assumes nothing.
use Rattle.search.proofs.Outside.{sign_in}
use Rattle.scan.proofs.Passes.{comment_passed, comment_less}
use Rattle.scan.proofs.subset.internal_subset_end.Goals as goal

pub bounds-s-here : goal.bounds-s-here
bounds-s-here c = search (sign_in, c.in_ok-here.was)

pub loop-i-smaller-then-at_keyword : goal.loop-i-smaller-then-at_keyword
loop-i-smaller-then-at_keyword c = search (comment_less, c.in_ok-here.was, c.in_ok-i.was)

pub loop-i-preserved-then-at_keyword : goal.loop-i-preserved-then-at_keyword
loop-i-preserved-then-at_keyword c = search (comment_passed, c.in_ok-here.was, c.in_ok-i.was)

-- What is left to show of `wrong_windows`. Assumes nothing.
use borrow.Author.Rules.{rules}
use Rattle.utf8.proofs.Windows.{ahead_start, ahead_go, ahead_end}
use Rattle.std.proofs.Common.{None}
use Rattle.utf8.proofs.wrong_windows.Goals as goal

pub loop-x-init : goal.loop-x-init
loop-x-init c = ahead_start _ _ c.array_windows-x-items.result None (search rules) (search rules)

pub loop-x-preserved : goal.loop-x-preserved
loop-x-preserved c = ahead_go _ _ _ _ _ c.loop-x.invariant c.next.ensures.steps _ _ c.in-Some.is c.wrong-bad.ensures

pub returns : goal.returns
returns c = ahead_end _ _ _ _ _ c.loop-x.invariant c.next.ensures.steps c.in-None.is

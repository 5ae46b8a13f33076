-- What is left to show of `line_of`. Assumes nothing.
use Rattle.lines.proofs.Counting.{lines}
use Rattle.lines.proofs.line_of.Goals as goal
use Rattle.lines.proofs.line_of.Goals.{then-is_line_end, else-is_line_end}

pub loop-b-init : goal.loop-b-init
loop-b-init c = search lines

pub overflow_add-n : goal.overflow_add-n
overflow_add-n c = search lines

pub loop-b-preserved : goal.loop-b-preserved
loop-b-preserved c = elim c.if-is_line_end.branch [ then-is_line_end w ↦ rw (w.n-is, w.last-is) (search lines) | else-is_line_end w ↦ rw (w.n-is, w.last-is) (search lines) ]

pub returns : goal.returns
returns c = search lines

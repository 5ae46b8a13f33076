-- What is left to show of `column_of`. Assumes nothing.
use Rattle.lines.proofs.Counting.{columns}
use Rattle.lines.proofs.column_of.Goals as goal

pub overflow_add-result : goal.overflow_add-result
overflow_add-result c = search columns

pub returns : goal.returns
returns c = search columns

-- `utf8::wrong_windows` meets its contract. The invariant: what is left is the text's end, and if no byte so far is out of place, the
-- windows passed are in order. Assumes nothing.
use Rattle.utf8.proofs.Windows.{Ahead}
use Rattle.utf8.proofs.wrong_windows.Given as goal

abbrev pub invariant-loop-x : goal.invariant-loop-x
invariant-loop-x l = Ahead l.s l.x-iterator l.bad

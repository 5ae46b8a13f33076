-- `search::spans::past_run` meets its contract. The invariant: the run from i on ends where that from `at` on does. Assumes nothing.
use mathlib.Core.Path.{◌≡◌}
use Prim.Native.Nat.{◌+◌}
use lib.ListN.{drop}
use Rattle.spec.specs.Reading.Readers.{run}
use Rattle.search.proofs.spans.past_run.Given as goal

abbrev pub invariant-loop-i : goal.invariant-loop-i
invariant-loop-i g l = l.i + run (g.C.Class.class l.of) (drop l.i l.s) ≡ l.at + run (g.C.Class.class l.of) (drop l.at l.s)

-- `names::ends::decoded_len` meets its contract. The invariant: the name characters from i on end where all do. Assumes nothing.
use mathlib.Core.Path.{◌≡◌}
use Prim.Native.Nat.{◌+◌, ◌-◌}
use lib.ListN.{length, drop}
use Rattle.spec.specs.Reading.Readers.{taken}
use Rattle.spec.specs.Reading.Wellformed.{parts}
use Rattle.classes.specs.Classes.{dialect}
use Rattle.names.proofs.ends.decoded_len.Given as goal

abbrev pub invariant-loop-b : goal.invariant-loop-b
invariant-loop-b l = l.i + taken (parts (dialect l.names) (drop l.i l.s)) ≡ taken (parts (dialect l.names) l.s)

abbrev pub decreases-loop-b : goal.decreases-loop-b
decreases-loop-b l = length l.s - l.i

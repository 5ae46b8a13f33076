-- `markup::bodies::has_pe_reference` meets its contract. The invariant: the bytes before i do not decide. Assumes nothing.
use mathlib.Core.Path.{◌≡◌}
use Prim.Native.Nat.{◌-◌}
use lib.ListN.{length, drop}
use Rattle.spec.specs.Reading.Dtd.{has_pe_reference}
use Rattle.classes.specs.Classes.{dialect}
use Rattle.markup.proofs.bodies.has_pe_reference.Given as goal

abbrev pub invariant-loop-j : goal.invariant-loop-j
invariant-loop-j l = has_pe_reference (dialect l.names) (drop l.i l.t) ≡ has_pe_reference (dialect l.names) l.t

abbrev pub decreases-loop-j : goal.decreases-loop-j
decreases-loop-j l = length l.t - l.i

-- `utf8::text_end` meets its contract. The invariant: from end on it stops where the whole does. Assumes nothing.
use mathlib.Core.Path.{◌≡◌}
use Prim.Native.Nat.{◌+◌, ◌-◌}
use lib.ListN.{length, drop}
use Rattle.spec.specs.Reading.Readers.{stop_of}
use Rattle.spec.specs.Reading.Source.{utf8}
use Rattle.utf8.proofs.text_end.Given as goal

abbrev pub invariant-loop-p : goal.invariant-loop-p
invariant-loop-p l = l.end + stop_of (utf8 (drop l.end l.s)) ≡ stop_of (utf8 l.s)

abbrev pub decreases-loop-p : goal.decreases-loop-p
decreases-loop-p l = length l.s - l.end

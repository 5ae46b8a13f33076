-- `utf8::is_valid` meets its contract. The invariant: the parts passed do not decide. Assumes nothing.
use mathlib.Core.Path.{◌≡◌}
use Prim.Native.Nat.{◌≤◌}
use lib.ListN.{length}
use Rattle.spec.specs.Reading.Source.{utf8}
use Rattle.utf8.specs.Seen.{accepts}
use Rattle.utf8.proofs.is_valid.Given as goal

abbrev pub invariant-loop-size : goal.invariant-loop-size
invariant-loop-size l = (6 ≤ l.size) × (accepts (utf8 l.rest) ≡ accepts (utf8 l.s))

abbrev pub decreases-loop-size : goal.decreases-loop-size
decreases-loop-size l = length l.rest

-- `chars::rules::walk` meets its contract. The invariant: the answer from i on is the whole answer.
-- Assumes nothing.
use mathlib.Core.Path.{◌≡◌}
use Prim.Native.Nat.{◌-◌}
use lib.ListN.{length}
use Rattle.spec.specs.Reading.Readers.{throughout}
use Rattle.error.specs.Read.{read}
use Rattle.chars.proofs.rules.walk.Given as goal

abbrev pub invariant-loop-i : goal.invariant-loop-i
invariant-loop-i g l = let R = g.R.Rule.reader in read (throughout R) l.text l.i ≡ read (throughout R) l.text l.at

abbrev pub decreases-loop-i : goal.decreases-loop-i
decreases-loop-i g l = length l.text - l.i

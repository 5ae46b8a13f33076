-- `chars::chars::any_suspect` meets its contract. The invariant: the bytes before the first suspect one end where they do from i on, if none was found.
-- Assumes nothing.
use mathlib.Core.Path.{◌≡◌}
use mathlib.Core.Bool.{false}
use Prim.Native.Nat.{◌+◌}
use lib.ListN.{drop}
use Rattle.chars.specs.Bytes.{suspect}
use Rattle.search.specs.Runs.{away}
use Rattle.chars.proofs.chars.any_suspect.Given as goal

abbrev pub invariant-loop-b : goal.invariant-loop-b
invariant-loop-b l = l.found ≡ false → l.b-index + away suspect (drop l.b-index l.text) ≡ 0 + away suspect (drop 0 l.text)

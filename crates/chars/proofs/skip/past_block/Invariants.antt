-- `chars::skip::past_block` meets its contract. The invariant: the bytes before the first special one end where they do from i on, if none was found.
-- Assumes nothing.
use mathlib.Core.Path.{◌≡◌}
use mathlib.Core.Bool.{false}
use Prim.Native.Nat.{◌+◌}
use lib.ListN.{drop}
use Rattle.chars.specs.Bytes.{special}
use Rattle.search.specs.Runs.{away}
use Rattle.chars.proofs.skip.past_block.Given as goal

abbrev pub invariant-loop-i : goal.invariant-loop-i
invariant-loop-i l = l.found ≡ false → l.i + away (special l.mark) (drop l.i l.s) ≡ l.at + away (special l.mark) (drop l.at l.s)

-- `lines::line_of` meets its contract. The invariant: n and the line ends from the byte at b-index on, after the byte `last`, make the
-- line of the place. Assumes nothing.
use mathlib.Core.Path.{◌≡◌}
use Prim.Native.Nat.{◌+◌}
use lib.ListN.{drop}
use Rattle.lines.specs.Lines.{line_ends, line}
use Rattle.lines.proofs.line_of.Given as goal

abbrev pub invariant-loop-b : goal.invariant-loop-b
invariant-loop-b l = l.n + line_ends l.last (drop l.b-index l.b-items) ≡ line l.text l.at

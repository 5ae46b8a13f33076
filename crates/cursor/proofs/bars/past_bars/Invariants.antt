-- `cursor::bars::past_bars` meets its contract. The invariant: the answer from i on is the whole answer. With nothing after the loop it is
-- one of the loops that error's laws are about. Assumes nothing.
use mathlib.Core.Path.{◌≡◌}
use Prim.Native.Nat.{◌-◌}
use lib.ListN.{length}
use Rattle.spec.specs.Grammar.Languages.{ascii}
use Rattle.spec.specs.Reading.Readers.{◌>>◌, nothing, starts, while}
use Rattle.spec.specs.Reading.Dtd.{after}
use Rattle.error.specs.Read.{read}
use Rattle.cursor.proofs.bars.past_bars.Given as goal

abbrev pub invariant-loop-from : goal.invariant-loop-from
invariant-loop-from g l =
    read (while (starts (ascii "|")) (after "|" (g.I.Reads.reader l.item)) >> nothing) l.s l.i ≡ read (while (starts (ascii "|")) (after "|" (g.I.Reads.reader l.item))) l.s l.at

abbrev pub decreases-loop-from : goal.decreases-loop-from
decreases-loop-from g l = length l.s - l.i

-- `document::misc::read_misc` meets its contract. The invariant: the answer from i on is the whole answer. Assumes nothing.
use mathlib.Core.Path.{◌≡◌}
use Prim.Native.Nat.{◌-◌}
use lib.ListN.{length}
use Rattle.spec.specs.Reading.Document.{item_here, read_item, read_misc}
use Rattle.spec.specs.Reading.Dtd.{skip_s}
use Rattle.spec.specs.Reading.Readers.{◌>>◌, nothing, while}
use Rattle.error.specs.Read.{read}
use Rattle.classes.specs.Classes.{dialect}
use Rattle.document.proofs.misc.read_misc.Given as goal

abbrev pub invariant-loop-names : goal.invariant-loop-names
invariant-loop-names l = read (while item_here (read_item (dialect l.names) >> skip_s) >> nothing) l.s l.i ≡ read (read_misc (dialect l.names)) l.s l.at

abbrev pub decreases-loop-names : goal.decreases-loop-names
decreases-loop-names l = length l.s - l.i

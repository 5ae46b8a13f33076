-- `decls::attlists::parse_att_defs` meets its contract. The invariant: the answer from i on is the whole answer.
-- Assumes nothing.
use mathlib.Core.Path.{◌≡◌}
use Prim.Native.Nat.{◌-◌}
use lib.ListN.{length}
use Rattle.error.specs.Read.{read}
use Rattle.classes.specs.Classes.{dialect}
use Rattle.decls.specs.Pieces.{att_defs}
use Rattle.decls.proofs.attlists.parse_att_defs.Given as goal

abbrev pub invariant-loop-names : goal.invariant-loop-names
invariant-loop-names l = read (att_defs (dialect l.names)) l.s l.i ≡ read (att_defs (dialect l.names)) l.s l.at

abbrev pub decreases-loop-names : goal.decreases-loop-names
decreases-loop-names l = length l.s - l.i

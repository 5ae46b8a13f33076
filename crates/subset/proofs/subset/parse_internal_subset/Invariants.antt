-- `subset::subset::parse_internal_subset` meets its contract. The invariant: the answer for the items from i on is the whole answer.
-- Assumes nothing.
use mathlib.Core.Path.{◌≡◌}
use Prim.Native.Nat.{◌-◌}
use lib.ListN.{length}
use Rattle.spec.specs.Reading.Refusals.{too_deep}
use Rattle.spec.specs.Reading.Dtd.{parse_internal_subset}
use Rattle.spec.proofs.Dtd.Items.{items}
use Rattle.error.specs.Read.{read}
use Rattle.classes.specs.Classes.{dialect}
use Rattle.subset.proofs.subset.parse_internal_subset.Given as goal

abbrev pub invariant-loop-i : goal.invariant-loop-i
invariant-loop-i l = read (items (dialect l.names) l.pe_used) l.s l.i ≡ read (parse_internal_subset (dialect l.names) too_deep) l.s l.at

abbrev pub decreases-loop-i : goal.decreases-loop-i
decreases-loop-i l = length l.s - l.i

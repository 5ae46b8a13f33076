-- `entries::walk::next_unread` meets its contract. The invariant: what goes unread from i on is what does from `at` on.
-- Assumes nothing.
use mathlib.Core.Path.{◌≡◌}
use Prim.Native.Nat.{◌-◌, ◌≤◌}
use lib.ListN.{length}
use Rattle.classes.specs.Classes.{dialect}
use Rattle.entries.specs.Walk.{first_from, unread_from}
use Rattle.entries.proofs.walk.next_unread.Given as goal

abbrev pub invariant-loop-j : goal.invariant-loop-j
invariant-loop-j l = (first_from (dialect l.names) l.s l.pe l.i ≡ first_from (dialect l.names) l.s l.pe_used l.at) × (unread_from (dialect l.names) l.s l.pe l.i ≡ unread_from (dialect l.names) l.s l.pe_used l.at) × (l.at ≤ l.i)

abbrev pub decreases-loop-j : goal.decreases-loop-j
decreases-loop-j l = length l.s - l.i

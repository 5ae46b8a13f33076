-- `search::quotes::outside_quotes` meets its contract. The invariant: what is found from i on is what is found. Assumes nothing.
use mathlib.Core.Path.{◌≡◌}
use Prim.Native.Nat.{◌-◌}
use lib.ListN.{length}
use Rattle.spec.specs.Reading.Places.{outside}
use Rattle.search.specs.Places.{either, place_from}
use Rattle.search.proofs.quotes.outside_quotes.Given as goal

abbrev pub invariant-loop-i : goal.invariant-loop-i
invariant-loop-i l = place_from (outside (either l.sign l.other) 0) l.s l.i ≡ place_from (outside (either l.sign l.other) 0) l.s l.at

abbrev pub decreases-loop-i : goal.decreases-loop-i
decreases-loop-i l = length l.s - l.i

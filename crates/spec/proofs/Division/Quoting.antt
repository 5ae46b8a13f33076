-- A wider test than `bare`, which passes the scan as well: quote marks in pairs, and ']' and "<!--" only within them. Assumes nothing.
use mathlib.Core.Bool.{Bool, true, false, ◌&&◌}
use mathlib.Core.List.{List, [], ◌∷◌}
use Prim.Native.Nat.{ℕ, zero, suc}
use lib.Dec.{eqb}
use Rattle.spec.specs.Basics.{pick}
use Rattle.spec.specs.Grammar.Languages.{one_of}
use Rattle.spec.specs.Premise.{quiet}

-- each quote that opens is closed by the next mark of its kind; the state is the open quote, or 0
unfoldable pub paired : ℕ → List ℕ → Bool
paired zero [] = true
paired (suc quote) [] = false
paired zero (b ∷ w) = paired (pick (one_of "\"'" b) b 0) w
paired (suc quote) (b ∷ w) = paired (pick (eqb b (suc quote)) 0 (suc quote)) w

abbrev pub quoting : List ℕ → Bool
quoting w = paired 0 w && quiet 0 w

-- `search::keywords::at_keyword` meets its contract. The invariant: what is left of the word stands at j of the rest exactly where the
-- whole stands at `at`. Assumes nothing.
use mathlib.Core.Path.{◌≡◌}
use lib.ListN.{drop}
use Rattle.spec.specs.Reading.Readers.{starts}
use Rattle.search.proofs.keywords.at_keyword.Given as goal

abbrev pub invariant-loop-j : goal.invariant-loop-j
invariant-loop-j l = starts (drop l.j l.kw) (drop l.j l.rest) ≡ starts l.kw (drop l.at l.s)

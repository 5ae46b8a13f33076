-- `checks::values::all_digits` meets its contract. The invariant: the digits before the next place are all digits, and so are those from there on,
-- exactly where all are. Assumes nothing.
use mathlib.Core.Path.{◌≡◌}
use mathlib.Core.Bool.{◌&&◌}
use lib.ListN.{drop}
use Rattle.std.specs.List.{list_all}
use Rattle.spec.specs.Grammar.References.{digit}
use Rattle.checks.proofs.values.all_digits.Given as goal

abbrev pub invariant-loop-b : goal.invariant-loop-b
invariant-loop-b l = (l.all && list_all digit (drop l.b-index l.v)) ≡ list_all digit l.v

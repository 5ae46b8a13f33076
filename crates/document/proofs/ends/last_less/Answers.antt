-- What is left to show of `last_less`. Assumes nothing.
use mathlib.Core.Path.{refl, ◌∙◌}
use native.Mathlib.Omega.{arith}
use Rattle.std.proofs.Common.{rules, tests}
use Rattle.document.proofs.Backwards.{less_found}
use Rattle.document.proofs.ends.last_less.Goals as goal

pub returns : goal.returns
returns c = c.unwrap_or.ensures ∙ less_found c.iter.result c.rposition.new.self _ c.args.x.now c.args.k c.min.result _ c.rposition.result (omega arith) (omega arith) (λ h. omega arith) refl c.iter.ensures.rest c.rposition.ensures.ran (λ x b q k. search (rules, tests))

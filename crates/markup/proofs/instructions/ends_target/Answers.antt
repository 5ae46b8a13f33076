-- What is left to show of `ends_target`. Assumes nothing.
use borrow.Author.Rules.{rules}
use Rattle.markup.proofs.Targets.{ends_get}
use Rattle.markup.proofs.instructions.ends_target.Goals as goal

pub returns : goal.returns
returns c = ends_get c.args.t.now c.args.at c.get.result _ _ c.get.ensures.lookup c.is_none_or.ensures (λ x p. search rules)

-- What is left to show of `is_declaration`. Assumes nothing.
use borrow.Author.Rules.{rules}
use Rattle.checks.proofs.Chaining.{declared_is}
use Rattle.checks.proofs.encoding.is_declaration.Goals as goal

pub returns-then-at_keyword : goal.returns-then-at_keyword
returns-then-at_keyword c =
    declared_is c.args.s.now c.args.at _ c.at_keyword.ensures c.code_point.result _ c.is_some_and.result c.if-at_keyword.true c.code_point.ensures
    c.is_some_and.ensures (λ p q. search rules)

-- What is left to show of `declaration_admitted`. Assumes nothing.
use borrow.Author.Rules.{rules}
use Rattle.spec.specs.Reading.Checks.{check_declaration}
use Rattle.source.proofs.Admitting.{place_left, place_passed}
use Rattle.checks.proofs.declaration.declaration_admitted.Goals as goal

pub returns-in_err-declaration_at : goal.returns-in_err-declaration_at
returns-in_err-declaration_at c = search (place_left check_declaration, rules)

pub returns : goal.returns
returns c = search (place_passed check_declaration, rules)

-- What is left to show of `is_ascii_name`. Assumes nothing.
use Rattle.std.proofs.Common.{rules, tests, sym, ◌∙◌}
use Rattle.std.proofs.lemmas.Iterator.{YieldsList-from_slice}
use Rattle.std.proofs.lemmas.Iterator.Consumers.{fold_from_yields_List}
use Rattle.names.proofs.PlaceLaws.{all_parts, any_name}
use Rattle.names.proofs.checks.is_ascii_name.Goals as goal

pub returns-in-Some : goal.returns-in-Some
returns-in-Some c =
    let all = fold_from_yields_List _ all_parts _ c.fold.result c.fold.ensures.ran (YieldsList-from_slice c.in-Some.rest.now cc) (λ a x b q k. search (rules, tests)) in
    λ y. rw c.in-Some.ensures.cases.0 (any_name _ _ _ c.ascii_name_start.ensures (search rules) (sym all ∙ y))

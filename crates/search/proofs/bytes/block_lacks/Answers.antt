-- What is left to show of `block_lacks`. Assumes nothing.
use mathlib.Core.Path.{◌≡◌, refl, ap, ◌∙◌}
use mathlib.Core.Bool.{Bool, false, ◌||◌}
use Prim.Native.Nat.{ℕ, ◌+◌, ◌-◌}
use native.Mathlib.Omega.{arith}
use borrow.Author.Rules.{rules}
use lib.Dec.{eqb}
use Rattle.std.specs.List.{fold}
use Rattle.std.proofs.lemmas.Fn.{fold_over, slice_gives, fronts}
use Rattle.std.proofs.lemmas.List.Sums.{fold_push}
use Rattle.search.proofs.Stopping.{block_lacking}
use Rattle.search.proofs.bytes.block_lacks.Goals as goal

pub returns : goal.returns
returns c =
    let seen = λ (found : Bool) (x : ℕ). found || eqb x c.args.b in
    let size : c.args.at + 16 - c.args.at ≡ 16 = omega arith in
    block_lacking c.args.b c.args.s.now c.args.at (c.args.at + 16 - c.args.at) 16 c.fold.result size (omega arith)
    (fold_over fronts (λ y. y.now) _ (λ ys a. a ≡ fold seen false ys) _ (λ ys a x b f' j k. let more = fold_push seen false ys x.now in search rules)
    _ _ _ _ (slice_gives c.iter.result) refl c.fold.ensures.ran ∙ ap (fold seen false) c.iter.ensures.rest)

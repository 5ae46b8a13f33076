-- What is left to show of `at_sign`. Assumes nothing.
use mathlib.Core.Path.{refl, ◌∙◌}
use Rattle.models.proofs.Signs.{sign_get}
use Rattle.models.proofs.at_sign.Goals as goal

pub returns : goal.returns
returns c = c.eq.ensures ∙ sign_get c.args.b c.args.s.now c.args.at _ c.get.result _ c.get.ensures.lookup (λ x. refl)

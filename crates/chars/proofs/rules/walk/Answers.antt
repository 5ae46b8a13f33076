-- What is left to show of `walk`. Assumes nothing.
use native.Mathlib.Omega.{arith}
use Rattle.chars.proofs.Steps.{steps}
use Rattle.chars.proofs.rules.walk.Goals as goal

pub returns-in_err-i : goal.returns-in_err-i
returns-in_err-i g c = grind (arith, steps, g.met.R.Rule.steady)

pub loop-i-smaller : goal.loop-i-smaller
loop-i-smaller g c = search (steps, g.met.R.Rule.steady)

pub loop-i-preserved-then-calm-lt-CALM : goal.loop-i-preserved-then-calm-lt-CALM
loop-i-preserved-then-calm-lt-CALM g c = search (steps, g.met.R.Rule.steady)

pub loop-i-preserved-else-calm-lt-CALM : goal.loop-i-preserved-else-calm-lt-CALM
loop-i-preserved-else-calm-lt-CALM g c = search (steps, g.met.R.Rule.steady)

pub loop-i-preserved : goal.loop-i-preserved
loop-i-preserved g c = search (steps, g.met.R.Rule.steady)

pub returns : goal.returns
returns g c = search (steps, g.met.R.Rule.steady)

-- What is left to show of `digit_value`. Assumes nothing.
use native.Mathlib.Omega.{arith}
use Rattle.chars.proofs.DigitRuns.{by_bits}
use Rattle.chars.proofs.digits.digit_value.Goals as goal

pub returns : goal.returns
returns c = λ h. omega (arith, c.from-b.ensures, by_bits c.args.b h)

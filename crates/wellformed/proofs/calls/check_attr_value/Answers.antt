-- What is left to show of `check_attr_value`. Assumes nothing.
use Rattle.spec.specs.Reading.Wellformed.{check_attr_value}
use Rattle.wellformed.proofs.Agreed.{agreed}
use Rattle.wellformed.proofs.calls.check_attr_value.Goals as goal

pub returns-in_err-admit : goal.returns-in_err-admit
returns-in_err-admit c = search agreed

pub returns : goal.returns
unfolding check_attr_value
returns c = search agreed

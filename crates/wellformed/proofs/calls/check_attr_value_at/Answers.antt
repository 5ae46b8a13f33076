-- What is left to show of `check_attr_value_at`. Assumes nothing.
use Rattle.spec.specs.Reading.Wellformed.{check_attr_value}
use Rattle.wellformed.proofs.Agreed.{located}
use Rattle.wellformed.proofs.calls.check_attr_value_at.Goals as goal

pub returns-in_err-admit_at : goal.returns-in_err-admit_at
returns-in_err-admit_at c = search located

pub returns : goal.returns
unfolding check_attr_value
returns c = search located

-- What is left to show of `check_text`. Assumes nothing.
use Rattle.spec.specs.Reading.Wellformed.{check_text}
use Rattle.wellformed.proofs.Agreed.{agreed}
use Rattle.wellformed.proofs.calls.check_text.Goals as goal

pub returns-in_err-admit : goal.returns-in_err-admit
returns-in_err-admit c = search agreed

pub returns : goal.returns
unfolding check_text
returns c = search agreed

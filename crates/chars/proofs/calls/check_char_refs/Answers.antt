-- What is left to show of `check_char_refs`. Assumes nothing.
use Rattle.spec.specs.Reading.Wellformed.{check_char_refs}
use Rattle.chars.proofs.Agreed.{agreed}
use Rattle.chars.proofs.calls.check_char_refs.Goals as goal

pub returns-in_err-admit : goal.returns-in_err-admit
returns-in_err-admit c = search agreed

pub returns : goal.returns
unfolding check_char_refs
returns c = search agreed

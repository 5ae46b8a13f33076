-- What is left to show of `check_chars_at`. Assumes nothing.
use Rattle.spec.specs.Reading.Wellformed.{check_chars}
use Rattle.chars.proofs.Agreed.{located}
use Rattle.chars.proofs.calls.check_chars_at.Goals as goal

pub returns-in_err-admit_at : goal.returns-in_err-admit_at
returns-in_err-admit_at c = search located

pub returns : goal.returns
unfolding check_chars
returns c = search located

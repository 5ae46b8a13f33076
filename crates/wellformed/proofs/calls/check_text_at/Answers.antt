-- What is left to show of `check_text_at`. Assumes nothing.
use Rattle.spec.specs.Reading.Wellformed.{check_text}
use Rattle.wellformed.proofs.Agreed.{located}
use Rattle.wellformed.proofs.calls.check_text_at.Goals as goal

pub returns-in_err-admit_at : goal.returns-in_err-admit_at
returns-in_err-admit_at c = search located

pub returns : goal.returns
unfolding check_text
returns c = search located

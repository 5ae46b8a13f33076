-- What is left to show of `check_char_refs_at`. Assumes nothing.
use Rattle.spec.specs.Reading.Wellformed.{check_char_refs}
use Rattle.chars.proofs.Agreed.{located}
use Rattle.chars.proofs.calls.check_char_refs_at.Goals as goal

pub returns-in_err-admit_at : goal.returns-in_err-admit_at
returns-in_err-admit_at c = search located

pub returns : goal.returns
unfolding check_char_refs
returns c = search located

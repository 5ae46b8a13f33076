-- What is left to show of `chars_end`. Assumes nothing.
use Rattle.spec.specs.Reading.Wellformed.{check_chars}
use Rattle.chars.proofs.Checks.{ended}
use Rattle.chars.proofs.chars.chars_end.Goals as goal

pub returns-in-Ok : goal.returns-in-Ok
unfolding check_chars
returns-in-Ok c = search ended

pub returns-in-Err : goal.returns-in-Err
unfolding check_chars
returns-in-Err c = search ended

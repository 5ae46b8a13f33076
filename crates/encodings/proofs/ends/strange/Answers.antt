-- What is left to show of `strange`. Assumes nothing.
use Rattle.encodings.proofs.Ending.{strange}
use Rattle.encodings.proofs.ends.strange.Goals as goal

pub returns-in-Utf8 : goal.returns-in-Utf8
returns-in-Utf8 c = search (strange, c.in-Some.is)

pub returns-then-p-lt128 : goal.returns-then-p-lt128
returns-then-p-lt128 c = search (strange, c.in-Some.is)

pub returns-else-p-lt128 : goal.returns-else-p-lt128
returns-else-p-lt128 c = search (strange, c.in-Some.is)

pub returns-in-Foreign : goal.returns-in-Foreign
returns-in-Foreign c = search (strange, c.in-Some.is)

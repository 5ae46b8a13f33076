-- What is left to show of `moxkeldi_scan`. Assumes nothing.
use Rattle.moxkeldi.proofs.Bounding.{bounding}
use Rattle.moxkeldi.proofs.answers.moxkeldi_scan.Goals as goal

pub returns-in-Ok-NotOpened : goal.returns-in-Ok-NotOpened
returns-in-Ok-NotOpened c = search bounding

pub returns-in-Ok-NotClosed : goal.returns-in-Ok-NotClosed
returns-in-Ok-NotClosed c = search bounding

pub returns-in-Ok-Closed : goal.returns-in-Ok-Closed
returns-in-Ok-Closed c = search bounding

pub returns-in-Err : goal.returns-in-Err
returns-in-Err c = search bounding

-- What is left to show of `unfit_few`. Assumes nothing.
use Rattle.utf8.proofs.Windows.{few_one, few_two}
use Rattle.utf8.proofs.unfit_few.Goals as goal

pub returns-then-s-lt-STEP : goal.returns-then-s-lt-STEP
returns-then-s-lt-STEP c = few_one _ _ c.padded-t.ensures _ c.if-s-lt-STEP.true c.wrong_windows.ensures

pub returns : goal.returns
returns c = few_two _ _ c.padded-t-2.ensures _ _ c.requires c.wrong_windows-2.ensures c.wrong_windows-3.ensures

-- What is left to show of `check_pi`. Assumes nothing.
use Rattle.markup.proofs.Targets.{targets}
use Rattle.markup.proofs.instructions.check_pi.Goals as goal

pub overflow_add-at : goal.overflow_add-at
overflow_add-at c = search targets

-- What is left to show of `is_reserved`. Assumes nothing.
use Rattle.markup.proofs.Targets.{reserved_is}
use Rattle.markup.proofs.instructions.is_reserved.Goals as goal

pub returns : goal.returns
returns c = reserved_is c.args.t.now _ c.eq_ignore_ascii_case.ensures.test

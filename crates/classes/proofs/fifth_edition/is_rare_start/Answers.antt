-- What is left to show of `is_rare_start`. Assumes nothing.
use Rattle.std.proofs.Common.{refl, arith}
use Rattle.spec.specs.Grammar.Ranges.{ascending}
use Rattle.classes.proofs.FifthEditionLaws.{starts_beyond}
use Rattle.classes.proofs.fifth_edition.is_rare_start.Goals as goal

pub returns-in_default : goal.returns-in_default
returns-in_default c = starts_beyond c.args.c (omega (arith, c.in_default.ensures))

pub in_ranges-requires : goal.in_ranges-requires
unfolding ascending
in_ranges-requires c = refl

pub returns : goal.returns
returns c = rw (← c.in-Ok.ensures.1) c.in_ranges.ensures

-- What is left to show of `is_rare_char`. Assumes nothing.
use Rattle.std.proofs.Common.{refl, arith}
use Rattle.spec.specs.Grammar.Ranges.{ascending}
use Rattle.classes.proofs.FifthEditionLaws.{chars_beyond}
use Rattle.classes.proofs.RangeLaws.{or_first, or_second}
use Rattle.classes.proofs.fifth_edition.is_rare_char.Goals as goal

pub returns-in_default : goal.returns-in_default
returns-in_default c = chars_beyond c.args.c (omega (arith, c.in_default.ensures))

pub in_ranges-requires : goal.in_ranges-requires
unfolding ascending
in_ranges-requires c = refl

pub in_ranges-requires-else-in_ranges : goal.in_ranges-requires-else-in_ranges
unfolding ascending
in_ranges-requires-else-in_ranges c = refl

pub returns-then-in_ranges : goal.returns-then-in_ranges
returns-then-in_ranges c = rw (← c.in-Ok.ensures.1) (or_first _ c.in_ranges.ensures c.if-in_ranges.true)

pub returns-else-in_ranges : goal.returns-else-in_ranges
returns-else-in_ranges c = rw (← c.in-Ok.ensures.1) (or_second c.in_ranges.ensures c.if-in_ranges.false c.in_ranges-else-in_ranges.ensures)

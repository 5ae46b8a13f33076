-- What is left to show of `is_rare_letter`. Assumes nothing.
use Rattle.std.proofs.Common.{refl, arith}
use Rattle.spec.specs.Grammar.Ranges.{ascending}
use Rattle.classes.specs.Classes.{letter}
use Rattle.classes.proofs.AppendixBLaws.{letter_beyond}
use Rattle.classes.proofs.RangeLaws.{or_first, or_second}
use Rattle.classes.proofs.appendix_b.is_rare_letter.Goals as goal

pub returns-in_default : goal.returns-in_default
returns-in_default c = letter_beyond c.args.c (omega (arith, c.in_default.ensures))

pub in_ranges-requires : goal.in_ranges-requires
unfolding ascending
in_ranges-requires c = refl

pub in_ranges-requires-else-in_ranges : goal.in_ranges-requires-else-in_ranges
unfolding ascending
in_ranges-requires-else-in_ranges c = refl

pub returns-then-in_ranges : goal.returns-then-in_ranges
unfolding letter
returns-then-in_ranges c = rw (← c.in-Ok.ensures.1) (or_first _ c.in_ranges.ensures c.if-in_ranges.true)

pub returns-else-in_ranges : goal.returns-else-in_ranges
unfolding letter
returns-else-in_ranges c = rw (← c.in-Ok.ensures.1) (or_second c.in_ranges.ensures c.if-in_ranges.false c.in_ranges-else-in_ranges.ensures)

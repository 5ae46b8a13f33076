-- What is left to show of `is_mark`. Assumes nothing.
use Rattle.std.proofs.Common.{◌≡◌, ◌||◌, refl, arith}
use Rattle.spec.specs.Grammar.Ranges.{ascending, in_table}
use Rattle.spec.specs.Grammar.AppendixB.{digits, combining}
use Rattle.classes.proofs.AppendixBLaws.{marks_beyond}
use Rattle.classes.proofs.RangeLaws.{or_first, or_second}
use Rattle.classes.proofs.appendix_b.is_mark.Goals as goal
use Rattle.classes.proofs.appendix_b.is_mark.Goals.{then-in_ranges, else-in_ranges}

pub returns-in_default : goal.returns-in_default
returns-in_default c = marks_beyond c.args.c (omega (arith, c.in_default.ensures))

pub in_ranges-requires : goal.in_ranges-requires
unfolding ascending
in_ranges-requires c = refl

pub in_ranges-requires-else-in_ranges : goal.in_ranges-requires-else-in_ranges
unfolding ascending
in_ranges-requires-else-in_ranges c = refl

pub in_ranges-requires-else-in_ranges-2 : goal.in_ranges-requires-else-in_ranges-2
unfolding ascending
in_ranges-requires-else-in_ranges-2 c = refl

pub returns-then-in_ranges-2 : goal.returns-then-in_ranges-2
returns-then-in_ranges-2 c =
    let two : c.if-in_ranges.value ≡ (in_table digits c.in-Ok.d || in_table combining c.in-Ok.d) =
    elim c.if-in_ranges.branch [
      | then-in_ranges w ↦ rw w.value-is (or_first _ c.in_ranges.ensures w.if-in_ranges.true)
      | else-in_ranges w ↦ rw w.value-is (or_second c.in_ranges.ensures w.if-in_ranges.false w.in_ranges-else-in_ranges.ensures)
    ] in
    rw (← c.in-Ok.ensures.1) (or_first _ two c.if-in_ranges-2.true)

pub returns-else-in_ranges-2 : goal.returns-else-in_ranges-2
returns-else-in_ranges-2 c =
    let two : c.if-in_ranges.value ≡ (in_table digits c.in-Ok.d || in_table combining c.in-Ok.d) =
    elim c.if-in_ranges.branch [
      | then-in_ranges w ↦ rw w.value-is (or_first _ c.in_ranges.ensures w.if-in_ranges.true)
      | else-in_ranges w ↦ rw w.value-is (or_second c.in_ranges.ensures w.if-in_ranges.false w.in_ranges-else-in_ranges.ensures)
    ] in
    rw (← c.in-Ok.ensures.1) (or_second two c.if-in_ranges-2.false c.in_ranges-else-in_ranges-2.ensures)

-- What is left to show of `judge`. Assumes nothing.
use Rattle.document.proofs.Judging.{mapped_ok, judge_accepted}
use Rattle.document.proofs.verdict.judge.Goals as goal

pub returns : goal.returns
returns c =
    judge_accepted _ _ _ c.read_prolog.ensures _ (mapped_ok _ _ _ _ c.map_err.ensures.cases c.in_ok-opening.was) _ c.read_tag.ensures _
    (mapped_ok _ _ _ _ c.map_err-2.ensures.cases c.in_ok-map_err.was)

-- What is left to show of the cycle of content particles and groups. Assumes nothing.
use Rattle.error.proofs.Passing.{handed_up}
use Rattle.models.proofs.Groups.{grouping, group_loop}
use Rattle.models.proofs.+groups.Goals as goal

pub group_end-loop-names-init : goal.group_end-loop-names-init
group_end-loop-names-init t c = search group_loop

pub group_end-overflow_add-j : goal.group_end-overflow_add-j
group_end-overflow_add-j t c = search group_loop

pub group_end-returns-in_err-e : goal.group_end-returns-in_err-e
group_end-returns-in_err-e t c = handed_up _ _ _ _ _ c.in_err-e.is c.branch-e.ensures c.from_residual.ensures.1 (search (group_loop, c.in_err-e.was))

pub group_end-loop-names-smaller : goal.group_end-loop-names-smaller
group_end-loop-names-smaller t c = search group_loop

pub group_end-loop-names-preserved : goal.group_end-loop-names-preserved
group_end-loop-names-preserved t c = search group_loop

pub group_end-returns-else-at_sign : goal.group_end-returns-else-at_sign
group_end-returns-else-at_sign t c = search group_loop

pub group_end-overflow_add-result : goal.group_end-overflow_add-result
group_end-overflow_add-result t c = search group_loop

pub group_end-returns-then-at_sign-2 : goal.group_end-returns-then-at_sign-2
group_end-returns-then-at_sign-2 t c = search group_loop

pub group_end-returns : goal.group_end-returns
group_end-returns t c = search group_loop

pub parse_cp-returns-in_err-e : goal.parse_cp-returns-in_err-e
parse_cp-returns-in_err-e t c = handed_up _ _ _ _ _ c.in_err-e.is c.branch-e.ensures c.from_residual.ensures.1 (search (grouping, c.in_err-e.was))

pub parse_cp-returns-then-at_sign : goal.parse_cp-returns-then-at_sign
parse_cp-returns-then-at_sign t c = search (grouping, c.in_ok-e.was)

pub parse_cp-returns-in_err-e-2 : goal.parse_cp-returns-in_err-e-2
parse_cp-returns-in_err-e-2 t c = handed_up _ _ _ _ _ c.in_err-e-2.is c.branch-e-2.ensures c.from_residual-in_err-e-2.ensures.1 (search (grouping, c.in_err-e-2.was))

pub parse_cp-returns : goal.parse_cp-returns
parse_cp-returns t c = search (grouping, c.in_ok-e-2.was)

pub parse_group-returns-then-height-eq0 : goal.parse_group-returns-then-height-eq0
parse_group-returns-then-height-eq0 t c = search grouping

pub parse_group-returns-then-not-at_sign : goal.parse_group-returns-then-not-at_sign
parse_group-returns-then-not-at_sign t c = search grouping

pub parse_group-overflow_add-at : goal.parse_group-overflow_add-at
parse_group-overflow_add-at t c = search grouping

pub parse_group-returns-in_err-e : goal.parse_group-returns-in_err-e
parse_group-returns-in_err-e t c = handed_up _ _ _ _ _ c.in_err-e.is c.branch-e.ensures c.from_residual.ensures.1 (search (grouping, c.in_err-e.was))

pub parse_group-returns : goal.parse_group-returns
parse_group-returns t c = search (grouping, c.in_ok-e.was)

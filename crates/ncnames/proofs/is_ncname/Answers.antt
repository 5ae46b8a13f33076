-- What is left to show of `is_ncname`. Assumes nothing.
use Rattle.std.proofs.Common.{refl}
use Rattle.std.proofs.lemmas.Result.{err_from_is_err_and}
use Rattle.ncnames.proofs.Deciding.{ncname_refused, ncname_told}
use Rattle.ncnames.proofs.is_ncname.Goals as goal

pub returns-in_err-admit : goal.returns-in_err-admit
returns-in_err-admit c = let p = err_from_is_err_and c.from_residual.result c.from_residual.ensures.1 in rw (p.1, p.2) (ncname_refused _ _ c.admit.ensures _ c.in_err-admit.was)

pub returns-then-is_ok : goal.returns-then-is_ok
returns-then-is_ok c = rw c.if-is_ok.true at (ncname_told _ _ c.admit.ensures _ _ _ _ c.in_ok-admit.was c.name_admitted.ensures c.is_ok.ensures.value c.has_byte.ensures)

pub returns-else-is_ok : goal.returns-else-is_ok
returns-else-is_ok c = rw c.if-is_ok.false (rw c.if-is_ok.false at (ncname_told _ _ c.admit.ensures _ _ _ _ c.in_ok-admit.was c.name_admitted.ensures c.is_ok.ensures.value refl))

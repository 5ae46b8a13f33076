-- What is left to show of `parse_value`. Assumes nothing.
use Rattle.checks.proofs.Equating.{testing}
use Rattle.checks.proofs.declaration.parse_value.Goals as goal

pub slice_bounds-is_value-end : goal.slice_bounds-is_value-end
slice_bounds-is_value-end g c = search (testing, c.in_ok-start.was)

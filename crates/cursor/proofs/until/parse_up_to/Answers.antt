-- What is left to show of `parse_up_to`. Assumes nothing.
use Rattle.cursor.proofs.UpTo.{upwards}
use Rattle.cursor.proofs.until.parse_up_to.Goals as goal

pub slice_bounds-read-end : goal.slice_bounds-read-end
slice_bounds-read-end g c = search (upwards, c.in_ok-j.was)

pub returns : goal.returns
returns g c = search (upwards, c.in_ok-j.was, c.in_ok-read.was)

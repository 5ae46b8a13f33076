-- What is left to show of `parse_others`. Assumes nothing.
use Rattle.cursor.proofs.Reading.{reading}
use Rattle.decls.proofs.lists.parse_others.Goals as goal

pub returns : goal.returns
returns g c = search (reading, c.in_ok-i.was)

-- What is left to show of `parse_name`. Assumes nothing.
use Rattle.std.proofs.Common.{arith}
use Rattle.classes.specs.Classes.{dialect}
use Rattle.names.proofs.PlaceLaws.{part_at, part_past}
use Rattle.names.proofs.ends.parse_name.Goals as goal

pub returns-in-Some : goal.returns-in-Some
returns-in-Some c = part_at _ c.args.s.now c.args.at _ _ c.in-Some.ensures.lookup.0.2 c.name_len.ensures

pub returns-in-None : goal.returns-in-None
returns-in-None c = part_past (dialect c.args.names) c.args.s.now c.args.at (grind (arith, c.in-None.ensures.lookup))

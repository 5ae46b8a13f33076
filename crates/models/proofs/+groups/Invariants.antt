-- The cycle of calls of group_end, parse_cp and parse_group. The measure is the height that is left, three times: parse_cp calls
-- parse_group at this height, and one more; group_end calls parse_cp at this height, and two more; parse_group calls both at one less.
-- The loop's invariant: the answer from j on is the whole answer. Assumes nothing.
use Rattle.std.proofs.Common.{◌≡◌, ◌+◌, ◌-◌, ◌*◌, length}
use Rattle.spec.specs.Reading.Refusals.{unexpected, too_deep}
use Rattle.spec.specs.Reading.Readers.{◌>>◌, word, while}
use Rattle.spec.specs.Reading.Dtd.{connector, cp_of, parse_group}
use Rattle.error.specs.Read.{read}
use Rattle.classes.specs.Classes.{dialect}
use Rattle.models.specs.Parts.{group_end}
use Rattle.models.proofs.Groups.{turn}
use Rattle.models.proofs.+groups.Given as goal

abbrev pub decreases-group_end : goal.decreases-group_end
decreases-group_end l = 3 * l.height + 2

abbrev pub decreases-parse_cp : goal.decreases-parse_cp
decreases-parse_cp l = 3 * l.height + 1

abbrev pub decreases-parse_group : goal.decreases-parse_group
decreases-parse_group l = 3 * l.height

abbrev pub invariant-group_end-loop-names : goal.invariant-group_end-loop-names
invariant-group_end-loop-names l =
    read (while connector (turn l.sep (cp_of (dialect l.names) (parse_group (dialect l.names) too_deep l.height))) >> word ")" unexpected) l.s l.j ≡ read (group_end (cp_of (dialect l.names) (parse_group (dialect l.names) too_deep l.height))) l.s l.at

abbrev pub decreases-group_end-loop-names : goal.decreases-group_end-loop-names
decreases-group_end-loop-names l = length l.s - l.j

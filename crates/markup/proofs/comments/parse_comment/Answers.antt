-- What is left to show of `parse_comment`. Assumes nothing.
use Rattle.spec.specs.Reading.Dtd.{parse_comment}
use Rattle.cursor.proofs.Reading.{reading}
use Rattle.markup.proofs.Hyphens.{marks}
use Rattle.markup.proofs.comments.parse_comment.Goals as goal

pub returns-in-Some : goal.returns-in-Some
unfolding parse_comment
returns-in-Some c = search (marks, reading, c.in_ok-from.was)

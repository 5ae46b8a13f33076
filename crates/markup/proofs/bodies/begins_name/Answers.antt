-- What is left to show of `begins_name`. Assumes nothing.
use Rattle.markup.proofs.DeclBody.{percents}
use Rattle.markup.proofs.bodies.begins_name.Goals as goal

pub returns-in-Some : goal.returns-in-Some
returns-in-Some c = search percents

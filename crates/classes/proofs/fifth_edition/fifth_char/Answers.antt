-- What is left to show of `fifth_char`. Assumes nothing.
use Rattle.classes.proofs.ClassLaws.{classes}
use Rattle.classes.proofs.fifth_edition.fifth_char.Goals as goal

pub returns-then-in_wide_range : goal.returns-then-in_wide_range
returns-then-in_wide_range c = search classes

pub returns-else-in_wide_range : goal.returns-else-in_wide_range
returns-else-in_wide_range c = search classes

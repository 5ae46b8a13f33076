-- What is left to show of `is_letter`. Assumes nothing.
use Rattle.classes.proofs.ClassLaws.{classes}
use Rattle.classes.proofs.appendix_b.is_letter.Goals as goal

pub returns-then-is_common : goal.returns-then-is_common
returns-then-is_common c = search classes

pub returns-else-is_common : goal.returns-else-is_common
returns-else-is_common c = search classes

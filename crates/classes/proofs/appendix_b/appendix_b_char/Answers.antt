-- What is left to show of `appendix_b_char`. Assumes nothing.
use Rattle.classes.proofs.ClassLaws.{classes}
use Rattle.classes.proofs.appendix_b.appendix_b_char.Goals as goal

pub returns-then-is_letter : goal.returns-then-is_letter
returns-then-is_letter c = search classes

pub returns-else-is_letter : goal.returns-else-is_letter
returns-else-is_letter c = search classes

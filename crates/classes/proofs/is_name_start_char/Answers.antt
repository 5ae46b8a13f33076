-- What is left to show of `is_name_start_char`. Assumes nothing.
use Rattle.classes.proofs.ClassLaws.{classes}
use Rattle.classes.proofs.is_name_start_char.Goals as goal

pub returns-then-c-lt128 : goal.returns-then-c-lt128
returns-then-c-lt128 c = search classes

pub returns-in-AppendixB : goal.returns-in-AppendixB
returns-in-AppendixB c = search classes

pub returns-in-FifthEdition : goal.returns-in-FifthEdition
returns-in-FifthEdition c = search classes

-- What is left to show of `count_unread`. Assumes nothing.
use Rattle.entries.proofs.Counting.{count_all}
use Rattle.entries.proofs.count.count_unread.Goals as goal

pub returns-then-has_byte : goal.returns-then-has_byte
returns-then-has_byte c = count_all _ _ _ _ c.new.ensures c.count.ensures.ran

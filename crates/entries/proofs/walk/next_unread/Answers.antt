-- What is left to show of `next_unread`. Assumes nothing.
use Rattle.entries.proofs.Walking.{walking}
use Rattle.entries.proofs.walk.next_unread.Goals as goal

pub returns-in_default : goal.returns-in_default
returns-in_default c = search walking

pub is_unread-requires : goal.is_unread-requires
is_unread-requires c = search walking

pub returns-then-is_unread : goal.returns-then-is_unread
returns-then-is_unread c = search walking

pub loop-j-preserved : goal.loop-j-preserved
loop-j-preserved c = search walking

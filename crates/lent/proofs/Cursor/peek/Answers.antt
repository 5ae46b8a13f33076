-- What is left to show of `Cursor::peek`. Assumes nothing.
use Rattle.lent.proofs.Reading.{next_get}
use Rattle.lent.proofs.Cursor.peek.Goals as goal

pub returns : goal.returns
returns c = next_get _ _ _ _ c.get.ensures.lookup c.copied.ensures

-- What is left to show of `Cursor::parse_name`. Assumes nothing.
use Rattle.lent.proofs.Reading.{in_appendix_b}
use Rattle.lent.proofs.Cursor.parse_name.Goals as goal

pub returns : goal.returns
returns c = in_appendix_b _ _ c.parse_name.ensures

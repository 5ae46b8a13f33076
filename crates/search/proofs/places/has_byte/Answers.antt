-- What is left to show of `has_byte`. Assumes nothing.
use Rattle.search.proofs.Finding.{has}
use Rattle.search.proofs.places.has_byte.Goals as goal

pub returns : goal.returns
returns c = has _ _ _ c.find_byte.ensures _ c.is_some.ensures

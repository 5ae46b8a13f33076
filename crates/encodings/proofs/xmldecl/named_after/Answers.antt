-- What is left to show of `named_after`. Assumes nothing.
use Rattle.encodings.proofs.Finding.{valuing}
use Rattle.encodings.proofs.xmldecl.named_after.Goals as goal

pub returns : goal.returns
returns c = search (valuing, c.unwrap_or-end.ensures)

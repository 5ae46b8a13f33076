-- What is left to show of `read_doctype_text`. Assumes nothing.
use Rattle.spec.specs.Reading.Document.{read_doctype_text}
use Rattle.error.proofs.Passing.{handed_up}
use Rattle.document.proofs.Closing.{doctype_texts}
use Rattle.document.proofs.doctype.read_doctype_text.Goals as goal

pub returns-in_err-i : goal.returns-in_err-i
unfolding read_doctype_text
returns-in_err-i c = handed_up _ _ _ _ _ c.in_err-i.is c.branch-i.ensures c.from_residual.ensures.1 (search (doctype_texts, c.in_err-i.was))

pub returns : goal.returns
unfolding read_doctype_text
returns c = search (doctype_texts, c.in_ok-i.was)

-- What is left to show of `read_doctype`. Assumes nothing.
use Rattle.document.proofs.Closing.{doctypes}
use Rattle.document.proofs.doctype.read_doctype.Goals as goal

pub overflow_sub-e : goal.overflow_sub-e
overflow_sub-e c = search (doctypes, c.in_ok-i.was, c.in_ok-e.was)

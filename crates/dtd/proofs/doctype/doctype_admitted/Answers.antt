-- What is left to show of `doctype_admitted`. Assumes nothing.
use borrow.Author.Rules.{rules}
use Rattle.spec.specs.Reading.Dtd.{check_doctype}
use Rattle.source.proofs.Admitting.{place_left, place_passed}
use Rattle.classes.specs.Classes.{dialect}
use Rattle.dtd.proofs.doctype.doctype_admitted.Goals as goal

pub returns-in_err-parse_doctype : goal.returns-in_err-parse_doctype
returns-in_err-parse_doctype c = search (place_left (check_doctype (dialect c.args.names)), rules)

pub returns : goal.returns
returns c = search (place_passed (check_doctype (dialect c.args.names)), rules)

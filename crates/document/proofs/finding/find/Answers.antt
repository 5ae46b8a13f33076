-- What is left to show of `find`. Assumes nothing.
use Rattle.document.proofs.Findings.{front_stands}
use Rattle.document.proofs.finding.find.Goals as goal

pub returns-in-Ok : goal.returns-in-Ok
returns-in-Ok c = front_stands _ _ c.args.text.now 65536 _ _ c.find_named.ensures c.in-Ok.is

pub returns : goal.returns
returns c = c.find_named-2.ensures

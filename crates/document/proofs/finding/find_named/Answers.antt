-- What is left to show of `find_named`. Assumes nothing.
use Rattle.document.proofs.Findings.{finding}
use Rattle.document.proofs.finding.find_named.Goals as goal

pub returns-in-Foreign : goal.returns-in-Foreign
returns-in-Foreign c = search finding

pub returns-in_default : goal.returns-in_default
returns-in_default c = search (finding, c.in_default.not-Foreign)

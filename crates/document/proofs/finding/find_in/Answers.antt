-- What is left to show of `find_in`. Assumes nothing.
use mathlib.Core.Path.{◌≡◌, ap, ◌∙◌}
use Rattle.std.specs.Prelude.{Err}
use Rattle.document.specs.declared.verdict.Stopped.TheVariants.{Refused}
use Rattle.document.proofs.Findings.{finding}
use Rattle.document.proofs.finding.find_in.Goals as goal

pub returns-in-Err-Refused : goal.returns-in-Err-Refused
returns-in-Err-Refused c = let j : c.judge.result ≡ Err (Refused c.in-Err-Refused.fault) = c.in-Err-Refused.is ∙ ap Err c.in-Err-Refused.field-0-is in search (finding, j)

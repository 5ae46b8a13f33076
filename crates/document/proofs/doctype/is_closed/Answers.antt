-- What is left to show of `is_closed`. Assumes nothing.
use mathlib.Core.Path.{sym, ◌∙◌}
use mathlib.Core.Bool.{true≢false}
use Rattle.document.proofs.Closing.{closings}
use Rattle.document.proofs.doctype.is_closed.Goals as goal
use Rattle.document.proofs.doctype.is_closed.Goals.{in-Unterminated, in_default}

pub returns-then-is_some : goal.returns-then-is_some
returns-then-is_some c = c.if-is_some.true ∙ search closings

pub returns-then-matches : goal.returns-then-matches
returns-then-matches c = elim c.match-matches.branch [ in-Unterminated w ↦ search (closings, w.in-Unterminated.is) | in_default w ↦ absurd (true≢false (sym c.if-matches.true ∙ w.matches-is)) ]

pub returns-else-matches : goal.returns-else-matches
returns-else-matches c = elim c.match-matches.branch [ in-Unterminated w ↦ absurd (true≢false (sym w.matches-is ∙ c.if-matches.false)) | in_default w ↦ c.if-matches.false ∙ search (closings, w.in_default.not-Unterminated) ]

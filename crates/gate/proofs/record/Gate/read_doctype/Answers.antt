-- What is left to show of `read_doctype`. Assumes nothing.
use Rattle.classes.specs.Classes.{dialect}
use Rattle.gate.proofs.Stepping.{dock_wrong, dock_whole, reading}
use Rattle.gate.proofs.record.Gate.read_doctype.Goals as goal

pub returns-in_err-admit : goal.returns-in_err-admit
returns-in_err-admit c = search reading

pub returns-in_err-chars_admitted : goal.returns-in_err-chars_admitted
returns-in_err-chars_admitted c = search reading

pub returns-then-self-phase : goal.returns-then-self-phase
returns-then-self-phase c = search reading

pub returns-in-NotClosed : goal.returns-in-NotClosed
returns-in-NotClosed c = search reading

pub returns-in_err-doctype_admitted : goal.returns-in_err-doctype_admitted
unfolding dialect
returns-in_err-doctype_admitted c =
    dock_wrong _ _ _ c.admit.ensures _ c.branch-admit.ensures _ c.in_ok-admit.is _ _ c.chars_admitted.ensures _ c.branch-chars_admitted.ensures _ c.in_ok-chars_admitted.is c.if-self-phase.false
    _ c.scan_admitted.ensures c.in_default.not-NotClosed _ c.doctype_admitted.ensures _ c.branch-doctype_admitted.ensures _ _ c.in_err-doctype_admitted.is c.from_residual-in_err-doctype_admitted.ensures.1

pub returns : goal.returns
unfolding dialect
returns c =
    dock_whole _ _ _ c.admit.ensures _ c.branch-admit.ensures _ c.in_ok-admit.is _ _ c.chars_admitted.ensures _ c.branch-chars_admitted.ensures _ c.in_ok-chars_admitted.is c.if-self-phase.false
    _ c.scan_admitted.ensures c.in_default.not-NotClosed _ c.doctype_admitted.ensures _ c.branch-doctype_admitted.ensures _ c.in_ok-doctype_admitted.is

-- The code's record and answers as the rule's, and what the two calls promise. Assumes nothing: these are definitions.
use Rattle.std.specs.Prelude.{◌≡◌, List, ℕ, Result, Ok, Err}
use Rattle.spec.specs.Grammar.AppendixB.{appendix_b}
use Rattle.spec.specs.Reading.Gate as G
use Rattle.spec.specs.Reading.Gate.{Record, Outcome, Says, says_open, says, answered}
use Rattle.spec.specs.Reading.Refusals.{number}
use Rattle.error.specs.Read.{reason}
use Rattle.error.specs.declared.refusal.Refusal.{Refusal}
use Rattle.gate.specs.declared.record.Gate.{Gate}
use Rattle.gate.specs.declared.record.Docked.{Docked}
use Rattle.gate.specs.declared.record.Docked.TheVariants.{Whole, Open}

-- the code's record as the rule's
unfoldable pub recorded : Gate → Record
recorded g = record { started = g.started; seen = g.seen; «open» = g.«open»; refused = g.refused }

-- the record after an answer of the code: a refusal is counted
abbrev pub tallied : {A : Type 0} → Result A Refusal → Record → Record
tallied (Ok x) g = g
tallied (Err x) g = G.count g

-- what each reply is in docs/SCOPE.md: "open", or a number of its table
abbrev pub replied : Result Docked Refusal → Says
replied (Ok Whole) = says 0
replied (Ok Open) = says_open
replied (Err x) = says (number (reason x))

-- a record that is left without the count, and the answer that is then counted
unfoldable pub numbered : Gate → ℕ → Outcome
numbered g n = answered (recorded g) n

unfoldable pub answered_by : Gate → Result Docked Refusal → Outcome
answered_by g (Ok Whole) = numbered g 0
answered_by g (Ok Open) = record { left = recorded g; answer = says_open }
answered_by g (Err x) = numbered g (number (reason x))

-- `decl` on the record g answers with n and leaves the record h
pub record Declares (g : Gate) (w : List ℕ) (h : Gate) (n : ℕ) : Type 0 where
  pub answer : says n ≡ (G.decl (recorded g) w).answer
  pub left : recorded h ≡ (G.decl (recorded g) w).left

-- `doctype` on the record g answers with r and leaves the record h
pub record Docks (g : Gate) (phase : ℕ) (w : List ℕ) (h : Gate) (r : Result Docked Refusal) : Type 0 where
  pub answer : replied r ≡ (G.doctype appendix_b (recorded g) phase w).answer
  pub left : recorded h ≡ (G.doctype appendix_b (recorded g) phase w).left

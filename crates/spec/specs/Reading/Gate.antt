-- The gate, the paragraph "The gate's record" of docs/SCOPE.md: what `decl` and `doctype` answer, and what they leave in the record that their
-- owner lends. The checks that they call are written elsewhere. Assumes nothing.
use Rattle.std.specs.Prelude.{Bool, true, ◌||◌, not, List, ℕ, zero, suc, ◌+◌, eqb, ltb}
use Rattle.spec.specs.Basics.{pick}
use Rattle.spec.specs.Grammar.Names.{Dialect}
use Rattle.spec.specs.Reading.Refusals.{out_of_order, number}
use Rattle.spec.specs.Reading.Readers.{number_of, nothing}
use Rattle.spec.specs.Reading.Source.{checked}
use Rattle.spec.specs.Reading.Wellformed.{check_chars}
use Rattle.spec.specs.Reading.Dtd.{check_doctype}
use Rattle.spec.specs.Reading.Checks.{check_declaration}
use Rattle.spec.specs.Reading.Scan.{Scan, not_opened, not_closed, closed, scan}

-- the record: something was read, a DOCTYPE was seen, its subset is still open; and how many refusals there were (added)
pub record Record : Type 0 where
  pub started : Bool
  pub seen : Bool
  pub «open» : Bool
  pub refused : ℕ

-- what a call answers: "open", which is no refusal, or a number of the table
pub data Says : Type 0 where
  says_open : Says
  says : ℕ → Says

pub record Outcome : Type 0 where
  pub left : Record
  pub answer : Says

-- one refusal more, held at 65,535
unfoldable pub one_more : ℕ → ℕ
one_more n = pick (ltb n 65_535) (n + 1) 65_535

abbrev pub start : Record → Record
start g = record { started = true; seen = g.seen; «open» = g.«open»; refused = g.refused }

abbrev pub see : Record → Record
see g = record { started = g.started; seen = true; «open» = g.«open»; refused = g.refused }

abbrev pub leave_open : Record → Record
leave_open g = record { started = g.started; seen = g.seen; «open» = true; refused = g.refused }

abbrev pub count : Record → Record
count g = record { started = g.started; seen = g.seen; «open» = g.«open»; refused = one_more g.refused }

-- a number as the answer: each but 0 is a refusal, and counted
abbrev pub answered : Record → ℕ → Outcome
answered g zero = record { left = g; answer = says 0 }
answered g (suc n) = record { left = count g; answer = says (suc n) }

-- a check in front of the rest: its refusal is the answer
abbrev pub unless : ℕ → Record → Outcome → Outcome
unless zero g rest = rest
unless (suc n) g rest = answered g (suc n)

-- decl: 1 and 2 change nothing but the count; 21 if something was read before
unfoldable pub decl : Record → List ℕ → Outcome
decl g w =
    unless (checked nothing w) g
    (pick g.started (answered g (number out_of_order)) (answered (start g) (number_of (check_declaration w))))

module _ (D : Dialect) where
  -- doctype, after the scan: "not closed" is answered with "open", else the grammar decides
  abbrev pub by_scan : Scan → Record → List ℕ → Outcome
  by_scan not_opened g w = answered g (number_of (check_doctype D w))
  by_scan not_closed g w = record { left = leave_open g; answer = says_open }
  by_scan (closed i) g w = answered g (number_of (check_doctype D w))

  -- doctype: 1 and 2 as above; 18; 21 if a DOCTYPE was seen or the phase is not 0, the prolog; then the scan
  unfoldable pub doctype : Record → ℕ → List ℕ → Outcome
  doctype g phase w =
      unless (checked nothing w) g
      (unless (number_of (check_chars w)) (start g)
      (pick (g.seen || not (eqb phase 0)) (answered (start g) (number out_of_order))
      (by_scan (scan w) (see (start g)) w)))

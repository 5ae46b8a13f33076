-- What C's results say: numbers for the enums of the calls behind them. Assumes nothing: these are definitions.
use Rattle.std.specs.Prelude.{◌≡◌, Bool, true, false, List, [], ◌∷◌, ℕ, Result, Ok, Err}
use Rattle.spec.specs.Grammar.Names.{Dialect}
use Rattle.spec.specs.Reading.Scan.{not_opened, not_closed, closed}
use Rattle.spec.specs.Reading.Refusals as Refusals
use Rattle.error.specs.Read.{code, reason}
use Rattle.error.specs.declared.refusal.Refusal.{Refusal}
use Rattle.scan.specs.Answers.{Gives, gives, gives_none, scan_gives, Scans}
use Rattle.scan.specs.declared.calls.Scanned.{Scanned}
use Rattle.document.specs.Judges.{Fields, Judges}
use Rattle.gate.specs.Promises.{Docks}
use Rattle.gate.specs.declared.record.Gate.{Gate}
use Rattle.gate.specs.declared.record.Docked.{Docked}
use Rattle.gate.specs.declared.record.Docked.TheVariants.{Whole, Open}

-- what a scan leaves in *answer and in *place, from what was there
unfoldable pub scan_answer : Gives → ℕ → ℕ
scan_answer (gives not_opened) a = 0
scan_answer (gives not_closed) a = 1
scan_answer (gives (closed i)) a = 2
scan_answer gives_none a = a

unfoldable pub scan_place : Gives → ℕ → ℕ
scan_place (gives not_opened) p = p
scan_place (gives not_closed) p = p
scan_place (gives (closed i)) p = i
scan_place gives_none p = p

-- moxkeldi_scan on the places a and p returns n and leaves b and q in them: the scan's promise, in numbers
pub record ScansInto (w : List ℕ) (a p n b q : ℕ) : Type 0 where
  pub says : Result Scanned Refusal
  pub scans : Scans w says
  pub number : n ≡ code says
  pub answer : b ≡ scan_answer (scan_gives says) a
  pub place : q ≡ scan_place (scan_gives says) p

-- a reply of the gate as a number: MOXKELDI_OPEN for "open"
unfoldable pub code_of : Result Docked Refusal → ℕ
code_of (Ok Whole) = 0
code_of (Ok Open) = 255
code_of (Err x) = Refusals.number (reason x)

-- moxkeldi_doctype returns n: the gate's promise, its reply as a number
pub record DocksCoded (g : Gate) (phase : ℕ) (w : List ℕ) (h : Gate) (n : ℕ) : Type 0 where
  pub reply : Result Docked Refusal
  pub code : n ≡ code_of reply
  pub docks : Docks g phase w h reply

-- yes or no as a number
abbrev pub bit : Bool → ℕ
bit true = 1
bit false = 0

-- a verdict's fields, in the order of the struct
unfoldable pub fields_of : Fields → List ℕ
fields_of v =
    v.place ∷ v.line ∷ v.column ∷ v.opened ∷ bit v.has_doctype ∷ v.doctype_start ∷ v.doctype_end ∷ v.unread ∷ []

-- moxkeldi_check_document (D is appendix_b) and moxkeldi_check_document_fifth (fifth_edition) return n and leave these numbers in *verdict: the
-- promise of the check of a document that is at hand as a whole
pub record JudgesInto (D : Dialect) (w : List ℕ) (n : ℕ) (fields : List ℕ) : Type 0 where
  pub verdict : Fields
  pub judges : Judges D true w verdict
  pub number : n ≡ verdict.number
  pub told : fields ≡ fields_of verdict

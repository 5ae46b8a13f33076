-- What each of the scan's cases is in docs/SCOPE.md, and what the scan promises. Assumes nothing: these are definitions.
use Rattle.std.specs.Prelude.{◌≡◌, List, ℕ, zero, suc, Result, Ok, Err}
use Rattle.spec.specs.Grammar.AppendixB.{appendix_b}
use Rattle.spec.specs.Promises.{Cuts}
use Rattle.spec.specs.Reading.Readers.{nothing}
use Rattle.spec.specs.Reading.Source.{checked}
use Rattle.spec.specs.Reading.Scan as Rule
use Rattle.spec.specs.Reading.Scan.{Scan}
use Rattle.scan.specs.declared.calls.Scanned.{Scanned}
use Rattle.scan.specs.declared.calls.Scanned.TheVariants.{NotOpened, NotClosed, Closed}
use Rattle.error.specs.Read.{code}
use Rattle.error.specs.declared.refusal.Refusal.{Refusal}

-- one of the scan's three answers, or none of them
pub data Gives : Type 0 where
  gives : Scan → Gives
  gives_none : Gives

-- which of the three each case is
unfoldable pub scan_of : Scanned → Scan
scan_of NotOpened = Rule.not_opened
scan_of NotClosed = Rule.not_closed
scan_of (Closed i) = Rule.closed i

-- and which of them is given, if any
abbrev pub scan_gives : Result Scanned Refusal → Gives
scan_gives (Ok r) = gives (scan_of r)
scan_gives (Err x) = gives_none

-- what the scan has to give after the number in front: where that is 0 the written rule's answer, else none
abbrev pub by_rule : ℕ → List ℕ → Gives
by_rule zero w = gives (Rule.scan w)
by_rule (suc n) w = gives_none

-- the scan's promise: 1 or 2 where the text may not be looked at, else 0; the rule's answer on every text; and of a front part of an
-- accepted DOCTYPE the one that demand 3 asks for
pub record Scans (w : List ℕ) (r : Result Scanned Refusal) : Type 0 where
  pub number : code r ≡ checked nothing w
  pub rule : scan_gives r ≡ by_rule (checked nothing w) w
  pub cuts : Cuts appendix_b w (λ a. scan_gives r ≡ gives a)

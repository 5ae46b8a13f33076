-- From what a call behind the boundary promises to what is said in C's numbers. Assumes nothing.
use mathlib.Core.Path.{◌≡◌, refl, subst}
use mathlib.Core.List.{List}
use Prim.Native.Nat.{ℕ}
use borrow.Author.Rules.{rules}
use Rattle.std.specs.Prelude.{Result, Ok, Err}
use Rattle.spec.specs.Reading.Refusals.{number}
use Rattle.error.specs.Read.{code, reason}
use Rattle.error.specs.declared.refusal.Refusal.{Refusal}
use Rattle.scan.specs.Answers.{scan_of, scan_gives, Scans}
use Rattle.scan.specs.declared.calls.Scanned.{Scanned}
use Rattle.scan.specs.declared.calls.Scanned.TheVariants.{NotOpened, NotClosed, Closed}
use Rattle.source.proofs.Admitting.{told_text}
use Rattle.moxkeldi.specs.Boundary.{scan_answer, scan_place, ScansInto}

-- the scan said r, on the places a and p
module _ (w : List ℕ) (a p : ℕ) (r : Result Scanned Refusal) (s : Scans w r) where
  into : (x : Result Scanned Refusal) → r ≡ x → ScansInto w a p (code x) (scan_answer (scan_gives x) a) (scan_place (scan_gives x) p)
  into x e = record { says = x; scans = subst (Scans w) e s; number = refl; answer = refl; place = refl }

  pub into_not_opened : r ≡ Ok NotOpened → ScansInto w a p 0 0 p
  unfolding scan_of scan_answer scan_place
  into_not_opened e = into (Ok NotOpened) e

  pub into_not_closed : r ≡ Ok NotClosed → ScansInto w a p 0 1 p
  unfolding scan_of scan_answer scan_place
  into_not_closed e = into (Ok NotClosed) e

  pub into_closed : (i : ℕ) → r ≡ Ok (Closed i) → ScansInto w a p 0 2 i
  unfolding scan_of scan_answer scan_place
  into_closed i e = into (Ok (Closed i)) e

  pub into_refused : (x : Refusal) → r ≡ Err x → ScansInto w a p (number (reason x)) a p
  unfolding scan_answer scan_place
  into_refused x e = into (Err x) e

pub ruleset bounding = (into_not_opened, into_not_closed, into_closed, into_refused, told_text, rules)

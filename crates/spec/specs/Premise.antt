-- Demand 3's premise, and what the scan is to say of a front part. Assumes nothing.
use Rattle.std.specs.Prelude.{Bool, true, ◌&&◌, ◌||◌, not, List, [], ◌∷◌, ℕ, zero, suc, eqb, leb}
use Rattle.std.proofs.Math.Seq.{slice}
use Rattle.spec.specs.Basics.{pick}
use Rattle.spec.specs.Grammar.Languages.{ascii, one_of, none_of}
use Rattle.spec.specs.Grammar.Names.{Dialect}
use Rattle.spec.specs.Grammar.Division.{Kind, element, attlist, entity, notation, instruction, comment, reference, Entry, refers}
use Rattle.spec.specs.Reading.Readers.{starts}
use Rattle.spec.specs.Unread.{unread}
use Rattle.spec.specs.Reading.Scan.{Scan, not_opened, not_closed, closed}

-- The tests are of what stands from an entry's first byte to its last.
-- no quote mark, no ']' and no "<!--"
unfoldable pub bare : List ℕ → Bool
bare [] = true
bare (b ∷ w) = (none_of "\"']" b && not (starts (ascii "<!--") (b ∷ w))) && bare w

-- no ']' and no "<!--" outside quotes; the state is the open quote, or 0
unfoldable pub quiet : ℕ → List ℕ → Bool
quiet quote [] = true
quiet zero (b ∷ w) = (not (one_of "]" b) && not (starts (ascii "<!--") (b ∷ w))) && quiet (pick (one_of "\"'" b) b 0) w
quiet (suc quote) (b ∷ w) = quiet (pick (eqb b (suc quote)) 0 (suc quote)) w

-- what the scan says of the front part that a cut leaves
abbrev pub promised : ℕ → ℕ → ℕ → Scan
promised open_at close_at cut = pick (leb cut open_at) not_opened (pick (leb cut close_at) not_closed (closed close_at))

module _ (D : Dialect) where
  -- an instruction passes the test; an unread declaration is quiet; nothing is asked of others
  abbrev pub premised : (List ℕ → Bool) → Bool → Kind → List ℕ → Bool
  premised test pe element y = not (unread D pe element y) || quiet 0 y
  premised test pe attlist y = not (unread D pe attlist y) || quiet 0 y
  premised test pe entity y = not (unread D pe entity y) || quiet 0 y
  premised test pe notation y = not (unread D pe notation y) || quiet 0 y
  premised test pe instruction y = test y
  premised test pe comment y = true
  premised test pe reference y = true

  abbrev pub premise : (List ℕ → Bool) → List ℕ → Bool → List Entry → Bool
  premise test w pe [] = true
  premise test w pe (e ∷ es) = premised test pe e.kind (slice e.first e.past w) && premise test w (pe || refers e.kind) es

-- Divisions by parts in place of places, for the proofs. Assumes nothing: these are definitions.
use mathlib.Core.Bool.{Bool, true, false, ◌&&◌, ◌||◌}
use mathlib.Core.List.{List, [], ◌∷◌, ◌++◌}
use mathlib.Core.Logic.{◌↔◌, ◌⊎◌}
use mathlib.Core.Path.{◌≡◌}
use Prim.Native.Nat.{ℕ, suc, ◌+◌}
use lib.Dec.{T}
use lib.ListN.{length, take}
use Rattle.spec.specs.Grammar.Characters.{S?}
use Rattle.spec.specs.Grammar.Division.{Kind, Entry, refers, entry_of, Front}
use Rattle.spec.specs.Grammar.Doctype.{doctypedecl}
use Rattle.spec.specs.Grammar.Languages.{ascii}
use Rattle.spec.specs.Grammar.Names.{Dialect}
use Rattle.spec.specs.Premise.{promised, premised}
use Rattle.spec.specs.Reading.Scan.{scan}

module _ (D : Dialect) where
  -- entries that fill a text, with nothing but white space beside them
  pub data Filling : Bool → List ℕ → Type 0 where
    last : {pe : Bool} {w : List ℕ} → S? w → Filling pe w
    next : {pe : Bool} {w : List ℕ} (k : Kind) (s y z : List ℕ) → w ≡ s ++ (y ++ z) → S? s → entry_of D pe k y → Filling (pe || refers k) z → Filling pe w

  -- their list, for a text that begins at this place
  abbrev pub entries : {pe : Bool} {w : List ℕ} → ℕ → Filling pe w → List Entry
  entries from (last b) = []
  entries from (next k s y z e b l f) =
      record { kind = k; first = from + length s; past = from + length s + length y } ∷ entries (from + length s + length y) f

  -- the text, divided: what stands before '[', between '[' and ']', and after ']'
  pub record Parts (w : List ℕ) : Type 0 where
    pub front : List ℕ
    pub inner : List ℕ
    pub back : List ℕ
    pub split : w ≡ front ++ (ascii "[" ++ (inner ++ (ascii "]" ++ back)))
    pub heads : Front D front
    pub fills : Filling false inner
    pub ends : S? back

  abbrev pub open_at : {w : List ℕ} → Parts w → ℕ
  open_at d = length d.front

  abbrev pub close_at : {w : List ℕ} → Parts w → ℕ
  close_at d = suc (length d.front) + length d.inner

  abbrev pub list_of : {w : List ℕ} → Parts w → List Entry
  list_of d = entries (suc (length d.front)) d.fills

  abbrev pub DividedParts : Type 0
  DividedParts = (w : List ℕ) → doctypedecl D w ↔ (Front D w ⊎ Parts w)

  abbrev pub OneParts : Type 0
  OneParts = (w : List ℕ) (a b : Parts w) → (list_of a ≡ list_of b) × (open_at a ≡ open_at b) × (close_at a ≡ close_at b)

  abbrev pub Premise : (List ℕ → Bool) → {pe : Bool} {w : List ℕ} → Filling pe w → Bool
  Premise calm (last b) = true
  Premise calm (next {pe = pe} k s y z e b l f) = premised D calm pe k y && Premise calm f

  abbrev pub CutsParts : (List ℕ → Bool) → Type 0
  CutsParts calm =
      (w : List ℕ) (d : Parts w) → T (Premise calm d.fills)
      → (cut : ℕ) → scan (take cut w) ≡ promised (open_at d) (close_at d) cut

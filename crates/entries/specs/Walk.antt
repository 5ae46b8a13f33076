-- The walk over the entries, from one unread declaration to the next. Assumes nothing.
use Rattle.std.specs.Prelude.{Option, Some, None, ◌≡◌, Bool, ◌||◌, List, [], ◌∷◌, ℕ, ◌+◌, ◌≤◌, ◌<◌, length, drop}
use Rattle.std.proofs.Math.Seq.{slice}
use Rattle.spec.specs.Basics.{pick}
use Rattle.spec.specs.Grammar.Division.{Kind, Entry, refers}
use Rattle.spec.specs.Grammar.Names.{Dialect}
use Rattle.spec.specs.Reading.Entries.{kind_at, entries_from}
use Rattle.spec.specs.Reading.Places.{Place, at, nowhere}
use Rattle.spec.specs.Reading.Scan.{subset_open}
use Rattle.spec.specs.Unread.{goes_unread, unread_entries}
use Rattle.entries.specs.Kinds.{keyword_size}
use Rattle.entries.specs.declared.walk.Unread.{Unread}

-- where the entries of a text begin: after its first '[' outside quotes; at its end where there is none
abbrev pub after_open : List ℕ → Place → ℕ
after_open w (at i) = i + 1
after_open w nowhere = length w

unfoldable pub walk_start : List ℕ → ℕ
walk_start w = after_open w (subset_open w)

-- a keyword of this kind, and a byte after it, lie between two places of the text
pub record Holds (k : Kind) (s : List ℕ) (first past : ℕ) : Type 0 where
  pub room : first + keyword_size k < past
  pub within : past ≤ length s

-- the declaration that an answer tells of
abbrev pub entry_told : List ℕ → Unread → Entry
entry_told s u = record { kind = kind_at (drop u.first s); first = u.first; past = u.past }

module _ (D : Dialect) where
  -- whether what stands between two places goes unread
  unfoldable pub unread_there : Bool → Kind → List ℕ → ℕ → ℕ → Bool
  unread_there pe k s first past = goes_unread D pe k (slice first past s)

  -- the declarations that go unread from a place on
  unfoldable pub unread_from : List ℕ → Bool → ℕ → List Entry
  unread_from s pe i = unread_entries D s pe (entries_from D i (drop i s))

  -- the first of a list that does, and whether a reference came before it
  abbrev pub first_among : List ℕ → Bool → List Entry → Option Unread
  first_among s pe [] = None
  first_among s pe (e ∷ es) =
      pick (goes_unread D pe e.kind (slice e.first e.past s)) (Some (record { first = e.first; past = e.past; pe_used = pe })) (first_among s (pe || refers e.kind) es)

  unfoldable pub first_from : List ℕ → Bool → ℕ → Option Unread
  first_from s pe i = first_among s pe (entries_from D i (drop i s))

  -- the list that an answer tells of: none; or an entry, and those that go unread after it
  abbrev pub listed_by : List ℕ → Option Unread → List Entry
  listed_by s None = []
  listed_by s (Some u) = entry_told s u ∷ unread_from s u.pe_used u.past

  -- the answer from a place on: it is the first that goes unread, it tells of the very list, and what it tells of lies further on in the
  -- text
  pub record Finds (s : List ℕ) (pe : Bool) (i : ℕ) (r : Option Unread) : Type 0 where
    pub answer : r ≡ first_from s pe i
    pub list : listed_by s r ≡ unread_from s pe i
    pub onward : (u : Unread) → r ≡ Some u → (i ≤ u.first) × (u.first < u.past) × (u.past ≤ length s)

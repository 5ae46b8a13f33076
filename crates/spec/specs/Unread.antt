-- Which declarations of a DOCTYPE go unread: docs/SCOPE.md, "Reading". Assumes nothing.
use Rattle.std.specs.Prelude.{Bool, false, ◌||◌, List, [], ◌∷◌, ◌≡◌, ℕ, ◌-◌, length, take, drop}
use Rattle.std.proofs.Math.Seq.{slice}
use Rattle.spec.specs.Basics.{pick}
use Rattle.spec.specs.Grammar.Division.{Kind, element, attlist, entity, notation, instruction, comment, reference, Entry, refers, keyword, Front, Division}
use Rattle.spec.specs.Grammar.Languages.{ascii}
use Rattle.spec.specs.Grammar.Names.{Dialect}
use Rattle.spec.specs.Reading.Dtd.{has_pe_reference}

-- what stands between a declaration's keyword and its '>'
abbrev pub body_of : Kind → List ℕ → List ℕ
body_of k y = drop (length (ascii (keyword k))) (take (length y - 1) y)

module _ (D : Dialect) where
  -- a declaration is unread if a parameter-entity reference stood earlier between declarations, or '%' directly before a name start
  -- character stands in its body, literals included
  abbrev pub unread : Bool → Kind → List ℕ → Bool
  unread pe k y = pe || has_pe_reference D (body_of k y)

  -- an entry that is a declaration, and unread
  abbrev pub goes_unread : Bool → Kind → List ℕ → Bool
  goes_unread pe element y = unread pe element y
  goes_unread pe attlist y = unread pe attlist y
  goes_unread pe entity y = unread pe entity y
  goes_unread pe notation y = unread pe notation y
  goes_unread pe instruction y = false
  goes_unread pe comment y = false
  goes_unread pe reference y = false

  -- the entries that go unread
  abbrev pub unread_entries : List ℕ → Bool → List Entry → List Entry
  unread_entries w pe [] = []
  unread_entries w pe (e ∷ es) =
      pick (goes_unread pe e.kind (slice e.first e.past w)) (e ∷ unread_entries w (pe || refers e.kind) es)
      (unread_entries w (pe || refers e.kind) es)

  -- n declarations of a DOCTYPE's text go unread: those of its division; none where it has no subset
  pub record CountsUnread (t : List ℕ) (n : ℕ) : Type 0 where
    pub without_subset : Front D t → n ≡ 0
    pub with_subset : (d : Division D t) → n ≡ length (unread_entries t false d.entries)

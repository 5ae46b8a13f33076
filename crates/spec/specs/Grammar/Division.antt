-- The division of the internal subset into its entries: docs/SCOPE.md, "Demand 3, word by word". Assumes nothing.
use Rattle.std.specs.Prelude.{Bool, true, false, ◌||◌, List, [], ◌∷◌, ℕ, suc, ◌≤◌, ◌<◌, length, take, drop}
use Prim.Native.String.{String}
use Rattle.std.proofs.Math.Seq.{slice}
use Rattle.spec.specs.Grammar.Languages.{Lang, lit, ◌·◌, Opt}
use Rattle.spec.specs.Grammar.Characters.{S, S?}
use Rattle.spec.specs.Grammar.Names.{Dialect, Name, PEReference}
use Rattle.spec.specs.Grammar.Literals.{ExternalID}
use Rattle.spec.specs.Grammar.Declarations.{PI, Comment, element_body, attlist_body, entity_body, notation_body, declared}

pub data Kind : Type 0 where
  element attlist entity notation instruction comment reference : Kind

-- an entry: its kind, its first byte and one past its last
pub record Entry : Type 0 where
  pub kind : Kind
  pub first : ℕ
  pub past : ℕ

-- after an entry of this kind bodies are only delimited
abbrev pub refers : Kind → Bool
refers element = false
refers attlist = false
refers entity = false
refers notation = false
refers instruction = false
refers comment = false
refers reference = true

-- what a declaration begins with, [45], [52], [70], [82]; the other kinds are no declarations
abbrev pub keyword : Kind → String
keyword element = "<!ELEMENT"
keyword attlist = "<!ATTLIST"
keyword entity = "<!ENTITY"
keyword notation = "<!NOTATION"
keyword instruction = ""
keyword comment = ""
keyword reference = ""

module _ (D : Dialect) where
  -- what an entry of a kind may be, by whether a parameter-entity reference stood earlier between declarations:
  -- [45] elementdecl, [52] AttlistDecl, [70] EntityDecl, [82] NotationDecl, [16] PI, [15] Comment, [69] PEReference
  abbrev pub entry_of : Bool → Kind → Lang
  entry_of pe element = lit (keyword element) · declared D pe (element_body D) · lit ">"
  entry_of pe attlist = lit (keyword attlist) · declared D pe (attlist_body D) · lit ">"
  entry_of pe entity = lit (keyword entity) · declared D pe (entity_body D) · lit ">"
  entry_of pe notation = lit (keyword notation) · declared D pe (notation_body D) · lit ">"
  entry_of pe instruction = PI D
  entry_of pe comment = Comment
  entry_of pe reference = PEReference D

  -- [28] what stands before the subset's '[', or all there is where it has none; departure: the first S is optional
  abbrev pub Front : Lang
  Front = S? · Name D · Opt (S · ExternalID) · S?

  -- the entries of a list fill the text from one place to another, with nothing but white space beside them
  abbrev pub Fills : List ℕ → Bool → ℕ → ℕ → List Entry → Type 0
  Fills w pe i j [] = (i ≤ j) × S? (slice i j w)
  Fills w pe i j (e ∷ es) =
      (i ≤ e.first) × (e.first ≤ e.past) × S? (slice i e.first w) × entry_of pe e.kind (slice e.first e.past w)
      × Fills w (pe || refers e.kind) e.past j es

  -- a division: the places of the subset's '[' and ']', and the entries between them
  pub record Division (w : List ℕ) : Type 0 where
    pub opening : ℕ
    pub closing : ℕ
    pub entries : List Entry
    pub within : closing < length w
    pub heads : Front (take opening w)
    pub opens : lit "[" (slice opening (suc opening) w)
    pub fills : Fills w false (suc opening) closing entries
    pub closes : lit "]" (slice closing (suc closing) w)
    pub ends : S? (drop (suc closing) w)

-- Where a cursor stands, and what it sees there. Assumes nothing: these are definitions.
use Rattle.std.specs.Prelude.{◌≡◌, List, [], ◌∷◌, ℕ, Option, Some, None}
use Rattle.std.specs.Borrow.{Bor}
use Rattle.lent.specs.declared.Cursor.{Cursor}

-- the cursor refers to this very text, and stands at this place
pub record Stands (c : Cursor) (text : Bor (List ℕ)) (at : ℕ) : Type 0 where
  pub same_text : c.text ≡ text
  pub place : c.at ≡ at

-- what is read next: one byte, or none
unfoldable pub next : Option ℕ → List ℕ
next (Some b) = b ∷ []
next None = []

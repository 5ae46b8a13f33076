-- What the call for a name gives: a part of the text. Assumes nothing.
use Rattle.std.specs.Prelude.{◌≡◌, List, ◌++◌, ℕ, ◌≤◌, length, take}
use Rattle.spec.specs.Grammar.Names.{Dialect, Name}
use Rattle.spec.specs.Reading.Wellformed.{name_length}

-- p is the part of w that the order of reading takes for a name: empty, or a Name, and no front part of w that is a Name is longer
pub record NamePart (D : Dialect) (w p : List ℕ) : Type 0 where
  pub part : p ≡ take (name_length D w) w
  pub name : (length p ≡ 0 → ⊥) → Name D p
  pub longest : (u v : List ℕ) → w ≡ u ++ v → Name D u → length u ≤ length p

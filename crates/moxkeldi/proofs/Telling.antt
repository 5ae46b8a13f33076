-- The verdict on a document as numbers in a row. Assumes nothing.
use mathlib.Core.Path.{◌≡◌}
use mathlib.Core.Bool.{true}
use mathlib.Core.List.{List}
use Prim.Native.Nat.{ℕ}
use borrow.Author.Rules.{rules}
use Rattle.spec.specs.Grammar.Names.{Dialect}
use Rattle.document.specs.Judges.{Fields, Judges}
use Rattle.moxkeldi.specs.Boundary.{fields_of, JudgesInto}

pub judges_into : (D : Dialect) (w : List ℕ) (v : Fields) (n : ℕ) (f : List ℕ) → Judges D true w v → n ≡ v.number → f ≡ fields_of v → JudgesInto D w n f
judges_into D w v n f j m e = record { verdict = v; judges = j; number = m; told = e }

pub ruleset telling = (judges_into, rules)

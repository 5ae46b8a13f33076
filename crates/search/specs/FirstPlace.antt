-- The first place of a word, counted from the text's first byte. Assumes nothing.
use Rattle.std.specs.Prelude.{Bool, List, ℕ, ◌+◌, eqb, drop}
use Rattle.spec.specs.Basics.{pick}
use Rattle.spec.specs.Reading.Readers.{contains, before}
use Rattle.spec.specs.Reading.Places.{Place, at, nowhere}

-- where the word first stands in s from a place on; past the end it stands nowhere
unfoldable pub first_place : List ℕ → List ℕ → ℕ → Place
first_place kw s from = pick (contains kw (drop from s)) (at (from + before kw (drop from s))) nowhere

-- the class of one byte
abbrev pub only : ℕ → ℕ → Bool
only a b = eqb b a

-- Classes of characters as tables of range ends, first and last of each range in turn, ascending. Assumes nothing.
use Rattle.std.specs.Prelude.{Bool, true, false, ◌&&◌, ◌||◌, List, [], ◌∷◌, ℕ, leb, ltb}
use Rattle.spec.specs.Basics.{within}

-- the number stands in a range of the table
unfoldable pub in_table : List ℕ → ℕ → Bool
in_table [] c = false
in_table (lo ∷ []) c = false
in_table (lo ∷ hi ∷ rest) c = within lo hi c || in_table rest c

-- each range ends at or after its start, and the next one begins after that: the rule of a table, by one computed test
unfoldable pub ascending : List ℕ → Bool
ascending [] = true
ascending (lo ∷ []) = false
ascending (lo ∷ hi ∷ []) = leb lo hi
ascending (lo ∷ hi ∷ next ∷ rest) = leb lo hi && ltb hi next && ascending (next ∷ rest)

-- The code's answer in the rule's words, the place that a rule finds, and what stops the search for signs outside quotes. Assumes nothing.
use Rattle.std.specs.Prelude.{Bool, List, [], ◌∷◌, ℕ, drop, Option, Some, None}
use Rattle.spec.specs.Grammar.Languages.{among}
use Rattle.spec.specs.Reading.Places.{Place, at, nowhere, later}

unfoldable pub found : Option ℕ → Place
found (Some i) = at i
found None = nowhere

-- what a rule finds in s from a place on, counted from the text's first byte
unfoldable pub place_from : (List ℕ → Place) → List ℕ → ℕ → Place
place_from f s from = later from (f (drop from s))

-- one of two signs
abbrev pub either : ℕ → ℕ → ℕ → Bool
either sign other = among (sign ∷ other ∷ [])

-- a quote mark, or one of two signs
unfoldable pub stop : ℕ → ℕ → ℕ → Bool
stop sign other = among (34 ∷ 39 ∷ sign ∷ other ∷ [])

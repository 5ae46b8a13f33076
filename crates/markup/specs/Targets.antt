-- What an instruction's target ends before. Assumes nothing.
use Rattle.std.specs.Prelude.{Bool, true, List, [], ◌∷◌, ℕ}
use Rattle.spec.specs.Grammar.Characters.{space}

-- white space, or the text's end
unfoldable pub target_ends : List ℕ → Bool
target_ends [] = true
target_ends (b ∷ w) = space b

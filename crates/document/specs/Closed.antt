-- What `unless_closed` asks of a refusal and its place k in the whole text. Assumes nothing.
use Rattle.std.specs.Prelude.{Bool, ◌&&◌, ◌||◌, List, ℕ, eqb, drop}
use Rattle.spec.specs.Grammar.Languages.{ascii}
use Rattle.spec.specs.Reading.Readers.{some_left, contains}
use Rattle.spec.specs.Reading.Refusals.{Refusal, number, unterminated}

unfoldable pub closed : Refusal → ℕ → List ℕ → Bool
closed r k s = contains (ascii ">") (drop k s) || eqb (number r) (number unterminated) && some_left (drop k s)

-- Places in a text, and the first byte of a class outside quotes, which take_decl_body of dtd.rs and subset_open of checks.rs look for.
-- Assumes nothing.
use Rattle.std.specs.Prelude.{Bool, List, [], ◌∷◌, ℕ, zero, suc, ◌+◌, eqb}
use Rattle.spec.specs.Basics.{pick}
use Rattle.spec.specs.Grammar.Languages.{one_of}

-- a place, or none
pub data Place : Type 0 where
  at : ℕ → Place
  nowhere : Place

abbrev pub later : ℕ → Place → Place
later k (at i) = at (k + i)
later k nowhere = nowhere

-- the first byte of the class outside quotes; the state is the open quote, or 0
unfoldable pub outside : (ℕ → Bool) → ℕ → List ℕ → Place
outside p quote [] = nowhere
outside p zero (b ∷ w) = pick (p b) (at 0) (later 1 (outside p (pick (one_of "\"'" b) b 0) w))
outside p (suc quote) (b ∷ w) = later 1 (outside p (pick (eqb b (suc quote)) 0 (suc quote)) w)

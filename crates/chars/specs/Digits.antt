-- The digits of a character reference [66], as one pass over them gives them (request 2): how many there are, and their value as far as it
-- matters. The proofs call no tactic. Assumes nothing.
use Rattle.std.specs.Prelude.{◌≡◌, Bool, true, ◌||◌, List, ℕ, leb, min, take, refl}
use Rattle.std.proofs.Common.{ap}
use Rattle.spec.specs.Basics.{within}
use Rattle.spec.specs.Grammar.References.{digit, hex_digit, value_on}
use Rattle.spec.specs.Reading.Readers.{run}
use Rattle.spec.specs.Reading.Wellformed.{past_points}

-- n is how many digits stand first in w, and v the lesser of the number that they stand for and past_points
pub record Counted (base : ℕ) (d : ℕ → Bool) (w : List ℕ) (n v : ℕ) : Type 0 where
  pub count_is : n ≡ run d w
  pub value_is : v ≡ min (value_on base 0 (take (run d w) w)) past_points

-- what the pass asks of a base and of a class of bytes: the base is one of 1 to 16, 0 is of the class, and what is of it is a digit of the base 16.
-- That the two belong together is for whoever picks them: char_ref_end says so in the order of reading's words.
pub record IsBase (base : ℕ) (d : ℕ → Bool) : Type 0 where
  pub least : leb 1 base ≡ true
  pub most : leb base 16 ≡ true
  pub zero : d 0x30 ≡ true
  pub hex : (b : ℕ) → d b ≡ true → hex_digit b ≡ true

pub decimal_is : IsBase 10 digit
decimal_is = record {
  least = refl;
  most = refl;
  zero = refl;
  hex = λ b e. ap (λ (t : Bool). t || within 0x41 0x46 b || within 0x61 0x66 b) e;
}

pub hex_is : IsBase 16 hex_digit
hex_is = record { least = refl; most = refl; zero = refl; hex = λ b e. e }

-- What the quick passes over names of ASCII give, whatever the edition. Assumes nothing.
use Rattle.std.specs.Prelude.{◌≡◌, List, ℕ, ◌+◌, ◌<◌, get_or, drop}
use Rattle.spec.specs.Reading.Readers.{number_of, taken}
use Rattle.spec.specs.Reading.Wellformed.{parts, check_name}
use Rattle.classes.specs.Classes.{dialect}
use Rattle.classes.specs.declared.Names.{Names}

-- n is a place among the name characters at the front of w, whatever the edition, and their end where the byte at n is below 128
pub record AsciiRun (w : List ℕ) (n : ℕ) : Type 0 where
  pub among : (names : Names) → n + taken (parts (dialect names) (drop n w)) ≡ taken (parts (dialect names) w)
  pub ends : (names : Names) → get_or w n 0 < 128 → n ≡ taken (parts (dialect names) w)

-- w is a Name, whatever the edition
pub record AnyName (w : List ℕ) : Type 0 where
  pub accepted : (names : Names) → 0 ≡ number_of (check_name (dialect names) w)

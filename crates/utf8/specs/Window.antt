-- UTF-8 by windows of four bytes: a test that a text passes only if it is UTF-8. Assumes nothing.
use Rattle.std.specs.Prelude.{◌≡◌, Bool, false, not, ◌||◌, ◌&&◌, List, [], ◌∷◌, ℕ, ◌+◌, ◌<◌, eqb, leb, ltb, length, get_or}
use Rattle.std.specs.Bool.{beq}
use Rattle.spec.specs.Reading.Utf8.{tail}

-- after the bytes x, y and z a tail is due
abbrev pub due : ℕ → ℕ → ℕ → Bool
due x y z = leb 0xC0 z || leb 0xE0 y || leb 0xF0 x

-- after the bytes x, y and z the byte b is out of place: a tail where none is due, or none where one is, or a byte that
-- stands nowhere, or after z an overlong form, a surrogate or a code point past U+10FFFF
unfoldable pub off : ℕ → ℕ → ℕ → ℕ → Bool
off x y z b =
    not (beq (tail b) (due x y z))
    || eqb b 0xC0
    || eqb b 0xC1
    || leb 0xF5 b
    || eqb z 0xE0 && ltb b 0xA0
    || eqb z 0xED && leb 0xA0 b
    || eqb z 0xF0 && ltb b 0x90
    || eqb z 0xF4 && leb 0x90 b

-- no byte is out of place, and none is due at the end
unfoldable pub fine : ℕ → ℕ → ℕ → List ℕ → Bool
fine x y z [] = not (due x y z)
fine x y z (b ∷ w) = not (off x y z b) && fine y z b w

-- the byte after the three from i on is out of place
unfoldable pub off_after : List ℕ → ℕ → Bool
off_after s i = off (get_or s i 0) (get_or s (i + 1) 0) (get_or s (i + 2) 0) (get_or s (i + 3) 0)

-- after the first three no byte is out of place
pub record InPlace (s : List ℕ) : Type 0 where
  pub each : (i : ℕ) → i + 3 < length s → off_after s i ≡ false

-- t is the text after three bytes 0, and before others, so far as 22 bytes go
pub record Padded (s t : List ℕ) : Type 0 where
  pub long : length t ≡ 22
  pub each : (i : ℕ) → i < 22 → get_or t i 0 ≡ get_or (0 ∷ 0 ∷ 0 ∷ s) i 0

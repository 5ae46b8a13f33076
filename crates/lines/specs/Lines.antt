-- The line and the column of a place, both from 1. These rules are ours, not the Rust's; what ends a line is W3C XML 1.0, section 2.11:
-- a CR, an LF, or the two together. A place past the end counts as the end. Assumes nothing.
use Rattle.std.specs.Prelude.{Bool, ◌&&◌, ◌||◌, not, List, [], ◌∷◌, ℕ, suc, ◌+◌, eqb, take}
use Rattle.spec.specs.Basics.{pick}
use Rattle.spec.specs.Reading.Checks.{all_of}
use Rattle.spec.specs.Reading.Utf8.{tail}

-- a CR ends a line, and so does an LF, but not one that a CR stands directly before: b is the byte, a the one before it
abbrev pub ends_line : ℕ → ℕ → Bool
ends_line a b = eqb b 13 || eqb b 10 && not (eqb a 13)

-- how many lines end in a text before which a stands
unfoldable pub line_ends : ℕ → List ℕ → ℕ
line_ends a [] = 0
line_ends a (b ∷ w) = pick (ends_line a b) (suc (line_ends b w)) (line_ends b w)

-- a byte that stands on a line: neither CR nor LF
abbrev pub on_line : ℕ → Bool
on_line b = not (eqb b 13 || eqb b 10)

-- what stands after the last CR or LF; the whole text, where there is none
unfoldable pub last_line : List ℕ → List ℕ
last_line [] = []
last_line (b ∷ w) = pick (all_of on_line (b ∷ w)) (b ∷ w) (last_line w)

-- how many characters stand in a text; a character counts at the byte that begins it, and no tail of UTF-8 does
unfoldable pub characters : List ℕ → ℕ
characters [] = 0
characters (b ∷ w) = pick (tail b) (characters w) (suc (characters w))

-- the lines that end before the place, and one more
unfoldable pub line : List ℕ → ℕ → ℕ
line w at = 1 + line_ends 0 (take at w)

-- the characters before the place on its line, and one more
unfoldable pub column : List ℕ → ℕ → ℕ
column w at = 1 + characters (last_line (take at w))

-- UTF-8, RFC 3629: a strict reader of one code point. Assumes nothing.
use Rattle.std.specs.Prelude.{Bool, ◌&&◌, ◌||◌, List, [], ◌∷◌, ℕ, ◌+◌, ◌*◌, ◌%◌, eqb, ltb, get_or}
use Rattle.spec.specs.Basics.{pick, within}

-- what stands first in some bytes: a code point and its width, or no code point
pub data Point : Type 0 where
  point : ℕ → ℕ → Point
  no_point : Point

-- section 4: UTF8-tail = %x80-BF
abbrev pub tail : ℕ → Bool
tail = within 0x80 0xBF

-- UTF8-2 = %xC2-DF UTF8-tail
abbrev pub two : ℕ → ℕ → Bool
two a b = within 0xC2 0xDF a && tail b

-- UTF8-3 = %xE0 %xA0-BF UTF8-tail / %xE1-EC 2( UTF8-tail ) / %xED %x80-9F UTF8-tail / %xEE-EF 2( UTF8-tail )
abbrev pub lead_3 : ℕ → ℕ → Bool
lead_3 a b =
    eqb a 0xE0 && within 0xA0 0xBF b || within 0xE1 0xEC a && tail b || eqb a 0xED && within 0x80 0x9F b || within 0xEE 0xEF a && tail b

abbrev pub three : ℕ → ℕ → ℕ → Bool
three a b c = lead_3 a b && tail c

-- UTF8-4 = %xF0 %x90-BF 2( UTF8-tail ) / %xF1-F3 3( UTF8-tail ) / %xF4 %x80-8F 2( UTF8-tail )
abbrev pub lead_4 : ℕ → ℕ → Bool
lead_4 a b = eqb a 0xF0 && within 0x90 0xBF b || within 0xF1 0xF3 a && tail b || eqb a 0xF4 && within 0x80 0x8F b

abbrev pub four : ℕ → ℕ → ℕ → ℕ → Bool
four a b c d = lead_4 a b && tail c && tail d

-- section 3: the bits x of 0xxxxxxx, 110xxxxx 10xxxxxx, 1110xxxx 10xxxxxx 10xxxxxx, 11110xxx 10xxxxxx 10xxxxxx 10xxxxxx
unfoldable pub decode4 : ℕ → ℕ → ℕ → ℕ → Point
decode4 a b c d =
    pick (ltb a 0x80) (point a 1)
    (pick (two a b) (point (a % 32 * 64 + b % 64) 2)
    (pick (three a b c) (point (a % 16 * 4096 + b % 64 * 64 + c % 64) 3)
    (pick (four a b c d) (point (a % 8 * 262144 + b % 64 * 4096 + c % 64 * 64 + d % 64) 4) no_point)))

-- the code point that bytes begin with; a byte past the end counts as 0, which is no tail
unfoldable pub decode1 : List ℕ → Point
decode1 [] = no_point
decode1 (a ∷ w) = decode4 a (get_or w 0 0) (get_or w 1 0) (get_or w 2 0)

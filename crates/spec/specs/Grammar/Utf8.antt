-- UTF-8, RFC 3629: the bytes of a code point. Assumes nothing.
use Rattle.std.specs.Prelude.{Bool, ◌||◌, List, [], ◌∷◌, ℕ, ◌+◌, ◌/◌, ◌%◌, leb, ltb}
use Rattle.spec.specs.Basics.{pick, within}

-- section 3: U+0000 to U+10FFFF without the surrogates
abbrev pub scalar : ℕ → Bool
scalar c = leb c 0xD7FF || within 0xE000 0x10FFFF c

-- section 3: the four rows of the table
unfoldable pub encode : ℕ → List ℕ
encode c =
    pick (ltb c 0x80) (c ∷ [])
    (pick (ltb c 0x800) ((0xC0 + c / 64) ∷ (0x80 + c % 64) ∷ [])
    (pick (ltb c 0x10000) ((0xE0 + c / 4096) ∷ (0x80 + c / 64 % 64) ∷ (0x80 + c % 64) ∷ [])
    ((0xF0 + c / 262144) ∷ (0x80 + c / 4096 % 64) ∷ (0x80 + c / 64 % 64) ∷ (0x80 + c % 64) ∷ [])))

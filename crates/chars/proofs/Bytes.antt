-- Bytes that are looked at, and characters. Assumes nothing.
use mathlib.Core.Path.{◌≡◌, ◌∙◌}
use mathlib.Core.Bool.{Bool, true, false, ◌&&◌, ◌||◌, not, or-false, or-true, or_assoc}
use mathlib.Core.List.{List, [], ◌∷◌}
use Prim.Native.Nat.{ℕ, ◌+◌, ◌<◌, ◌≤◌}
use native.Mathlib.Nat.{add-zero}
use lib.Dec.{eqb, leb, ltb}
use lib.ListN.{length, get_or, drop}
use Rattle.std.specs.Prelude.{Ok}
use Rattle.spec.specs.Grammar.Characters.{xml_char}
use Rattle.spec.specs.Reading.Readers.{starts, a_byte}
use Rattle.spec.specs.Reading.Wellformed.{illegal_here}
use Rattle.spec.proofs.Base.Tests.{eqb_no}
use Rattle.spec.proofs.Base.Places.{drop_at, drop_end}
use Rattle.error.specs.Read.{said, read}
use Rattle.error.proofs.Laws.{chain}
use Rattle.chars.specs.Bytes.{suspect, special}

-- a Char of the widest range, and any other; `among` ends with a test that always fails
pub char_wide : (c : ℕ) → (leb 0x20 c && leb c 0xD7FF) ≡ true → true ≡ xml_char c
unfolding xml_char
char_wide c e = rw e (simp or-true)

pub char_is : (c : ℕ) → (leb 0x20 c && leb c 0xD7FF) ≡ false → eqb c 0x9 || eqb c 0xA || eqb c 0xD || leb 0xE000 c && leb c 0xFFFD || leb 0x10000 c && leb c 0x10FFFF ≡ xml_char c
unfolding xml_char
char_is c e = rw e (simp (or-false, or_assoc))

pub suspect_is : (b : ℕ) → ltb b 0x20 && not (eqb b 0x9 || eqb b 0xA || eqb b 0xD) || eqb b 0xEF ≡ suspect b
unfolding suspect
suspect_is b = simp (or-false, or_assoc)

pub special_is : (mark b : ℕ) (t : Bool) → t ≡ suspect b → t || eqb b 0x26 || eqb b mark ≡ special mark b
unfolding special
special_is mark b t e = rw e

-- the next byte
pub byte_here : (s : List ℕ) (i : ℕ) → i < length s → said (Ok (i + 1)) ≡ read a_byte s i
unfolding read said a_byte
byte_here s i h = rw (drop_at s i h)

pub byte_none : (s : List ℕ) (i : ℕ) → length s ≤ i → said (Ok i) ≡ read a_byte s i
unfolding read said a_byte
byte_none s i h = rw (drop_end s i h, add-zero)

-- an illegal character begins with a suspect byte
pub illegal_none : (s : List ℕ) (i : ℕ) → length s ≤ i → false ≡ illegal_here (drop i s)
unfolding illegal_here
illegal_none s i h = rw (drop_end s i h)

pub illegal_control : (s : List ℕ) (i : ℕ) (t : Bool) → i < length s → (get_or s i 0 ≡ 0xEF → ⊥) → t ≡ suspect (get_or s i 0) → t ≡ illegal_here (drop i s)
unfolding suspect illegal_here starts
illegal_control s i t h n e = e ∙ (rw (drop_at s i h) (simp (eqb_no (get_or s i 0) 0xEF n, or-false)))

pub illegal_three : (s : List ℕ) (i : ℕ) (t u : Bool) → i < length s → get_or s i 0 ≡ 0xEF → t ≡ starts (0xEF ∷ 0xBF ∷ 0xBE ∷ []) (drop i s) → u ≡ starts (0xEF ∷ 0xBF ∷ 0xBF ∷ []) (drop i s)
    → t || u ≡ illegal_here (drop i s)
unfolding illegal_here
illegal_three s i t u h e a b = rw (a, b, drop_at s i h, e)

-- what code over single bytes searches
pub ruleset bytes = (char_wide, char_is, suspect_is, special_is, byte_here, byte_none, illegal_none, illegal_control, illegal_three, chain)

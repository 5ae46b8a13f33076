-- Languages over bytes, written as in the EBNF of W3C XML 1.0, section 6. Assumes nothing.
use Rattle.std.specs.Prelude.{◌≡◌, Bool, true, false, ◌||◌, not, List, [], ◌∷◌, ◌++◌, ℕ, zero, suc, T, eqb}
use Prim.Native.Char.{code}
use Prim.Native.String.{String, len, char_at}
use Rattle.spec.specs.Grammar.Utf8.{encode, scalar}

-- A text is its bytes; a language says which texts belong to it.
abbrev pub Lang : Type 1
Lang = List ℕ → Type 0

-- the bytes of an ASCII literal
abbrev pub ascii_from : ℕ → String → ℕ → List ℕ
ascii_from zero s i = []
ascii_from (suc n) s i = code (char_at s i) ∷ ascii_from n s (suc i)

abbrev pub ascii : String → List ℕ
ascii s = ascii_from (len s) s 0

-- "…": exactly these bytes
abbrev pub lit : String → Lang
lit s w = w ≡ ascii s

-- the UTF-8 bytes of one code point of the class
pub record Ch (P : ℕ → Bool) (w : List ℕ) : Type 0 where
  pub char : ℕ
  pub is_scalar : T (scalar char)
  pub in_class : T (P char)
  pub bytes : w ≡ encode char

-- L M
infixr 60 ◌·◌
pub record ◌·◌ (L M : Lang) (w : List ℕ) : Type 0 where
  pub left : List ℕ
  pub right : List ℕ
  pub split : w ≡ left ++ right
  pub first : L left
  pub second : M right

-- L | M
infixr 50 ◌∣◌
pub data ◌∣◌ (L M : Lang) (w : List ℕ) : Type 0 where
  inl : L w → (◌∣◌ L M) w
  inr : M w → (◌∣◌ L M) w

-- L - M
infix 55 ◌∖◌
abbrev pub ◌∖◌ : Lang → Lang → Lang
(L ∖ M) w = L w × (M w → ⊥)

-- L and M
infix 55 ◌&◌
abbrev pub ◌&◌ : Lang → Lang → Lang
(L & M) w = L w × M w

-- nothing at all
abbrev pub none : Lang
none w = ⊥

-- L*
pub data Star (L : Lang) : List ℕ → Type 0 where
  end : {w : List ℕ} → w ≡ [] → Star L w
  more : {w : List ℕ} (u v : List ℕ) → w ≡ u ++ v → L u → Star L v → Star L w

-- L+ and L?
abbrev pub Plus : Lang → Lang
Plus L = L · Star L

abbrev pub Opt : Lang → Lang
Opt L = L ∣ (λ w. w ≡ [])

-- classes of code points: all; the signs of an ASCII literal; all but those
abbrev pub any : ℕ → Bool
any c = true

abbrev pub among : List ℕ → ℕ → Bool
among [] c = false
among (b ∷ bs) c = eqb c b || among bs c

abbrev pub one_of : String → ℕ → Bool
one_of s = among (ascii s)

abbrev pub none_of : String → ℕ → Bool
none_of s c = not (one_of s c)

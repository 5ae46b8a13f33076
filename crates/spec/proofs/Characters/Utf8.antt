-- A scalar value's bytes read back, and what is read is a scalar value's bytes. Assumes nothing.
use mathlib.Core.Path.{◌≡◌, refl, sym, ◌∙◌, ap}
use mathlib.Core.Logic.{◌⊎◌, inl, inr, ⊎_elim}
use mathlib.Core.Bool.{Bool, true, false, ◌&&◌, ◌||◌}
use mathlib.Core.List.{List, [], ◌∷◌, ◌++◌}
use Prim.Native.Nat.{ℕ, suc, ◌+◌, ◌*◌, ◌/◌, ◌%◌, ◌≤◌, ◌<◌}
use native.Mathlib.Omega.{arith}
use borrow.Author.Tests.{eqb-false}
use lib.Dec.{leb, ltb, eqb}
use lib.ListN.{length, get_or, drop, length-append}
use Rattle.spec.specs.Basics.{pick, within}
use Rattle.spec.specs.Grammar.Utf8.{scalar, encode}
use Rattle.spec.specs.Reading.Readers.{ok, err, of_point, char}
use Rattle.spec.specs.Reading.Refusals.{Refusal}
use Rattle.spec.specs.Reading.Utf8.{point, no_point, tail, two, lead_3, three, lead_4, four, decode4, decode1, Point}
use Rattle.spec.proofs.Base.Results.{err_ok, else_refused, by_pick}
use Rattle.spec.proofs.Base.Tests.{decide, leb_yes, leb_no, leb_true, leb_false, eqb-true, eqb_no, and_left, and_right, or_cases, within_yes, within_high, within_lo, within_hi}
use Rattle.spec.proofs.Base.Places.{byte_in, drop_at}

-- section 3: the four rows of the table
pub encode_1 : (c : ℕ) → c < 0x80 → encode c ≡ c ∷ []
unfolding encode
encode_1 c h = rw (leb_yes (suc c) 0x80 h)

pub encode_2 : (c : ℕ) → 0x80 ≤ c → c < 0x800 → encode c ≡ (0xC0 + c / 64) ∷ (0x80 + c % 64) ∷ []
unfolding encode
encode_2 c h g = rw (leb_no (suc c) 0x80 (omega arith), leb_yes (suc c) 0x800 g)

pub encode_3 : (c : ℕ) → 0x800 ≤ c → c < 0x10000 → encode c ≡ (0xE0 + c / 4096) ∷ (0x80 + c / 64 % 64) ∷ (0x80 + c % 64) ∷ []
unfolding encode
encode_3 c h g = rw (leb_no (suc c) 0x80 (omega arith), leb_no (suc c) 0x800 (omega arith), leb_yes (suc c) 0x10000 g)

pub encode_4 : (c : ℕ) → 0x10000 ≤ c → encode c ≡ (0xF0 + c / 262144) ∷ (0x80 + c / 4096 % 64) ∷ (0x80 + c / 64 % 64) ∷ (0x80 + c % 64) ∷ []
unfolding encode
encode_4 c h = rw (leb_no (suc c) 0x80 (omega arith), leb_no (suc c) 0x800 (omega arith), leb_no (suc c) 0x10000 (omega arith))

-- the row of a code point
pub data Row (c : ℕ) : Type 0 where
  row_1 : c < 0x80 → Row c
  row_2 : 0x80 ≤ c → c < 0x800 → Row c
  row_3 : 0x800 ≤ c → c < 0x10000 → Row c
  row_4 : 0x10000 ≤ c → Row c

pub row_of : (c : ℕ) → Row c
row_of c = go (decide (ltb c 0x80)) (decide (ltb c 0x800)) (decide (ltb c 0x10000))
  where
    Below : ℕ → Type 0
    Below n = (ltb c n ≡ true) ⊎ (ltb c n ≡ false)

    at_least : (n : ℕ) → ltb c n ≡ false → n ≤ c
    at_least n e = let h : n < suc c = leb_false (suc c) n e in omega arith

    go : Below 0x80 → Below 0x800 → Below 0x10000 → Row c
    go (inl e) x y = row_1 (leb_true (suc c) 0x80 e)
    go (inr d) (inl e) y = row_2 (at_least 0x80 d) (leb_true (suc c) 0x800 e)
    go (inr _) (inr d) (inl e) = row_3 (at_least 0x800 d) (leb_true (suc c) 0x10000 e)
    go (inr _) (inr _) (inr d) = row_4 (at_least 0x10000 d)

-- section 4: what the bytes say, by the alternatives in order
module _ (a b c d : ℕ) where
  pub decode4_1 : a < 0x80 → decode4 a b c d ≡ point a 1
  unfolding decode4
  decode4_1 h = rw (leb_yes (suc a) 0x80 h)

  pub decode4_2 : 0x80 ≤ a → two a b ≡ true → decode4 a b c d ≡ point (a % 32 * 64 + b % 64) 2
  unfolding decode4
  decode4_2 h e = rw (leb_no (suc a) 0x80 (omega arith), e)

  pub decode4_3 : 0x80 ≤ a → two a b ≡ false → three a b c ≡ true → decode4 a b c d ≡ point (a % 16 * 4096 + b % 64 * 64 + c % 64) 3
  unfolding decode4
  decode4_3 h e f = rw (leb_no (suc a) 0x80 (omega arith), e, f)

  pub decode4_4 : 0x80 ≤ a → two a b ≡ false → three a b c ≡ false → four a b c d ≡ true
      → decode4 a b c d ≡ point (a % 8 * 262144 + b % 64 * 4096 + c % 64 * 64 + d % 64) 4
  unfolding decode4
  decode4_4 h e f g = rw (leb_no (suc a) 0x80 (omega arith), e, f, g)

  pub decode4_no : 0x80 ≤ a → two a b ≡ false → three a b c ≡ false → four a b c d ≡ false → decode4 a b c d ≡ no_point
  unfolding decode4
  decode4_no h e f g = rw (leb_no (suc a) 0x80 (omega arith), e, f, g)

-- the tests of UTF8-2, UTF8-3 and UTF8-4, from facts
pub two_yes : (a b : ℕ) → 0xC2 ≤ a → a ≤ 0xDF → tail b ≡ true → two a b ≡ true
two_yes a b h g t = rw (within_yes 0xC2 0xDF a h g, t)

pub two_no : (a b : ℕ) → 0xE0 ≤ a → two a b ≡ false
two_no a b h = rw (within_high 0xC2 0xDF a (omega arith))

pub three_no : (a b c : ℕ) → 0xF0 ≤ a → three a b c ≡ false
three_no a b c h =
    rw (
      eqb_no a 0xE0 (λ e. omega arith),
      within_high 0xE1 0xEC a (omega arith),
      eqb_no a 0xED (λ e. omega arith),
      within_high 0xEE 0xEF a (omega arith),
    )

pub lead_3_yes : (a b : ℕ) → 0xE0 ≤ a → a ≤ 0xEF → 0x80 ≤ b → b ≤ 0xBF → (a ≡ 0xE0 → 0xA0 ≤ b) → (a ≡ 0xED → b ≤ 0x9F) → lead_3 a b ≡ true
lead_3_yes a b h g l m f k = go (eqb a 0xE0) refl (eqb a 0xED) refl (leb a 0xEC) refl
  where
    go : (t : Bool) → eqb a 0xE0 ≡ t → (u : Bool) → eqb a 0xED ≡ u → (v : Bool) → leb a 0xEC ≡ v → lead_3 a b ≡ true
    go true e u d v c = rw (e, within_yes 0xA0 0xBF b (f (eqb-true a 0xE0 e)) m)
    go false e true d v c =
        let q : a ≡ 0xED = eqb-true a 0xED d in
        rw (e, d, within_high 0xE1 0xEC a (omega arith), within_yes 0x80 0x9F b l (k q))
    go false e false d true c =
        let n : a ≡ 0xE0 → ⊥ = eqb-false a 0xE0 e in
        rw (e, within_yes 0xE1 0xEC a (omega arith) (leb_true a 0xEC c), within_yes 0x80 0xBF b l m)
    go false e false d false c =
        let n : a ≡ 0xED → ⊥ = eqb-false a 0xED d in
        let q : 0xEC < a = leb_false a 0xEC c in
        rw (e, d, within_high 0xE1 0xEC a q, within_yes 0xEE 0xEF a (omega arith) g, within_yes 0x80 0xBF b l m)

pub lead_4_yes : (a b : ℕ) → 0xF0 ≤ a → a ≤ 0xF4 → 0x80 ≤ b → b ≤ 0xBF → (a ≡ 0xF0 → 0x90 ≤ b) → (a ≡ 0xF4 → b ≤ 0x8F) → lead_4 a b ≡ true
lead_4_yes a b h g l m f k = go (eqb a 0xF0) refl (eqb a 0xF4) refl
  where
    go : (t : Bool) → eqb a 0xF0 ≡ t → (u : Bool) → eqb a 0xF4 ≡ u → lead_4 a b ≡ true
    go true e u d = rw (e, within_yes 0x90 0xBF b (f (eqb-true a 0xF0 e)) m)
    go false e true d =
        let q : a ≡ 0xF4 = eqb-true a 0xF4 d in
        rw (e, d, within_high 0xF1 0xF3 a (omega arith), within_yes 0x80 0x8F b l (k q))
    go false e false d =
        let n : a ≡ 0xF0 → ⊥ = eqb-false a 0xF0 e in
        let o : a ≡ 0xF4 → ⊥ = eqb-false a 0xF4 d in
        rw (e, within_yes 0xF1 0xF3 a (omega arith) (omega arith), within_yes 0x80 0xBF b l m)

-- a scalar value is no surrogate
pub scalar_cases : (c : ℕ) → scalar c ≡ true → (c ≤ 0xD7FF) ⊎ ((0xE000 ≤ c) × (c ≤ 0x10FFFF))
scalar_cases c e =
    ⊎_elim (λ f. inl (leb_true c 0xD7FF f)) (λ f. inr (within_lo 0xE000 0x10FFFF c f, within_hi 0xE000 0x10FFFF c f))
    (or_cases (leb c 0xD7FF) (within 0xE000 0x10FFFF c) e)

scalar_is : (c : ℕ) → (0xD7FF < c → 0xE000 ≤ c) → c ≤ 0x10FFFF → scalar c ≡ true
scalar_is c f h = go (leb c 0xD7FF) refl
  where
    go : (t : Bool) → leb c 0xD7FF ≡ t → t || within 0xE000 0x10FFFF c ≡ true
    go true e = refl
    go false e = within_yes 0xE000 0x10FFFF c (f (leb_false c 0xD7FF e)) h

-- the bytes of each row read back
pub tail_yes : (n : ℕ) → tail (0x80 + n % 64) ≡ true
tail_yes n = within_yes 0x80 0xBF (0x80 + n % 64) (omega arith) (omega arith)

pub decode_1 : (c : ℕ) (v : List ℕ) → c < 0x80 → decode1 (c ∷ v) ≡ point c 1
unfolding decode1
decode_1 c v h = decode4_1 c _ _ _ h

-- its six bits
tail_bits : (n : ℕ) → (0x80 + n % 64) % 64 ≡ n % 64
tail_bits n = omega arith

decode_2 : (c : ℕ) (v : List ℕ) → 0x80 ≤ c → c < 0x800 → decode1 ((0xC0 + c / 64) ∷ (0x80 + c % 64) ∷ v) ≡ point c 2
unfolding decode1
decode_2 c v h g =
    let a : ℕ = 0xC0 + c / 64 in
    let b : ℕ = 0x80 + c % 64 in
    let e : a % 32 * 64 + c % 64 ≡ c = omega arith in
    decode4_2 a b _ _ (omega arith) (two_yes a b (omega arith) (omega arith) (tail_yes c)) ∙ (rw (tail_bits c, e))

decode_3 : (c : ℕ) (v : List ℕ) → 0x800 ≤ c → c < 0x10000 → (c ≤ 0xD7FF) ⊎ ((0xE000 ≤ c) × (c ≤ 0x10FFFF))
    → decode1 ((0xE0 + c / 4096) ∷ (0x80 + c / 64 % 64) ∷ (0x80 + c % 64) ∷ v) ≡ point c 3
unfolding decode1
decode_3 c v h g s =
    let a : ℕ = 0xE0 + c / 4096 in
    let b : ℕ = 0x80 + c / 64 % 64 in
    let x : c / 64 ≡ c / 4096 * 64 + c / 64 % 64 = omega arith in
    let e : a % 16 * 4096 + c / 64 % 64 * 64 + c % 64 ≡ c = omega arith in
    let l : lead_3 a b ≡ true = lead_3_yes a b (omega arith) (omega arith) (omega arith) (omega arith) (λ q. omega arith) (λ q. ⊎_elim (λ m. omega arith) (λ m. omega arith) s) in
    decode4_3 a b (0x80 + c % 64) _ (omega arith) (two_no a b (omega arith)) (rw (l, tail_yes c)) ∙ (rw (tail_bits (c / 64), tail_bits c, e))

decode_4 : (c : ℕ) (v : List ℕ) → 0x10000 ≤ c → c ≤ 0x10FFFF
    → decode1 ((0xF0 + c / 262144) ∷ (0x80 + c / 4096 % 64) ∷ (0x80 + c / 64 % 64) ∷ (0x80 + c % 64) ∷ v) ≡ point c 4
unfolding decode1
decode_4 c v h g =
    let a : ℕ = 0xF0 + c / 262144 in
    let b : ℕ = 0x80 + c / 4096 % 64 in
    let d : ℕ = 0x80 + c / 64 % 64 in
    let m : a % 8 ≡ c / 262144 = omega arith in
    let x : c / 4096 ≡ c / 262144 * 64 + c / 4096 % 64 = omega arith in
    let y : c / 64 ≡ c / 4096 * 64 + c / 64 % 64 = omega arith in
    let e : c / 262144 * 262144 + c / 4096 % 64 * 4096 + c / 64 % 64 * 64 + c % 64 ≡ c = omega arith in
    let l : lead_4 a b ≡ true = lead_4_yes a b (omega arith) (omega arith) (omega arith) (omega arith) (λ q. omega arith) (λ q. omega arith) in
    decode4_4 a b d (0x80 + c % 64) (omega arith) (two_no a b (omega arith)) (three_no a b d (omega arith)) (rw (l, tail_yes (c / 64), tail_yes c))
    ∙ (rw (m, tail_bits (c / 4096), tail_bits (c / 64), tail_bits c, e))

-- the bytes of a scalar value read back as it
pub decode_encode : (c : ℕ) (v : List ℕ) → scalar c ≡ true → decode1 (encode c ++ v) ≡ point c (length (encode c))
decode_encode c v s = go (row_of c)
  where
    go : Row c → decode1 (encode c ++ v) ≡ point c (length (encode c))
    go (row_1 g) = rw (encode_1 c g) (decode_1 c v g)
    go (row_2 h g) = rw (encode_2 c h g) (decode_2 c v h g)
    go (row_3 h g) = rw (encode_3 c h g) (decode_3 c v h g (scalar_cases c s))
    go (row_4 h) = let g : c ≤ 0x10FFFF = ⊎_elim (λ m. omega arith) (λ m. m.1) (scalar_cases c s) in rw (encode_4 c h) (decode_4 c v h g)

pub no_point≢point : {c k : ℕ} → no_point ≡ point c k → ⊥
no_point≢point e = let z : ◌≡◌ {A = ℕ} 0 1 = cc in omega arith

pub encode_nonempty : (c : ℕ) → scalar c ≡ true → 0 < length (encode c)
unfolding decode1
encode_nonempty c s = go (encode c) (decode_encode c [] s)
  where
    go : (w : List ℕ) → decode1 (w ++ []) ≡ point c (length w) → 0 < length w
    go [] e = absurd (no_point≢point e)
    go (b ∷ w) e = omega arith

-- what was read: a scalar value's bytes, and what stands after them
pub record Read (c k : ℕ) (w : List ℕ) : Type 0 where
  pub is_scalar : scalar c ≡ true
  pub rest : List ℕ
  pub split : w ≡ encode c ++ rest
  pub size : length (encode c) ≡ k

-- a scalar value n was read, whose bytes are known
read_as : (c k n j : ℕ) (w v bytes : List ℕ) → point n j ≡ point c k → scalar n ≡ true → encode n ≡ bytes → length bytes ≡ j → w ≡ bytes ++ v → Read c k w
read_as c k n j w v bytes e s f l g =
    let a : n ≡ c = cc in
    let b : j ≡ k = cc in
    record {
      is_scalar = rw a at s;
      rest = v;
      split = g ∙ ap (λ (x : List ℕ). x ++ v) (sym f ∙ ap encode a);
      size = ap length (ap encode (sym a) ∙ f) ∙ l ∙ b;
    }

pub tail_says : (b : ℕ) → tail b ≡ true → (0x80 ≤ b) × (b ≤ 0xBF)
tail_says b e = (within_lo 0x80 0xBF b e, within_hi 0x80 0xBF b e)

-- a tail stands in the text, and so does what stands before it
tail_in : (w : List ℕ) (i : ℕ) → tail (get_or w i 0) ≡ true → i < length w
tail_in w i e = byte_in w i (get_or w i 0) refl (λ z. let t = tail_says (get_or w i 0) e in omega arith)

-- bounds of two bytes, from an alternative's tests
record Both (lo hi lo' hi' a b : ℕ) : Type 0 where
  a_lo : lo ≤ a
  a_hi : a ≤ hi
  b_lo : lo' ≤ b
  b_hi : b ≤ hi'

both : (lo hi lo' hi' a b : ℕ) → within lo hi a && within lo' hi' b ≡ true → Both lo hi lo' hi' a b
both lo hi lo' hi' a b e =
    let f = and_left (within lo hi a) (within lo' hi' b) e in
    let g = and_right (within lo hi a) (within lo' hi' b) e in
    record {
      a_lo = within_lo lo hi a f;
      a_hi = within_hi lo hi a f;
      b_lo = within_lo lo' hi' b g;
      b_hi = within_hi lo' hi' b g;
    }

both_eq : (n lo hi a b : ℕ) → eqb a n && within lo hi b ≡ true → Both n n lo hi a b
both_eq n lo hi a b e =
    let f = eqb-true a n (and_left (eqb a n) (within lo hi b) e) in
    both n n lo hi a b (rw (within_yes n n a (omega arith) (omega arith)) (and_right (eqb a n) (within lo hi b) e))

by_or : {C : Type 0} (a b : Bool) → (a ≡ true → C) → (b ≡ true → C) → a || b ≡ true → C
by_or a b f g e = ⊎_elim f g (or_cases a b e)

-- the first two bytes of UTF8-3: no overlong form, no surrogate; and of UTF8-4: no overlong form, nothing past U+10FFFF
record Lead3 (a b : ℕ) : Type 0 where
  bounds : Both 0xE0 0xEF 0x80 0xBF a b
  long : 0x20 ≤ a % 16 * 64 + b % 64
  plain : 0x360 ≤ a % 16 * 64 + b % 64 → 0x380 ≤ a % 16 * 64 + b % 64

lead_3_says : (a b : ℕ) → lead_3 a b ≡ true → Lead3 a b
lead_3_says a b =
    by_or _ _
    (by_or _ _
    (by_or _ _ (λ e. let x = both_eq 0xE0 0xA0 0xBF a b e in omega arith) (λ e. let x = both 0xE1 0xEC 0x80 0xBF a b e in omega arith))
    (λ e. let x = both_eq 0xED 0x80 0x9F a b e in omega arith))
    (λ e. let x = both 0xEE 0xEF 0x80 0xBF a b e in omega arith)

record Lead4 (a b : ℕ) : Type 0 where
  bounds : Both 0xF0 0xF4 0x80 0xBF a b
  long : 0x10 ≤ a % 8 * 64 + b % 64
  top : a % 8 * 64 + b % 64 ≤ 0x10F

lead_4_says : (a b : ℕ) → lead_4 a b ≡ true → Lead4 a b
lead_4_says a b =
    by_or _ _
    (by_or _ _ (λ e. let x = both_eq 0xF0 0x90 0xBF a b e in omega arith) (λ e. let x = both 0xF1 0xF3 0x80 0xBF a b e in omega arith))
    (λ e. let x = both_eq 0xF4 0x80 0x8F a b e in omega arith)

-- what each alternative reads
module _ (c k : ℕ) (w v : List ℕ) (a b : ℕ) where
  read_2 : w ≡ a ∷ b ∷ v → two a b ≡ true → point (a % 32 * 64 + b % 64) 2 ≡ point c k → Read c k w
  read_2 s f e =
      let n : ℕ = a % 32 * 64 + b % 64 in
      let x = both 0xC2 0xDF 0x80 0xBF a b f in
      let p : 0xC0 + n / 64 ≡ a = omega arith in
      let q : 0x80 + n % 64 ≡ b = omega arith in
      read_as c k n 2 w v (a ∷ b ∷ []) e (scalar_is n (λ t. omega arith) (omega arith)) (encode_2 n (omega arith) (omega arith) ∙ (λ i. p i ∷ q i ∷ [])) refl s

  read_3 : (d : ℕ) → w ≡ a ∷ b ∷ d ∷ v → three a b d ≡ true → point (a % 16 * 4096 + b % 64 * 64 + d % 64) 3 ≡ point c k → Read c k w
  read_3 d s f e =
      let n : ℕ = a % 16 * 4096 + b % 64 * 64 + d % 64 in
      let x = lead_3_says a b (and_left (lead_3 a b) (tail d) f) in
      let y = tail_says d (and_right (lead_3 a b) (tail d) f) in
      let m : n / 64 ≡ a % 16 * 64 + b % 64 = omega arith in
      let p : 0xE0 + n / 4096 ≡ a = omega arith in
      let q : 0x80 + n / 64 % 64 ≡ b = omega arith in
      let r : 0x80 + n % 64 ≡ d = omega arith in
      read_as c k n 3 w v (a ∷ b ∷ d ∷ []) e (scalar_is n (λ t. let z = x.plain (omega arith) in omega arith) (omega arith))
      (encode_3 n (omega arith) (omega arith) ∙ (λ i. p i ∷ q i ∷ r i ∷ [])) refl s

  read_4 : (d g : ℕ) → w ≡ a ∷ b ∷ d ∷ g ∷ v → four a b d g ≡ true → point (a % 8 * 262144 + b % 64 * 4096 + d % 64 * 64 + g % 64) 4 ≡ point c k → Read c k w
  read_4 d g s f e =
      let n : ℕ = a % 8 * 262144 + b % 64 * 4096 + d % 64 * 64 + g % 64 in
      let l = and_left (lead_4 a b && tail d) (tail g) f in
      let x = lead_4_says a b (and_left (lead_4 a b) (tail d) l) in
      let y = tail_says d (and_right (lead_4 a b) (tail d) l) in
      let z = tail_says g (and_right (lead_4 a b && tail d) (tail g) f) in
      let m : n / 64 ≡ a % 8 * 4096 + b % 64 * 64 + d % 64 = omega arith in
      let o : n / 4096 ≡ a % 8 * 64 + b % 64 = omega arith in
      let p : 0xF0 + n / 262144 ≡ a = omega arith in
      let q : 0x80 + n / 4096 % 64 ≡ b = omega arith in
      let r : 0x80 + n / 64 % 64 ≡ d = omega arith in
      let t : 0x80 + n % 64 ≡ g = omega arith in
      read_as c k n 4 w v (a ∷ b ∷ d ∷ g ∷ []) e (scalar_is n (λ j. omega arith) (omega arith))
      (encode_4 n (omega arith) ∙ (λ i. p i ∷ q i ∷ r i ∷ t i ∷ [])) refl s

pub decode_read : (c k : ℕ) (w : List ℕ) → decode1 w ≡ point c k → Read c k w
unfolding decode1 decode4
decode_read c k [] e = absurd (no_point≢point e)
decode_read c k (a ∷ w) e =
    by_pick (ltb a 0x80) (point a 1) _ _
    (λ t e.
    let h : a < 0x80 = leb_true (suc a) 0x80 t in
    read_as c k a 1 (a ∷ w) w (a ∷ []) e (scalar_is a (λ j. omega arith) (omega arith)) (encode_1 a h) refl refl)
    (λ _. by_pick (two a (get_or w 0 0)) (point _ 2) _ _
    (λ t e.
    let h = tail_in w 0 (and_right (within 0xC2 0xDF a) (tail (get_or w 0 0)) t) in
    read_2 c k (a ∷ w) (drop 1 w) a (get_or w 0 0) (rw (← drop_at w 0 h)) t e)
    (λ _. by_pick (three a (get_or w 0 0) (get_or w 1 0)) (point _ 3) _ _
    (λ t e.
    let h = tail_in w 1 (and_right (lead_3 a (get_or w 0 0)) (tail (get_or w 1 0)) t) in
    read_3 c k (a ∷ w) (drop 2 w) a (get_or w 0 0) (get_or w 1 0) (rw (← drop_at w 1 h, ← drop_at w 0 (omega arith))) t e)
    (λ _. by_pick (four a (get_or w 0 0) (get_or w 1 0) (get_or w 2 0)) (point _ 4) no_point _
    (λ t e.
    let h = tail_in w 2 (and_right (lead_4 a (get_or w 0 0) && tail (get_or w 1 0)) (tail (get_or w 2 0)) t) in
    read_4 c k (a ∷ w) (drop 3 w) a (get_or w 0 0) (get_or w 1 0) (get_or w 2 0) (rw (← drop_at w 2 h, ← drop_at w 1 (omega arith), ← drop_at w 0 (omega arith))) t e)
    (λ _ e. absurd (no_point≢point e))))) e

-- one character: what it took was a code point of the class
pub char_point : (p : ℕ → Bool) (n : Refusal) (w : List ℕ) (k : ℕ) → char p n w ≡ ok k → (c : ℕ) × (decode1 w ≡ point c k) × (p c ≡ true)
unfolding char
char_point p n w k = go (decode1 w) refl
  where
    go : (x : Point) → decode1 w ≡ x → of_point x (λ c k. pick (p c) (ok k) (err n 0)) (err n 0) ≡ ok k → (c : ℕ) × (decode1 w ≡ point c k) × (p c ≡ true)
    go (point c j) e g = let (f, h) = else_refused n 0 (p c) (ok j) k g in (c, cc, f)
    go no_point e g = absurd (err_ok n k g)

-- its bytes, one or more, stand in the text
pub point_size : (c k : ℕ) (w : List ℕ) → decode1 w ≡ point c k → (0 < k) × (k ≤ length w)
point_size c k w e =
    let r : Read c k w = decode_read c k w e in
    let n = encode_nonempty c r.is_scalar in
    let l = ap length r.split ∙ length-append (encode c) r.rest in
    let s = r.size in
    (omega arith, omega arith)

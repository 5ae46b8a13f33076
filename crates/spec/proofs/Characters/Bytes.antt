-- The bytes of characters: above ASCII, tails, and bytes that a text does not have. Assumes nothing.
use mathlib.Core.Logic
use mathlib.Core.Bool.{Bool, true, false, ◌&&◌, ◌||◌, not, true≢false, and_assoc}
use mathlib.Core.List.{List, [], ◌∷◌, ◌++◌}
use mathlib.Core.Logic.{◌⊎◌}
use mathlib.Core.Path.{◌≡◌, refl, sym, ◌∙◌, ap, subst}
use Prim.Native.Nat.{ℕ, suc, ◌+◌, ◌/◌, ◌%◌, ◌≤◌, ◌<◌}
use native.Mathlib.Omega.{arith}
use lib.Dec.{T, leb, ltb, eqb}
use lib.ListN.{length, length-append}
use Rattle.spec.specs.Grammar.Languages.{Ch, Star, end, more, any, among}
use Rattle.spec.specs.Grammar.Utf8.{encode}
use Rattle.spec.specs.Reading.Utf8.{tail}
use Rattle.spec.proofs.Base.Tests.{T→true, true→T, false→no, decide, leb_yes, leb_true, leb_false, eqb_yes, eqb_no, and_left, and_right, within_lo, not-true, no→false}
use Rattle.spec.proofs.Characters.Utf8.{encode_1, encode_2, encode_3, encode_4, tail_yes, Row, row_1, row_2, row_3, row_4, row_of}

-- bytes that are all above ASCII
abbrev pub all_high : List ℕ → Bool
all_high [] = true
all_high (b ∷ bs) = leb 128 b && all_high bs

pub high_encode : (c : ℕ) → 128 ≤ c → T (all_high (encode c))
high_encode c l = go (row_of c)
  where
    tail_high : (n : ℕ) → leb 128 (0x80 + n % 64) ≡ true
    tail_high n = leb_yes 128 (0x80 + n % 64) (omega arith)

    go : Row c → T (all_high (encode c))
    go (row_1 g) = absurd (omega arith)
    go (row_2 h g) = rw (encode_2 c h g, leb_yes 128 (0xC0 + c / 64) (omega arith), tail_high c) tt
    go (row_3 h g) = rw (encode_3 c h g, leb_yes 128 (0xE0 + c / 4096) (omega arith), tail_high (c / 64), tail_high c) tt
    go (row_4 h) = rw (encode_4 c h, leb_yes 128 (0xF0 + c / 262144) (omega arith), tail_high (c / 4096), tail_high (c / 64), tail_high c) tt

pub high_head : (b : ℕ) (bs : List ℕ) → T (all_high (b ∷ bs)) → 128 ≤ b
high_head b bs h = leb_true 128 b (and_left (leb 128 b) (all_high bs) (T→true (all_high (b ∷ bs)) h))

pub high_tail : (b : ℕ) (bs : List ℕ) → T (all_high (b ∷ bs)) → T (all_high bs)
high_tail b bs h = true→T (all_high bs) (and_right (leb 128 b) (all_high bs) (T→true (all_high (b ∷ bs)) h))

-- a character is one ASCII byte, or bytes above ASCII
pub data Sized {p : ℕ → Bool} {x : List ℕ} (c : Ch p x) : Type 0 where
  low : c.char < 128 → x ≡ c.char ∷ [] → Sized c
  high : 128 ≤ c.char → T (all_high x) → Sized c

pub sized : {p : ℕ → Bool} {x : List ℕ} (c : Ch p x) → Sized c
sized c = go (decide (ltb c.char 128))
  where
    go : (ltb c.char 128 ≡ true) ⊎ (ltb c.char 128 ≡ false) → Sized c
    go (Logic.inl t) = let l = leb_true (suc c.char) 128 t in low l (c.bytes ∙ encode_1 c.char l)
    go (Logic.inr t) = let g : 128 < suc c.char = leb_false (suc c.char) 128 t in high (omega arith) (rw c.bytes (high_encode c.char (omega arith)))

-- an ASCII byte stands after bytes above ASCII, not among them
pass : (x y u : List ℕ) (a : ℕ) (v : List ℕ) → T (all_high x) → a < 128 → x ++ y ≡ u ++ a ∷ v → (z : List ℕ) × (u ≡ x ++ z) × (y ≡ z ++ a ∷ v)
pass [] y u a v h l e = (u, refl, e)
pass (b ∷ x) y [] a v h l e =
    let f : b ≡ a = cc in
    let g : 128 ≤ b = high_head b x h in
    absurd (omega arith)
pass (b ∷ x) y (d ∷ u) a v h l e =
    let f : x ++ y ≡ u ++ a ∷ v = cc in
    let g : d ≡ b = cc in
    let (z, p, q) = pass x y u a v (high_tail b x h) l f in
    (z, (λ i. g i ∷ p i), q)

-- what stands before an ASCII byte of a text is a text
pub text_front : {w : List ℕ} (u : List ℕ) (a : ℕ) (v : List ℕ) → a < 128 → w ≡ u ++ a ∷ v → Star (Ch any) w → Star (Ch any) u
text_front u a v l e (end f) = let n : length (u ++ a ∷ v) ≡ 0 = ap length (sym e ∙ f) in absurd (omega (arith, length-append u (a ∷ v)))
text_front u a v l e (more x y f c s) = go (sized c) (λ z g. text_front z a v l g s)
  where
    go : Sized c → ((z : List ℕ) → y ≡ z ++ a ∷ v → Star (Ch any) z) → Star (Ch any) u
    go (low t is) ih = ascii_case u (sym (ap (λ (x : List ℕ). x ++ y) is) ∙ sym f ∙ e)
      where
        ascii_case : (u : List ℕ) → c.char ∷ y ≡ u ++ a ∷ v → Star (Ch any) u
        ascii_case [] g = end refl
        ascii_case (b ∷ u) g =
            let p : c.char ≡ b = cc in
            let q : y ≡ u ++ a ∷ v = cc in
            let k : x ≡ b ∷ [] = is ∙ ap (λ (z : ℕ). z ∷ []) p in
            more x u (sym (ap (λ (z : List ℕ). z ++ u) k)) c (ih u q)
    go (high t h) ih = let (z, p, q) = pass x y u a v h l (sym f ∙ e) in more x z p c (ih z q)

-- no byte is a
abbrev pub avoids : ℕ → List ℕ → Bool
avoids a [] = true
avoids a (b ∷ bs) = not (eqb b a) && avoids a bs

pub avoids_head : (a b : ℕ) (u : List ℕ) → avoids a (b ∷ u) ≡ true → eqb b a ≡ false
avoids_head a b u h = not-true (eqb b a) (and_left (not (eqb b a)) (avoids a u) h)

pub avoids_tail : (a b : ℕ) (u : List ℕ) → avoids a (b ∷ u) ≡ true → avoids a u ≡ true
avoids_tail a b u h = and_right (not (eqb b a)) (avoids a u) h

pub avoids_append : (a : ℕ) (u v : List ℕ) → avoids a (u ++ v) ≡ (avoids a u && avoids a v)
avoids_append a [] v = refl
avoids_append a (b ∷ u) v = ap (λ (t : Bool). not (eqb b a) && t) (avoids_append a u v) ∙ sym (and_assoc (not (eqb b a)) (avoids a u) (avoids a v))

pub avoids_high : (a : ℕ) (u : List ℕ) → a < 128 → T (all_high u) → avoids a u ≡ true
avoids_high a [] l h = refl
avoids_high a (b ∷ u) l h = let g : 128 ≤ b = high_head b u h in rw (eqb_no b a (λ e. omega arith), avoids_high a u l (high_tail b u h))

-- a text that has none of some signs
abbrev pub avoids_all : List ℕ → List ℕ → Bool
avoids_all s [] = true
avoids_all s (b ∷ x) = not (among s b) && avoids_all s x

pub avoids_each : (s x : List ℕ) → ((a : ℕ) → among s a ≡ true → avoids a x ≡ true) → avoids_all s x ≡ true
avoids_each s [] h = refl
avoids_each s (b ∷ x) h =
    rw (no→false (among s b) (λ t. true≢false (sym (eqb_yes b b refl) ∙ avoids_head b b x (h b (T→true (among s b) t))))) (avoids_each s x (λ a m. avoids_tail a b x (h a m)))

-- characters of a class without a have no byte a, and the other way round
pub class_avoids : (p : ℕ → Bool) (a : ℕ) → a < 128 → p a ≡ false → {u : List ℕ} → Star (Ch p) u → avoids a u ≡ true
class_avoids p a l n (end e) = rw e
class_avoids p a l n (more x y e c s) = rw (e, avoids_append a x y, class_avoids p a l n s, first (sized c))
  where
    differs : c.char ≡ a → ⊥
    differs f = false→no (p a) n (subst (λ (k : ℕ). T (p k)) f c.in_class)

    first : Sized c → avoids a x ≡ true
    first (low t is) = rw (is, eqb_no c.char a differs)
    first (high t h) = avoids_high a x l h

pub avoids_char : (q p : ℕ → Bool) (a : ℕ) → a < 128 → ((c : ℕ) → T (q c) → (c ≡ a → ⊥) → T (p c)) → {u : List ℕ} → Ch q u → avoids a u ≡ true → Ch p u
avoids_char q p a l in_p c h = record { char = c.char; is_scalar = c.is_scalar; in_class = in_p c.char c.in_class differs; bytes = c.bytes }
  where
    differs : c.char ≡ a → ⊥
    differs k =
        let z : avoids a (a ∷ []) ≡ true = ap (avoids a) (sym (c.bytes ∙ ap encode k ∙ encode_1 a l)) ∙ h in
        let o : not true ≡ true = ap not (sym (eqb_yes a a refl)) ∙ and_left (not (eqb a a)) true z in
        true≢false (sym o)

pub avoids_parted : (a : ℕ) (x y : List ℕ) → avoids a (x ++ y) ≡ true → (avoids a x ≡ true) × (avoids a y ≡ true)
avoids_parted a x y e = let f : (avoids a x && avoids a y) ≡ true = sym (avoids_append a x y) ∙ e in (and_left (avoids a x) (avoids a y) f, and_right (avoids a x) (avoids a y) f)

pub avoids_class : (q p : ℕ → Bool) (a : ℕ) → a < 128 → ((c : ℕ) → T (q c) → (c ≡ a → ⊥) → T (p c)) → {u : List ℕ} → Star (Ch q) u → avoids a u ≡ true → Star (Ch p) u
avoids_class q p a l in_p (end e) h = end e
avoids_class q p a l in_p (more x y e c s) h =
    let (g, i) = avoids_parted a x y (ap (avoids a) (sym e) ∙ h) in
    more x y e (avoids_char q p a l in_p c g) (avoids_class q p a l in_p s i)

pub not_one : (a c : ℕ) → (c ≡ a → ⊥) → T (not (eqb c a || false))
not_one a c f = rw (eqb_no c a f) tt

-- the bytes of a character: the first one, and tails
abbrev pub all_tails : List ℕ → Bool
all_tails [] = true
all_tails (b ∷ bs) = tail b && all_tails bs

pub record Bytes (c : ℕ) : Type 0 where
  pub head : ℕ
  pub tails : List ℕ
  pub are : encode c ≡ head ∷ tails
  pub tailed : all_tails tails ≡ true

pub bytes_of : (c : ℕ) → Bytes c
bytes_of c = go (row_of c)
  where
    go : Row c → Bytes c
    go (row_1 g) = record { head = c; tails = []; are = encode_1 c g; tailed = refl }
    go (row_2 h g) = record { head = _; tails = _; are = encode_2 c h g; tailed = rw (tail_yes c) }
    go (row_3 h g) = record { head = _; tails = _; are = encode_3 c h g; tailed = rw (tail_yes (c / 64), tail_yes c) }
    go (row_4 h) = record { head = _; tails = _; are = encode_4 c h; tailed = rw (tail_yes (c / 4096), tail_yes (c / 64), tail_yes c) }

-- no tail is an ASCII sign
pub tails_avoid : (a : ℕ) (x : List ℕ) → a < 128 → all_tails x ≡ true → avoids a x ≡ true
tails_avoid a [] l h = refl
tails_avoid a (b ∷ x) l h =
    let g : 0x80 ≤ b = within_lo 0x80 0xBF b (and_left (tail b) (all_tails x) h) in
    rw (eqb_no b a (λ e. omega arith), tails_avoid a x l (and_right (tail b) (all_tails x) h))

-- Texts, which are characters one after the other: parts of them, and characters in other classes. Assumes nothing.
use mathlib.Core.Bool.{Bool, true, ◌&&◌}
use mathlib.Core.List.{List, [], ◌∷◌, ◌++◌, append_assoc, append-nil, append_cancel_left}
use mathlib.Core.Path.{◌≡◌, refl, sym, ◌∙◌, ap}
use Prim.Native.Nat.{ℕ, suc, ◌+◌, ◌<◌}
use Prim.Native.String.{String}
use native.Mathlib.Omega.{arith}
use lib.Dec.{T, ltb}
use lib.ListN.{length, length-append}
use Rattle.spec.specs.Grammar.Characters.{Text}
use Rattle.spec.specs.Grammar.Languages.{Lang, Ch, Star, end, more, any, ◌·◌, Plus, lit, ascii}
use Rattle.spec.specs.Grammar.Utf8.{scalar, encode}
use Rattle.spec.specs.Reading.Utf8.{decode1, point}
use Rattle.spec.proofs.Base.Tests.{T→true, true→T, leb_yes, leb_true, and_left, and_right}
use Rattle.spec.proofs.Characters.Utf8.{encode_nonempty, encode_1, decode_encode}

pub star_append : {L : Lang} {u v : List ℕ} → Star L u → Star L v → Star L (u ++ v)
star_append {v = v} (end e) t = rw e t
star_append {v = v} (more x y e l s) t = more x (y ++ v) (ap (λ (z : List ℕ). z ++ v) e ∙ append_assoc x y v) l (star_append s t)

pub star_one : {L : Lang} {u : List ℕ} → L u → Star L u
star_one {u = u} l = more u [] (sym (append-nil u)) l (end refl)

-- each part a text of M's, so the whole is
pub star_bind : {L M : Lang} → ((u : List ℕ) → L u → Star M u) → {u : List ℕ} → Star L u → Star M u
star_bind f (end e) = end e
star_bind f (more x y e l s) = rw e (star_append (f x l) (star_bind f s))

-- one part after the other
pub put : {L M : Lang} (u v : List ℕ) → L u → M v → (L · M) (u ++ v)
put u v l m = record { left = u; right = v; split = refl; first = l; second = m }

-- the size of the whole, and the whole with what stands after it
pub cat_size : {L M : Lang} {u : List ℕ} (c : (L · M) u) → length u ≡ length c.left + length c.right
cat_size c = ap length c.split ∙ length-append c.left c.right

pub cat_before : {L M : Lang} {u : List ℕ} (c : (L · M) u) (v : List ℕ) → u ++ v ≡ c.left ++ (c.right ++ v)
cat_before c v = ap (λ (z : List ℕ). z ++ v) c.split ∙ append_assoc c.left c.right v

-- a part between two words
pub between : (s t : String) {M : Lang} {x : List ℕ} (l : (lit s · M · lit t) x) → x ≡ ascii s ++ (l.second.left ++ ascii t)
between s t l = l.split ∙ (λ i. l.first i ++ (l.second.split ∙ ap (λ (z : List ℕ). l.second.left ++ z) l.second.second) i)

pub plus_star : {L : Lang} {u : List ℕ} → Plus L u → Star L u
plus_star c = more c.left c.right c.split c.first c.second

-- the code point that bytes begin with
pub read_point : (c : ℕ) (v : List ℕ) (d : ℕ) (x : List ℕ) → scalar c ≡ true → scalar d ≡ true → encode c ++ v ≡ encode d ++ x → c ≡ d
read_point c v d x s t e =
    let a : point c (length (encode c)) ≡ point d (length (encode d)) = sym (decode_encode c v s) ∙ ap decode1 e ∙ decode_encode d x t in
    cc

pub text_after : {w : List ℕ} (c : ℕ) (v : List ℕ) → scalar c ≡ true → w ≡ encode c ++ v → Star (Ch any) w → Star (Ch any) v
text_after {w} c v s e (end f) =
    let a : length w ≡ length (encode c) + length v = ap length e ∙ length-append (encode c) v in
    let b : length w ≡ 0 = ap length f in
    let z : 0 < length (encode c) = encode_nonempty c s in
    absurd (omega arith)
text_after {w} c v s e (more x y f l r) =
    let d : ℕ = l.char in
    let same : c ≡ d = read_point c v d y s (T→true (scalar d) l.is_scalar) (sym e ∙ f ∙ ap (λ (z : List ℕ). z ++ y) l.bytes) in
    let g : x ++ y ≡ x ++ v = sym f ∙ e ∙ ap (λ (z : List ℕ). z ++ v) (ap encode same ∙ sym l.bytes) in
    rw (append_cancel_left x y v g) at r

-- the text after one or more characters
pub text_rest : {u : List ℕ} (v : List ℕ) → Star (Ch any) u → Text (u ++ v) → Text v
unfolding Text
text_rest v (end e) t = rw e at t
text_rest {u} v (more x y e l s) t =
    text_rest v s (text_after l.char (y ++ v) (T→true (scalar l.char) l.is_scalar) (ap (λ (z : List ℕ). z ++ v) (e ∙ ap (λ (z : List ℕ). z ++ y) l.bytes) ∙ append_assoc (encode l.char) y v) t)

-- a character of a class, in another class
pub reclass : {p q : ℕ → Bool} {w : List ℕ} (c : Ch p w) → T (q c.char) → Ch q w
reclass c t = record { char = c.char; is_scalar = c.is_scalar; in_class = t; bytes = c.bytes }

pub ch_any : {p : ℕ → Bool} {w : List ℕ} → Ch p w → Ch any w
ch_any c = reclass c tt

pub star_map : {L M : Lang} → ((w : List ℕ) → L w → M w) → {u : List ℕ} → Star L u → Star M u
star_map f (end e) = end e
star_map f (more x y e l s) = more x y e (f x l) (star_map f s)

-- an ASCII byte is a character
abbrev pub all_ascii : List ℕ → Bool
all_ascii [] = true
all_ascii (b ∷ bs) = ltb b 128 && all_ascii bs

pub ascii_char : (p : ℕ → Bool) (b : ℕ) → b < 128 → T (p b) → Ch p (b ∷ [])
ascii_char p b h t = record { char = b; is_scalar = true→T (scalar b) (rw (leb_yes b 0xD7FF (omega arith))); in_class = t; bytes = sym (encode_1 b h) }

pub ascii_text : (s : List ℕ) → T (all_ascii s) → Star (Ch any) s
ascii_text [] h = end refl
ascii_text (b ∷ bs) h =
    more (b ∷ []) bs refl (ascii_char any b (leb_true (suc b) 128 (and_left (ltb b 128) (all_ascii bs) (T→true (all_ascii (b ∷ bs)) h))) tt)
    (ascii_text bs (true→T (all_ascii bs) (and_right (ltb b 128) (all_ascii bs) (T→true (all_ascii (b ∷ bs)) h))))

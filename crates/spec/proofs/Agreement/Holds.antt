-- Where a word stands in a text, and where nowhere: the tests, its first place, and the grammar's "Text word Text". Assumes nothing.
use mathlib.Core.Bool.{Bool, true, false, ◌&&◌, ◌||◌, not, true≢false, and-true}
use mathlib.Core.List.{List, [], ◌∷◌, ◌++◌, append-nil}
use mathlib.Core.Path.{◌≡◌, refl, sym, ◌∙◌, ap, subst}
use Prim.Native.Nat.{ℕ, suc, ◌<◌}
use Prim.Native.String.{String}
use native.Mathlib.Omega.{arith}
use lib.Dec.{T, eqb, ltb}
use lib.ListN.{take, length}
use Rattle.spec.specs.Grammar.Characters.{Text}
use Rattle.spec.specs.Grammar.Languages.{Lang, lit, ascii, Ch, ◌·◌, Star, any}
use Rattle.spec.specs.Grammar.Utf8.{encode}
use Rattle.spec.specs.Reading.Readers.{starts, contains, before}
use Rattle.spec.proofs.Agreement.Words.{found, contains_at, starts_self}
use Rattle.spec.proofs.Base.Results.{by_pick}
use Rattle.spec.proofs.Base.Tests.{or_false_left, or_false_right, T→true, no→false, leb_true, and_left, and_right, not-true}
use Rattle.spec.proofs.Characters.Bytes.{avoids, text_front, Bytes, bytes_of, tails_avoid, avoids_head, avoids_tail}
use Rattle.spec.proofs.Characters.Text.{all_ascii, ascii_text, text_rest}

-- what has not the word's first sign changes nothing
pub contains_avoid : (a : ℕ) (p x y : List ℕ) → avoids a x ≡ true → contains (a ∷ p) (x ++ y) ≡ contains (a ∷ p) y
unfolding contains starts
contains_avoid a p [] y h = refl
contains_avoid a p (b ∷ x) y h = rw (avoids_head a b x h) (contains_avoid a p x y (avoids_tail a b x h))

-- so a text without that sign has not the word, and a text without a word of one sign has not the sign
pub avoids_contains : (a : ℕ) (p u : List ℕ) → avoids a u ≡ true → contains (a ∷ p) u ≡ false
unfolding contains
avoids_contains a p u h = ap (contains (a ∷ p)) (sym (append-nil u)) ∙ contains_avoid a p u [] h

pub contains_avoids : (a : ℕ) (u : List ℕ) → contains (a ∷ []) u ≡ false → avoids a u ≡ true
unfolding contains starts
contains_avoids a [] h = refl
contains_avoids a (b ∷ u) h =
    let e : eqb b a ≡ false = sym (and-true (eqb b a)) ∙ or_false_left (eqb b a && true) (contains (a ∷ []) u) h in
    rw e (contains_avoids a u (or_false_right (eqb b a && true) (contains (a ∷ []) u) h))

-- a word stands at a character, or after it
pub contains_char : (a : ℕ) (p : List ℕ) (c : ℕ) (y : List ℕ) → a < 128 → contains (a ∷ p) (encode c ++ y) ≡ (starts (a ∷ p) (encode c ++ y) || contains (a ∷ p) y)
unfolding contains
contains_char a p c y l =
    let b : Bytes c = bytes_of c in
    rw (b.are, contains_avoid a p b.tails y (tails_avoid a b.tails l b.tailed))

-- what stands nowhere in a text stands nowhere in its end, nor at its start
pub contains_after : (p x y : List ℕ) → contains p (x ++ y) ≡ false → contains p y ≡ false
unfolding contains
contains_after p [] y e = e
contains_after p (b ∷ x) y e = contains_after p x y (or_false_right (starts p (b ∷ (x ++ y))) (contains p (x ++ y)) e)

pub contains_start : (a : ℕ) (p w : List ℕ) → contains (a ∷ p) w ≡ false → starts (a ∷ p) w ≡ false
unfolding contains starts
contains_start a p [] e = refl
contains_start a p (b ∷ w) e = or_false_left (starts (a ∷ p) (b ∷ w)) (contains (a ∷ p) w) e

-- a word that begins a part begins the whole
pub starts_longer : (s x y : List ℕ) → starts s x ≡ true → starts s (x ++ y) ≡ true
unfolding starts
starts_longer [] x y e = refl
starts_longer (a ∷ s) [] y e = absurd (true≢false (sym e))
starts_longer (a ∷ s) (b ∷ x) y e = rw (and_left (eqb b a) (starts s x) e) (starts_longer s x y (and_right (eqb b a) (starts s x) e))

pub starts_shorter : (s x y : List ℕ) → starts s (x ++ y) ≡ false → starts s x ≡ false
starts_shorter s x y e = no→false (starts s x) (λ t. true≢false (sym (starts_longer s x y (T→true (starts s x) t)) ∙ e))

-- a sign that a word has not ends what the word can begin with
abbrev pub lacks : ℕ → List ℕ → Bool
lacks c [] = true
lacks c (a ∷ p) = not (eqb c a) && lacks c p

pub starts_cut : (c : ℕ) (p y r : List ℕ) → lacks c p ≡ true → starts p (y ++ c ∷ r) ≡ starts p y
unfolding starts
starts_cut c [] y r h = refl
starts_cut c (a ∷ p) [] r h = rw (not-true (eqb c a) (and_left (not (eqb c a)) (lacks c p) h))
starts_cut c (a ∷ p) (b ∷ y) r h = ap (λ (t : Bool). eqb b a && t) (starts_cut c p y r (and_right (not (eqb c a)) (lacks c p) h))

-- The first place of a word that has its first sign only once: it is a text's end, where the word stands after the text and nowhere in
-- it, and only there.
module _ (a : ℕ) (p : List ℕ) (once : lacks a p ≡ true) where
  starts_end : (b : ℕ) (u v : List ℕ) → starts (a ∷ p) (b ∷ (u ++ a ∷ v)) ≡ starts (a ∷ p) (b ∷ u)
  unfolding starts
  starts_end b u v = ap (λ (t : Bool). eqb b a && t) (starts_cut a p u v once)

  pub first_after : (u v : List ℕ) → contains (a ∷ p) u ≡ false → before (a ∷ p) (u ++ ((a ∷ p) ++ v)) ≡ length u
  unfolding contains before
  first_after [] v h = rw (starts_self (a ∷ p) v)
  first_after (b ∷ u) v h =
      rw (starts_end b u (p ++ v), or_false_left (starts (a ∷ p) (b ∷ u)) (contains (a ∷ p) u) h)
      (ap suc (first_after u v (or_false_right (starts (a ∷ p) (b ∷ u)) (contains (a ∷ p) u) h)))

  pub after_first : (u v : List ℕ) → before (a ∷ p) (u ++ ((a ∷ p) ++ v)) ≡ length u → contains (a ∷ p) u ≡ false
  unfolding contains before
  after_first [] v h = refl
  after_first (b ∷ u) v h =
      by_pick (starts (a ∷ p) (b ∷ (u ++ ((a ∷ p) ++ v)))) 0 (suc (before (a ∷ p) (u ++ ((a ∷ p) ++ v)))) (suc (length u)) (λ _ e. absurd (omega arith))
      (λ f e. rw (sym (starts_end b u (p ++ v)) ∙ f) (after_first u v (omega arith))) h

-- of a single sign
pub first_sign : (a : ℕ) (u v : List ℕ) → avoids a u ≡ true → before (a ∷ []) (u ++ a ∷ v) ≡ length u
first_sign a u v h = first_after a [] refl u v (avoids_contains a [] u h)

pub sign_first : (a : ℕ) (u v : List ℕ) → before (a ∷ []) (u ++ a ∷ v) ≡ length u → avoids a u ≡ true
sign_first a u v h = contains_avoids a u (after_first a [] refl u v h)

-- the grammar's way to say that a word stands in a text
abbrev pub Holds : String → Lang
Holds s = Text · lit s · Text

module _ (s : String) (a : ℕ) (p : List ℕ) (is : ascii s ≡ a ∷ p) (good : T (all_ascii (a ∷ p))) where
  pub holds_contains : (u : List ℕ) → Holds s u → contains (ascii s) u ≡ true
  holds_contains u c =
      ap (contains (ascii s)) (c.split ∙ ap (λ (z : List ℕ). c.left ++ z) (c.second.split ∙ ap (λ (z : List ℕ). z ++ c.second.right) c.second.first))
      ∙ subst (λ (q : List ℕ). contains q (c.left ++ (q ++ c.second.right)) ≡ true) (sym is) (contains_at a p c.left c.second.right)

  pub contains_holds : (u : List ℕ) → Text u → contains (ascii s) u ≡ true → Holds s u
  unfolding Text
  contains_holds u tu e =
      let (v, f) = found (ascii s) u e in
      let y : List ℕ = take (before (ascii s) u) u in
      let l : a < 128 = leb_true (suc a) 128 (and_left (ltb a 128) (all_ascii p) (T→true (all_ascii (a ∷ p)) good)) in
      let g : u ≡ y ++ ((a ∷ p) ++ v) = f ∙ ap (λ (q : List ℕ). y ++ (q ++ v)) is in
      let ty : Star (Ch any) y = text_front y a (p ++ v) l g tu in
      record {
        left = y;
        right = ascii s ++ v;
        split = f;
        first = ty;
        second = record { left = ascii s; right = v; split = refl; first = refl; second = text_rest v (ascii_text (a ∷ p) good) (text_rest ((a ∷ p) ++ v) ty (subst (Star (Ch any)) g tu)) };
      }

  pub free_holds : (u : List ℕ) → contains (ascii s) u ≡ false → Holds s u → ⊥
  free_holds u e c = true≢false (sym (holds_contains u c) ∙ e)

  pub holds_free : (u : List ℕ) → Text u → (Holds s u → ⊥) → contains (ascii s) u ≡ false
  holds_free u tu f = no→false (contains (ascii s) u) (λ t. f (contains_holds u tu (T→true (contains (ascii s) u) t)))

-- Fixed words: at_keyword's loop, and readers that go by a word. Assumes nothing.
use mathlib.Core.Path.{◌≡◌, refl, sym, ap, ◌∙◌}
use mathlib.Core.Logic.{◌⊎◌, inl, inr}
use mathlib.Core.Bool.{Bool, true, false}
use mathlib.Core.List.{List, [], ◌∷◌}
use Prim.Native.Nat.{ℕ, suc, ◌+◌, ◌-◌, ◌^◌, ◌<◌, ◌≤◌}
use Prim.Native.String.{String}
use native.Mathlib.Nat.{add-zero}
use native.Mathlib.Omega.{arith}
use borrow.Author.Rules.{rules}
use borrow.Author.Tests.{eq-eqb, ne_eqb}
use mir.Syntax.{w64}
use mir.Val.{Fits}
use lib.Dec.{eqb}
use lib.ListN.{length, get_or, take, drop, length-append, length-drop}
use Rattle.std.specs.Prelude.{Ok, Err}
use Rattle.spec.specs.Grammar.Languages.{ascii}
use Rattle.spec.specs.Reading.Refusals.{Refusal}
use Rattle.spec.specs.Reading.Readers.{Reader, ◌>>◌, starts, on, word_of}
use Rattle.spec.proofs.Agreement.Words.{starts_split}
use Rattle.spec.proofs.Base.Places.{drop_at, drop_end, take_rest}
use Rattle.spec.proofs.Base.Tests.{decide, eqb_no}
use Rattle.error.specs.Read.{Said, refused, said, read}
use Rattle.error.specs.declared.Fault.{Fault}
use Rattle.error.proofs.Laws.{seq_no, seq_at, choose_yes, choose_no, chain}

-- a word lies within the text
starts_fit : (kw w : List ℕ) → starts kw w ≡ true → length kw ≤ length w
starts_fit kw w e = let (v, f) = starts_split kw w e in rw (f, length-append) (omega arith)

-- a word from its place j on, in a text that is long enough
module _ (kw s : List ℕ) (j : ℕ) (B : Bool) (inv : starts (drop j kw) (drop j s) ≡ B) where
  pub starts_whole : length kw ≤ j → true ≡ B
  unfolding starts
  starts_whole h = rw (drop_end kw j h) at inv

  module _ (h : j < length kw) (k : length kw ≤ length s) where
    here : j < length s
    here = omega arith

    pub starts_other : (get_or s j 0 ≡ get_or kw j 0 → ⊥) → false ≡ B
    unfolding starts
    starts_other n = rw (drop_at kw j h, drop_at s j here, ne_eqb _ _ n) at inv

    pub starts_more : get_or s j 0 ≡ get_or kw j 0 → starts (drop (j + 1) kw) (drop (j + 1) s) ≡ B
    unfolding starts
    starts_more e = rw (drop_at kw j h, drop_at s j here, eq-eqb _ _ e) at inv

-- the rest of the text at a place
module _ (kw s w : List ℕ) (at : ℕ) (e : w ≡ take (length s - at) (drop at s)) where
  pub starts_from : starts (drop 0 kw) (drop 0 w) ≡ starts kw (drop at s)
  starts_from = rw (e, take_rest s at)

  pub starts_short : length w < length kw → false ≡ starts kw (drop at s)
  starts_short h = go (decide (starts kw (drop at s)))
    where
      go : (starts kw (drop at s) ≡ true) ⊎ (starts kw (drop at s) ≡ false) → false ≡ starts kw (drop at s)
      go (inl t) =
          let f = starts_fit kw (drop at s) t in
          let g : length w ≡ length (drop at s) = ap length (e ∙ take_rest s at) in
          absurd (omega arith)
      go (inr f) = sym f

pub starts_beyond : (kw s : List ℕ) (at : ℕ) (b : Bool) → length s < at → b ≡ eqb (length kw) 0 → b ≡ starts kw (drop at s)
unfolding starts
starts_beyond kw s at b h e = let k : length s ≤ at = omega arith in rw (drop_end s at k) (go kw e)
  where
    go : (k : List ℕ) → b ≡ eqb (length k) 0 → b ≡ starts k []
    go [] f = f
    go (x ∷ k) f = f ∙ eqb_no (suc (length k)) 0 (λ (z : suc (length k) ≡ 0). omega arith)

pub word_fits : (kw s : List ℕ) (at n : ℕ) (b : Bool) → b ≡ starts kw (drop at s) → b ≡ true → n ≡ length kw → 0 < n → length s < 2 ^ 64 → Fits w64 (at + n)
word_fits kw s at n b e f l h g = let v = simp length-drop at (starts_fit kw (drop at s) (sym e ∙ f)) in omega arith

-- the word k stands at a place or not, as b says
module _ (k : String) (s : List ℕ) (at : ℕ) (b : Bool) (e : b ≡ starts (ascii k) (drop at s)) where
  pub on_yes : (A B : Reader) (q : Said) → b ≡ true → q ≡ read A s at → q ≡ read (on k A B) s at
  unfolding on
  on_yes A B q f a = choose_yes (starts (ascii k)) A B s at b q e f a

  pub on_no : (A B : Reader) (q : Said) → b ≡ false → q ≡ read B s at → q ≡ read (on k A B) s at
  unfolding on
  on_no A B q f a = choose_no (starts (ascii k)) A B s at b q e f a

-- the bytes p stand at a place or not, as b says
module _ (p s : List ℕ) (at : ℕ) (b : Bool) (e : b ≡ starts p (drop at s)) (n : Refusal) where
  pub word_yes : b ≡ true → said (Ok (at + length p)) ≡ read (word_of p n) s at
  unfolding read said word_of
  word_yes f = rw (sym e ∙ f)

  pub word_no : (x : Fault) → b ≡ false → said (Err x) ≡ refused n at → said (Err x) ≡ read (word_of p n) s at
  unfolding read word_of
  word_no x f g = g ∙ (rw (sym e ∙ f, add-zero))

  pub word_then : (B : Reader) (q : Said) → b ≡ true → q ≡ read B s (at + length p) → q ≡ read (word_of p n >> B) s at
  word_then B q f a = seq_at (word_of p n) B s at (at + length p) (Ok (at + length p)) q (word_yes f) refl a

  pub word_not : (x : Fault) (B : Reader) → b ≡ false → said (Err x) ≡ refused n at → said (Err x) ≡ read (word_of p n >> B) s at
  word_not x B f g = seq_no (word_of p n) B s at x (Err x) (word_no x f g) refl

-- what at_keyword searches, and what code that goes by words searches
pub ruleset matching = (starts_from, starts_beyond, starts_short, starts_other, starts_more, starts_whole, rules)

pub ruleset by_words = (on_yes, on_no, word_then, word_not, word_fits, chain)

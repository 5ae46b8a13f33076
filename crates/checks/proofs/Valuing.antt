-- The tests of the XML declaration's values. Assumes nothing.
use mathlib.Core.Path.{◌≡◌, refl, sym, ap, ◌∙◌}
use mathlib.Core.Bool.{Bool, true, false, ◌&&◌, not, and-true, and_assoc}
use mathlib.Core.List.{List, [], ◌∷◌}
use Prim.Native.Nat.compare
use Prim.Native.Nat.{ℕ, suc, ◌+◌, ◌-◌, ◌<◌, ◌≤◌}
use native.Mathlib.Omega.{arith}
use borrow.Author.Rules.{rules}
use borrow.Author.Tests.{eqb-true, eqb-false}
use lib.Dec.{eqb}
use lib.ListN.{length, get_or, take, drop}
use lib.Pointwise.{pointwise}
use Rattle.std.specs.List.{fold, list_all}
use Rattle.spec.specs.Basics.{pick}
use Rattle.spec.specs.Grammar.Languages.{ascii}
use Rattle.spec.specs.Grammar.References.{digit}
use Rattle.spec.specs.Grammar.XmlDecl.{enc_char}
use Rattle.spec.specs.Grammar.Characters.{latin_letter}
use Rattle.spec.specs.Reading.Checks.{all_of, is_version_num, is_enc_name, is_yes_or_no}
use Rattle.spec.specs.Reading.Readers.{starts, run}
use Rattle.spec.proofs.Base.Places.{drop_at, drop_end, take_rest}
use Rattle.spec.proofs.Base.Tests.{leb_yes, leb_no, eqb_no}

-- what `all` says of a class is that the text is of it
all_is : (p : ℕ → Bool) (w : List ℕ) → list_all p w ≡ all_of p w
unfolding all_of run
all_is p [] = refl
all_is p (b ∷ w) = go (p b) (all_is p w)
  where
    go : (t : Bool) → list_all p w ≡ eqb (run p w) (length w) → (t && list_all p w) ≡ eqb (pick t (suc (run p w)) 0) (suc (length w))
    go true e = e ∙ (rw compare.suc-suc)
    go false e = sym (eqb_no 0 (suc (length w)) (λ (z : 0 ≡ suc (length w)). omega arith))

-- and what a fold says that tests each byte
abbrev pub all_so_far : (ℕ → Bool) → Bool → ℕ → Bool
all_so_far p a b = a && p b

pub fold_is : (p : ℕ → Bool) (w : List ℕ) (a : Bool) → fold (all_so_far p) a w ≡ (a && list_all p w)
fold_is p [] a = sym (and-true a)
fold_is p (b ∷ w) a = fold_is p w (a && p b) ∙ and_assoc a (p b) (list_all p w)

-- a pass over it: a whether all before i are of the class
module _ (p : ℕ → Bool) (v : List ℕ) (i : ℕ) (a : Bool) (inv : (a && list_all p (drop i v)) ≡ list_all p v) where
  pub pass_more : (t : Bool) → i < length v → t ≡ p (get_or v i 0) → ((a && t) && list_all p (drop (i + 1) v)) ≡ list_all p v
  pass_more t h e = and_assoc a t (list_all p (drop (i + 1) v)) ∙ (rw (drop_at v i h, sym e) at inv)

  pub pass_all : length v ≤ i → a ≡ all_of p v
  pass_all h = sym (and-true a) ∙ (rw (drop_end v i h) at inv) ∙ all_is p v

-- what strip_prefix tests, and what `==` does
front_is : (p w : List ℕ) → pointwise eqb (take (length p) w) p ≡ starts p w
unfolding starts
front_is [] w = refl
front_is (a ∷ p) [] = refl
front_is (a ∷ p) (b ∷ w) = ap (λ (t : Bool). eqb b a && t) (front_is p w)

same_is : (w p : List ℕ) → pointwise eqb w p ≡ (starts p w && eqb (length w) (length p))
unfolding starts
same_is [] [] = refl
same_is [] (a ∷ p) = refl
same_is (b ∷ w) [] = sym (eqb_no (suc (length w)) 0 (λ (z : suc (length w) ≡ 0). omega arith))
same_is (b ∷ w) (a ∷ p) = go (eqb b a) (same_is w p)
  where
    go : (t : Bool) → pointwise eqb w p ≡ (starts p w && eqb (length w) (length p)) → (t && pointwise eqb w p) ≡ ((t && starts p w) && eqb (suc (length w)) (suc (length p)))
    go true e = e ∙ (rw compare.suc-suc)
    go false e = refl

-- '1.' and a digit or more: t whether it begins so, d what follows
module _ (v : List ℕ) (t : Bool) (a : pointwise eqb (take 2 v) (ascii "1.") ≡ t) where
  begins : starts (ascii "1.") v ≡ t
  begins = sym (front_is (ascii "1.") v) ∙ a

  pub version_none : t ≡ false → false ≡ is_version_num v
  unfolding is_version_num
  version_none f = sym (rw (begins ∙ f))

  module _ (y : t ≡ true) (d : List ℕ) (e : d ≡ drop 2 v) (n : Bool) (f : n ≡ eqb (length d) 0) where
    pub version_bare : n ≡ true → not n ≡ is_version_num v
    unfolding is_version_num
    version_bare g =
        let z : length d ≡ 0 = eqb-true (length d) 0 (sym f ∙ g) in
        rw (begins ∙ y, ← e, leb_no 1 (length d) (omega arith), g)

    pub version_is : (r : Bool) → n ≡ false → r ≡ all_of digit d → r ≡ is_version_num v
    unfolding is_version_num
    version_is r g h =
        let z = eqb-false (length d) 0 (sym f ∙ g) in
        h ∙ (rw (begins ∙ y, ← e, leb_yes 1 (length d) (omega arith)))

-- a letter, and what may follow it: a whether a letter stands first
pub enc_none : (w : List ℕ) → length w < 1 → false ≡ is_enc_name w
unfolding is_enc_name
enc_none [] h = refl
enc_none (b ∷ w) h = absurd (omega arith)

pub enc_not : (w : List ℕ) (a : Bool) → 1 ≤ length w → a ≡ latin_letter (get_or w 0 0) → a ≡ false → a ≡ is_enc_name w
unfolding is_enc_name
enc_not [] a h e f = absurd (omega arith)
enc_not (b ∷ w) a h e f = f ∙ (rw (sym e ∙ f))

pub enc_is : (w : List ℕ) (a r : Bool) → 1 ≤ length w → a ≡ latin_letter (get_or w 0 0) → a ≡ true → r ≡ list_all enc_char (take (length w - 1) (drop 1 w)) → r ≡ is_enc_name w
unfolding is_enc_name
enc_is [] a r h e f g = absurd (omega arith)
enc_is (b ∷ w) a r h e f g = g ∙ ap (list_all enc_char) (take_rest (b ∷ w) 1) ∙ all_is enc_char w ∙ (rw (sym e ∙ f))

-- 'yes' or 'no': a whether it is the first
module _ (v : List ℕ) (a : Bool) (e : a ≡ pointwise eqb v (ascii "yes")) where
  pub yes_is : a ≡ true → a ≡ is_yes_or_no v
  unfolding is_yes_or_no
  yes_is f = f ∙ (rw (sym (same_is v (ascii "yes")) ∙ sym e ∙ f))

  pub no_is : (r : Bool) → a ≡ false → r ≡ pointwise eqb v (ascii "no") → r ≡ is_yes_or_no v
  unfolding is_yes_or_no
  no_is r f g = g ∙ same_is v (ascii "no") ∙ (rw (sym (same_is v (ascii "yes")) ∙ sym e ∙ f))

-- what the tests search
pub ruleset all_of_them = (pass_more, pass_all, rules)

pub ruleset valuing = (version_none, version_bare, version_is, enc_none, enc_not, yes_is, no_is, rules)

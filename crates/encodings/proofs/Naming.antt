-- Names of encodings, in small letters. Assumes nothing.
use mathlib.Core.Path.{◌≡◌, refl, sym, ap, ◌∙◌}
use mathlib.Core.Bool.{Bool, true, false, ◌&&◌, ◌||◌, true≢false}
use mathlib.Core.List.{List, [], ◌∷◌, ◌++◌, map}
use Prim.Native.Nat.{ℕ, zero, suc, ◌+◌, ◌<◌, ◌≤◌}
use native.Mathlib.Omega.{arith}
use borrow.Author.Rules.{rules}
use denote.Ref.{Bor}
use borrow.Author.Tests.{ltb-true, ltb-false}
use lib.Dec.{eqb, ltb}
use lib.ListN.{length, get_or, take, drop, length-append}
use lib.Seq.{drop-append_seam, take-append_seam}
use Rattle.std.specs.Prelude.{Option, Some, None, MatchOption, IsTrue, ◌↔◌}
use Rattle.std.specs.Char.{to_ascii_lowercase}
use Rattle.spec.specs.Basics.{pick, within}
use Rattle.spec.specs.Grammar.Encodings.{small, goes_on, no_more, iso_part, windows_part, coding_of}
use Rattle.spec.specs.Grammar.Languages.{ascii}
use Rattle.spec.specs.Reading.Readers.{starts}
use Rattle.spec.proofs.Agreement.Words.{starts_split}
use Rattle.spec.proofs.Base.Tests.{within_yes, within_low, within_high, within_lo, eqb-true, eqb_yes, eqb_no, and_left, and_right}
use Rattle.encodings.specs.Codings.{of}
use Rattle.encodings.specs.declared.codings.Coding.TheVariants.{Utf8, Bytes, Foreign}

-- one letter, and a whole name
lower_is : (b : ℕ) → to_ascii_lowercase b ≡ pick (within 0x41 0x5A b) (b + 32) b
lower_is b = by_low (ltb b 65) refl
  where
    by_high : 65 ≤ b → (t : Bool) → ltb b 91 ≡ t → pick t (b + 32) b ≡ pick (within 0x41 0x5A b) (b + 32) b
    by_high h true e = let l = ltb-true b 91 e in sym (rw (within_yes 0x41 0x5A b h (omega arith)))
    by_high h false e = let l = ltb-false b 91 e in sym (rw (within_high 0x41 0x5A b (omega arith)))

    by_low : (t : Bool) → ltb b 65 ≡ t → pick t b (pick (ltb b 91) (b + 32) b) ≡ pick (within 0x41 0x5A b) (b + 32) b
    by_low true e = sym (rw (within_low 0x41 0x5A b (ltb-true b 65 e)))
    by_low false e = by_high (ltb-false b 65 e) (ltb b 91) refl

small_is : (n : List ℕ) → map to_ascii_lowercase n ≡ small n
small_is [] = refl
small_is (b ∷ n) = rw (lower_is b, small_is n)

small_length : (n : List ℕ) → length (small n) ≡ length n
small_length [] = refl
small_length (b ∷ n) = ap suc (small_length n)

small_take : (k : ℕ) (n : List ℕ) → take k (small n) ≡ small (take k n)
small_take zero n = refl
small_take (suc k) [] = refl
small_take (suc k) (b ∷ n) = ap (λ (w : List ℕ). pick (within 0x41 0x5A b) (b + 32) b ∷ w) (small_take k n)

small_split : (k : ℕ) (n : List ℕ) → small n ≡ small (take k n) ++ small (drop k n)
small_split zero n = refl
small_split (suc k) [] = refl
small_split (suc k) (b ∷ n) = ap (λ (w : List ℕ). pick (within 0x41 0x5A b) (b + 32) b ∷ w) (small_split k n)

fits : (p w : List ℕ) → starts p w ≡ true → length p ≤ length w
fits p w e = let (v, f) = starts_split p w e in omega (arith, ap length f, length-append p v)

-- a word at the front of a name, as split_at_checked and eq_ignore_ascii_case say it
pub front_short : (kw n : List ℕ) → length n < length kw → starts (small kw) (small n) ≡ false
front_short kw n h = go (starts (small kw) (small n)) refl
  where
    go : (t : Bool) → starts (small kw) (small n) ≡ t → t ≡ false
    go false e = refl
    go true e = let z = fits (small kw) (small n) e in absurd (omega (arith, small_length kw, small_length n))

module _ (kw n : List ℕ) (front rest : List ℕ) (e : front ≡ take (length kw) n) (f : rest ≡ drop (length kw) n) (r : Bool) (g : IsTrue r ↔ (map to_ascii_lowercase front ≡ map to_ascii_lowercase kw)) where
  pub front_same : r ≡ true → small n ≡ small kw ++ small rest
  front_same y =
      let z : small front ≡ small kw = sym (small_is front) ∙ g.0 y ∙ small_is kw in
      small_split (length kw) n ∙ (rw (← e, ← f, z))

  pub front_other : length kw ≤ length n → r ≡ false → starts (small kw) (small n) ≡ false
  front_other h y = go (starts (small kw) (small n)) refl
    where
      go : (t : Bool) → starts (small kw) (small n) ≡ t → t ≡ false
      go false d = refl
      go true d =
          let (v, c) = starts_split (small kw) (small n) d in
          let z : small front ≡ small kw = ap small e ∙ sym (small_take (length kw) n) ∙ ap (take (length kw)) c ∙ ap (λ (k : ℕ). take k (small kw ++ v)) (sym (small_length kw)) ∙ take-append_seam (small kw) v in
          absurd (true≢false (sym (g.1 (small_is front ∙ z ∙ sym (small_is kw))) ∙ y))

-- what stands after a word is what is left of it
goes : (p : List ℕ) (test : List ℕ → Bool) (w : List ℕ) → goes_on p test w ≡ (starts p w && test (drop (length p) w))
unfolding starts
goes [] test w = refl
goes (p ∷ ps) test [] = refl
goes (p ∷ ps) test (b ∷ w) = go (eqb b p) (goes ps test w)
  where
    go : (t : Bool) → goes_on ps test w ≡ (starts ps w && test (drop (length ps) w)) → (t && goes_on ps test w) ≡ ((t && starts ps w) && test (drop (length ps) w))
    go true e = e
    go false e = refl

-- what begins with a word begins with it
starts_same : (p w : List ℕ) → starts p (p ++ w) ≡ true
unfolding starts
starts_same [] w = refl
starts_same (a ∷ p) w = rw (eqb_yes a a refl) (starts_same p w)

-- the parts that are too short or too long
pub iso_none : (n : List ℕ) → length n < 1 → false ≡ iso_part (small n)
iso_none [] h = refl
iso_none (a ∷ n) h = absurd (omega arith)

pub iso_long : (n : List ℕ) → 3 ≤ length n → false ≡ iso_part (small n)
iso_long [] h = refl
iso_long (a ∷ []) h = absurd (omega arith)
iso_long (a ∷ b ∷ []) h = absurd (omega arith)
iso_long (a ∷ b ∷ d ∷ n) h = refl

-- no capital letter is a '1' when small
pub iso_other : (n : List ℕ) → 2 ≤ length n → (get_or n 0 0 ≡ 0x31 → ⊥) → false ≡ iso_part (small n)
iso_other [] h f = refl
iso_other (a ∷ []) h f = absurd (omega arith)
iso_other (a ∷ b ∷ []) h f = go (within 0x41 0x5A a) refl
  where
    go : (t : Bool) → within 0x41 0x5A a ≡ t → false ≡ (eqb (pick t (a + 32) a) 0x31 && within 0x30 0x36 (pick (within 0x41 0x5A b) (b + 32) b))
    go true e = let l = within_lo 0x41 0x5A a e in rw (eqb_no (a + 32) 0x31 (λ (z : a + 32 ≡ 0x31). omega arith))
    go false e = rw (eqb_no a 0x31 f)
iso_other (a ∷ b ∷ d ∷ n) h f = refl

pub windows_long : (n : List ℕ) → 2 ≤ length n → false ≡ windows_part (small n)
windows_long [] h = refl
windows_long (a ∷ []) h = absurd (omega arith)
windows_long (a ∷ b ∷ n) h = refl

-- a name that is the word, and no more
whole : (p : List ℕ) → goes_on p no_more p ≡ true
whole [] = refl
whole (a ∷ p) = rw (eqb_yes a a refl) (whole p)

only : (p w : List ℕ) → goes_on p no_more w ≡ true → w ≡ p
only [] [] e = refl
only [] (b ∷ w) e = absurd (true≢false (sym e))
only (a ∷ p) [] e = absurd (true≢false (sym e))
only (a ∷ p) (b ∷ w) e = let y : b ≡ a = eqb-true b a (and_left (eqb b a) (goes_on p no_more w) e) in let z : w ≡ p = only p w (and_right (eqb b a) (goes_on p no_more w) e) in cc

pub word_is : (p n : List ℕ) (r : Bool) → IsTrue r ↔ (map to_ascii_lowercase n ≡ map to_ascii_lowercase p) → r ≡ goes_on (small p) no_more (small n)
word_is p n true g = let z : small n ≡ small p = sym (small_is n) ∙ g.0 refl ∙ small_is p in sym (rw z (whole (small p)))
word_is p n false g = go (goes_on (small p) no_more (small n)) refl
  where
    go : (t : Bool) → goes_on (small p) no_more (small n) ≡ t → false ≡ t
    go false e = refl
    go true e = g.1 (small_is n ∙ only (small p) (small n) e ∙ sym (small_is p))

-- a name that goes on after the word, as the test of what is left says: P is what it answers there
pub part_is : (kw n : List ℕ) (test : List ℕ → Bool) (r : Option (Bor (List ℕ))) (P : Bor (List ℕ) → Type 0) (x : Bool)
    → MatchOption r (starts (small kw) (small n) ≡ false) (λ rest. small n ≡ small kw ++ small rest.now) → MatchOption r (x ≡ false) P → ((rest : Bor (List ℕ)) → P rest → x ≡ test (small rest.now))
    → x ≡ goes_on (small kw) test (small n)
part_is kw n test None P x a b f = b ∙ sym (goes (small kw) test (small n) ∙ (rw a))
part_is kw n test (Some rest) P x a b f = f rest b ∙ sym (goes (small kw) test (small n) ∙ (rw (a, starts_same (small kw) (small rest.now)) (ap test (drop-append_seam (small kw) (small rest.now)))))

-- one of two tests, the second asked where the first fails
pub one_yes : (a x y : Bool) → a ≡ x → a ≡ true → a ≡ (x || y)
one_yes a x y e f = f ∙ (rw (sym e ∙ f))

pub one_no : (a b x y : Bool) → a ≡ x → a ≡ false → b ≡ y → b ≡ (x || y)
one_no a b x y e f g = g ∙ (rw (sym e ∙ f))

-- what a name stands for, by these tests
module _ (n : List ℕ) (a : Bool) (e : a ≡ (goes_on (ascii "utf-8") no_more (small n) || goes_on (ascii "us-ascii") no_more (small n))) where
  pub coding_utf8 : a ≡ true → of Utf8 ≡ coding_of n
  unfolding of coding_of
  coding_utf8 y = rw (← e, y)

  module _ (y : a ≡ false) (b : Bool) (f : b ≡ (goes_on (ascii "iso-8859-") iso_part (small n) || goes_on (ascii "windows-125") windows_part (small n))) where
    pub coding_bytes : b ≡ true → of Bytes ≡ coding_of n
    unfolding of coding_of
    coding_bytes z = rw (← e, y, ← f, z)

    pub coding_foreign : b ≡ false → of Foreign ≡ coding_of n
    unfolding of coding_of
    coding_foreign z = rw (← e, y, ← f, z)

-- what the functions search
pub ruleset fronts = (front_short, front_same, front_other, rules)

pub ruleset parts = (iso_none, iso_long, iso_other, windows_long, rules)

pub ruleset naming = (coding_utf8, coding_bytes, coding_foreign, rules)

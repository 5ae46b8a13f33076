-- What the first bytes of a document show. Assumes nothing.
use mathlib.Core.Path.{◌≡◌, refl, sym, ap, ◌∙◌}
use mathlib.Core.Bool.{Bool, true, false, ◌&&◌, ◌||◌, true≢false}
use mathlib.Core.List.{List, [], ◌∷◌}
use Prim.Native.Nat.{ℕ}
use borrow.Author.Rules.{rules}
use lib.Dec.{eqb}
use lib.ListN.{length, take}
use lib.Pointwise.{pointwise}
use Rattle.std.specs.Prelude.{Some, None}
use Rattle.spec.specs.Basics.{pick}
use Rattle.spec.specs.Grammar.Encodings as Rule
use Rattle.spec.specs.Grammar.Encodings.{goes_on, anything, looks_like}
use Rattle.spec.specs.Reading.Readers.{starts}
use Rattle.spec.proofs.Base.Tests.{eqb-true, eqb_yes, eqb_no}
use Rattle.encodings.specs.Codings.{width}
use Rattle.encodings.specs.declared.wide.Wide.TheVariants.{Utf16Be, Utf16Le, Utf32Be, Utf32Le}

-- a word stands first, as starts_with says it and as the rule does
same : (a b : ℕ) → eqb a b ≡ eqb b a
same a b = go (eqb b a) refl
  where
    go : (t : Bool) → eqb b a ≡ t → eqb a b ≡ t
    go true e = eqb_yes a b (sym (eqb-true b a e))
    go false e = eqb_no a b (λ (z : a ≡ b). true≢false (sym (eqb_yes b a (sym z)) ∙ e))

front : (p w : List ℕ) → pointwise eqb p (take (length p) w) ≡ starts p w
unfolding starts
front [] w = refl
front (p ∷ ps) [] = refl
front (p ∷ ps) (b ∷ w) = rw (same p b, front ps w)

seen : (p w : List ℕ) → goes_on p anything w ≡ starts p w
unfolding starts
seen [] w = refl
seen (p ∷ ps) [] = refl
seen (p ∷ ps) (b ∷ w) = ap (λ (t : Bool). eqb b p && t) (seen ps w)

-- one of two words: a is whether the first stands
module _ (p q w : List ℕ) (a : Bool) (e : a ≡ pointwise eqb p (take (length p) w)) where
  pub begins_first : a ≡ true → a ≡ (starts p w || starts q w)
  begins_first f = f ∙ (rw (sym (front p w) ∙ sym e ∙ f))

  pub begins_second : (b : Bool) → a ≡ false → b ≡ pointwise eqb q (take (length q) w) → b ≡ (starts p w || starts q w)
  begins_second b f g = g ∙ front q w ∙ (rw (sym (front p w) ∙ sym e ∙ f))

-- the four tests, in order: whether one of two words stands first
abbrev stand : List ℕ → List ℕ → List ℕ → Bool
stand p q w = starts p w || starts q w

by_tests : (w : List ℕ) → looks_like w ≡ pick (stand (0 ∷ 0 ∷ 0xFE ∷ 0xFF ∷ []) (0 ∷ 0 ∷ 0 ∷ 0x3C ∷ []) w) Rule.utf_32_be (pick (stand (0xFF ∷ 0xFE ∷ 0 ∷ 0 ∷ []) (0x3C ∷ 0 ∷ 0 ∷ 0 ∷ []) w) Rule.utf_32_le (pick (stand (0xFE ∷ 0xFF ∷ []) (0 ∷ 0x3C ∷ []) w) Rule.utf_16_be (pick (stand (0xFF ∷ 0xFE ∷ []) (0x3C ∷ 0 ∷ []) w) Rule.utf_16_le Rule.narrow)))
unfolding looks_like
by_tests w = simp seen

module _ (w : List ℕ) (a : Bool) (e : a ≡ stand (0 ∷ 0 ∷ 0xFE ∷ 0xFF ∷ []) (0 ∷ 0 ∷ 0 ∷ 0x3C ∷ []) w) where
  pub looks_utf_32_be : a ≡ true → width (Some Utf32Be) ≡ looks_like w
  unfolding width
  looks_utf_32_be y = sym (by_tests w ∙ (rw (← e, y)))

  module _ (n : a ≡ false) (b : Bool) (f : b ≡ stand (0xFF ∷ 0xFE ∷ 0 ∷ 0 ∷ []) (0x3C ∷ 0 ∷ 0 ∷ 0 ∷ []) w) where
    pub looks_utf_32_le : b ≡ true → width (Some Utf32Le) ≡ looks_like w
    unfolding width
    looks_utf_32_le y = sym (by_tests w ∙ (rw (← e, n, ← f, y)))

    module _ (m : b ≡ false) (c : Bool) (g : c ≡ stand (0xFE ∷ 0xFF ∷ []) (0 ∷ 0x3C ∷ []) w) where
      pub looks_utf_16_be : c ≡ true → width (Some Utf16Be) ≡ looks_like w
      unfolding width
      looks_utf_16_be y = sym (by_tests w ∙ (rw (← e, n, ← f, m, ← g, y)))

      module _ (l : c ≡ false) (d : Bool) (h : d ≡ stand (0xFF ∷ 0xFE ∷ []) (0x3C ∷ 0 ∷ []) w) where
        pub looks_utf_16_le : d ≡ true → width (Some Utf16Le) ≡ looks_like w
        unfolding width
        looks_utf_16_le y = sym (by_tests w ∙ (rw (← e, n, ← f, m, ← g, l, ← h, y)))

        pub looks_narrow : d ≡ false → width None ≡ looks_like w
        unfolding width
        looks_narrow y = sym (by_tests w ∙ (rw (← e, n, ← f, m, ← g, l, ← h, y)))

-- what looks_like searches
pub ruleset looking = (looks_utf_32_be, looks_utf_32_le, looks_utf_16_be, looks_utf_16_le, looks_narrow, rules)

pub ruleset begun = (begins_first, begins_second, rules)

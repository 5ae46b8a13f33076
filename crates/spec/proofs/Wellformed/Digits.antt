-- The value of a run of digits, stopped on the way: the lesser of the whole run's value and where it stops. Assumes nothing.
use mathlib.Core.Path.{◌≡◌, sym, ap, ◌∙◌}
use mathlib.Core.Logic.{◌⊎◌, inl, inr}
use mathlib.Core.Bool.{true, false}
use mathlib.Core.List.{List, [], ◌∷◌}
use Prim.Native.Nat.{ℕ, ◌+◌, ◌*◌, ◌≤◌, min}
use native.Mathlib.Nat.{mul-le-mul_left}
use native.Mathlib.Omega.{arith}
use lib.Dec.{leb}
use Rattle.spec.specs.Grammar.Characters.{xml_char}
use Rattle.spec.specs.Grammar.References.{digit_value, value_on}
use Rattle.spec.specs.Reading.Wellformed.{stopped_on, past_points}
use Rattle.spec.proofs.Base.Tests.{decide, leb_true, leb_false, eqb_no, within_high}

-- digits make a value no less, in a base of 1 or more
no_less : (base n d : ℕ) → 1 ≤ base → n ≤ n * base + d
no_less base n d h = let a : n * 1 ≤ n * base = mul-le-mul_left n h in omega arith

value_grows : (base : ℕ) → 1 ≤ base → (n : ℕ) (w : List ℕ) → n ≤ value_on base n w
unfolding value_on
value_grows base h n [] = omega arith
value_grows base h n (d ∷ w) = let a = no_less base n (digit_value d) h in let b = value_grows base h (n * base + digit_value d) w in omega arith

module _ (most base : ℕ) (h : 1 ≤ base) where
  pub stopped_is : (n : ℕ) (w : List ℕ) → n ≤ most → stopped_on most base n w ≡ min (value_on base n w) most
  unfolding stopped_on value_on
  stopped_is n [] l = omega arith
  stopped_is n (d ∷ w) l = go (n * base + digit_value d) (λ m k. stopped_is m w k) (decide (leb most (n * base + digit_value d)))
    where
      go : (x : ℕ) → ((m : ℕ) → m ≤ most → stopped_on most base m w ≡ min (value_on base m w) most) → (leb most x ≡ true) ⊎ (leb most x ≡ false) → stopped_on most base (min x most) w ≡ min (value_on base x w) most
      go x ih (inl e) =
          let k = leb_true most x e in
          let z : min x most ≡ most = omega arith in
          let a = value_grows base h most w in
          let b = value_grows base h x w in
          let c = ih most (omega arith) in
          rw z (omega arith)
      go x ih (inr e) = let k = leb_false most x e in let z : min x most ≡ x = omega arith in rw z (ih x (omega arith))

  -- from the front on
  pub stopped_run : (w : List ℕ) → stopped_on most base 0 w ≡ min (value_on base 0 w) most
  stopped_run w = stopped_is 0 w (omega arith)

  -- once it has stopped, it stays
  pub stopped_stays : (w : List ℕ) → stopped_on most base most w ≡ most
  stopped_stays w = let a = stopped_is most w (omega arith) in let b = value_grows base h most w in omega arith

-- past all code points there is no Char, so that a value that stopped there tells as much as the whole one
beyond : (n : ℕ) → past_points ≤ n → xml_char n ≡ false
unfolding xml_char
beyond n h =
    rw (eqb_no n 0x9 (λ (e : n ≡ 0x9). omega arith), eqb_no n 0xA (λ (e : n ≡ 0xA). omega arith), eqb_no n 0xD (λ (e : n ≡ 0xD). omega arith))
    (rw (within_high 0x20 0xD7FF n (omega arith), within_high 0xE000 0xFFFD n (omega arith), within_high 0x10000 0x10FFFF n (omega arith)))

pub char_stopped : (n : ℕ) → xml_char (min n past_points) ≡ xml_char n
char_stopped n = go (decide (leb past_points n))
  where
    go : (leb past_points n ≡ true) ⊎ (leb past_points n ≡ false) → xml_char (min n past_points) ≡ xml_char n
    go (inl e) = let h = leb_true past_points n e in beyond (min n past_points) (omega arith) ∙ sym (beyond n h)
    go (inr e) = let h = leb_false past_points n e in let z : min n past_points ≡ n = omega arith in rw z

pub tells_char : (base : ℕ) → 1 ≤ base → (w : List ℕ) → xml_char (stopped_on past_points base 0 w) ≡ xml_char (value_on base 0 w)
tells_char base h w = ap xml_char (stopped_run past_points base h w) ∙ char_stopped (value_on base 0 w)

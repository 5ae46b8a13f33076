-- A run of digits, one by one, with a value that stops: the laws hold in any base that IsBase allows. Assumes nothing.
use mathlib.Core.Path.{◌≡◌, refl, sym, ap, ◌∙◌}
use mathlib.Core.Logic.{◌⊎◌, inl, inr}
use mathlib.Core.Bool.{Bool, true, false}
use mathlib.Core.List.{List, [], ◌∷◌}
use Prim.Native.Nat.{ℕ, suc, ◌+◌, ◌-◌, ◌*◌, ◌/◌, ◌%◌, ◌<◌, ◌≤◌, min}
use native.Mathlib.Nat.{mul-le-mul_left}
use native.Mathlib.Omega.{arith}
use borrow.Author.Rules.{rules}
use mir.Syntax.{w32}
use mir.Val.{Fits}
use lib.Dec.{eqb}
use lib.ListN.{length, get_or, take, drop, length-drop}
use lib.Seq.{drop-drop}
use Rattle.spec.specs.Basics.{pick, within}
use Rattle.spec.specs.Grammar.References.{digit, hex_digit, digit_value, value_on}
use Rattle.spec.specs.Reading.Readers.{run}
use Rattle.spec.specs.Reading.Wellformed.{stopped_on, past_points}
use Rattle.spec.proofs.Base.Tests.{decide, leb_true, eqb-true, within_lo, within_hi}
use Rattle.spec.proofs.Base.Places.{drop_at, drop_end, run_within}
use Rattle.spec.proofs.Wellformed.Digits.{stopped_run, stopped_stays}
use Rattle.search.specs.FirstPlace.{only}
use Rattle.search.proofs.Runs.{run_end, run_stop, run_go}
use Rattle.chars.specs.Digits.{Counted, IsBase}

-- what a digit stands for, by its bits: less than 16
hex_value : (b : ℕ) → hex_digit b ≡ true → (b % 16 + 9 * (b / 64) ≡ digit_value b) × (digit_value b < 16)
unfolding digit_value
hex_value b h = by_digit (decide (digit b)) (decide (within 0x41 0x46 b))
  where
    by_digit : (digit b ≡ true) ⊎ (digit b ≡ false) → (within 0x41 0x46 b ≡ true) ⊎ (within 0x41 0x46 b ≡ false)
        → (b % 16 + 9 * (b / 64) ≡ pick (digit b) (b - 0x30) (pick (within 0x41 0x46 b) (b - 0x37) (b - 0x57))) × (pick (digit b) (b - 0x30) (pick (within 0x41 0x46 b) (b - 0x37) (b - 0x57)) < 16)
    by_digit (inl d) u = let l = within_lo 0x30 0x39 b d in let m = within_hi 0x30 0x39 b d in rw d (omega arith, omega arith)
    by_digit (inr d) (inl u) = let l = within_lo 0x41 0x46 b u in let m = within_hi 0x41 0x46 b u in rw (d, u) (omega arith, omega arith)
    by_digit (inr d) (inr u) =
        let g : within 0x61 0x66 b ≡ true = (rw (d, u) at h) in
        let l = within_lo 0x61 0x66 b g in
        let m = within_hi 0x61 0x66 b g in
        rw (d, u) (omega arith, omega arith)

pub by_bits : (b : ℕ) → hex_digit b ≡ true → b % 16 + 9 * (b / 64) ≡ digit_value b
by_bits b h = let (e, l) = hex_value b h in e

-- the digits that stand first
abbrev digits : (ℕ → Bool) → List ℕ → List ℕ
digits d w = take (run d w) w

-- the loop's invariant: the digits from `at` on end where those from i on do, and v is the value of those before i, which has not stopped
pub record DigitsLeft (base : ℕ) (d : ℕ → Bool) (s : List ℕ) (at i v : ℕ) : Type 0 where
  pub ends : i + run d (drop i s) ≡ at + run d (drop at s)
  pub value_is : stopped_on past_points base v (digits d (drop i s)) ≡ stopped_on past_points base 0 (digits d (drop at s))
  pub goes_on : v < past_points

-- zeros that lead change neither where the digits end nor their value
module _ (base : ℕ) (d : ℕ → Bool) (k : IsBase base d) where
  of_zero : (b : ℕ) → eqb b 0x30 ≡ true → d b ≡ true
  of_zero b e = ap d (eqb-true b 0x30 e) ∙ k.zero

  zero_value : (b : ℕ) → eqb b 0x30 ≡ true → min (0 * base + digit_value b) past_points ≡ 0
  unfolding digit_value
  zero_value b e = let f : b ≡ 0x30 = eqb-true b 0x30 e in rw f (omega arith)

  zeros_run : (w : List ℕ) → run (only 0x30) w + run d (drop (run (only 0x30) w) w) ≡ run d w
  unfolding run
  zeros_run [] = refl
  zeros_run (b ∷ w) = go (eqb b 0x30) refl (zeros_run w)
    where
      go : (t : Bool) → eqb b 0x30 ≡ t → run (only 0x30) w + run d (drop (run (only 0x30) w) w) ≡ run d w → pick t (suc (run (only 0x30) w)) 0 + run d (drop (pick t (suc (run (only 0x30) w)) 0) (b ∷ w)) ≡ pick (d b) (suc (run d w)) 0
      go true e ih = rw (of_zero b e) (omega (arith, ih))
      go false e ih = omega arith

  zeros_value : (w : List ℕ) → stopped_on past_points base 0 (digits d (drop (run (only 0x30) w) w)) ≡ stopped_on past_points base 0 (digits d w)
  unfolding run stopped_on
  zeros_value [] = refl
  zeros_value (b ∷ w) = go (eqb b 0x30) refl (zeros_value w)
    where
      go : (t : Bool) → eqb b 0x30 ≡ t → stopped_on past_points base 0 (digits d (drop (run (only 0x30) w) w)) ≡ stopped_on past_points base 0 (digits d w)
          → stopped_on past_points base 0 (digits d (drop (pick t (suc (run (only 0x30) w)) 0) (b ∷ w))) ≡ stopped_on past_points base 0 (take (pick (d b) (suc (run d w)) 0) (b ∷ w))
      go true e ih = rw (of_zero b e) (ih ∙ sym (ap (λ (u : ℕ). stopped_on past_points base u (digits d w)) (zero_value b e)))
      go false e ih = refl

  pub zeros_first : (s : List ℕ) (at i : ℕ) → i ≡ at + run (only 0x30) (drop at s) → DigitsLeft base d s at i 0
  zeros_first s at i e =
      let a : i + run d (drop (run (only 0x30) (drop at s)) (drop at s)) ≡ at + run d (drop at s) = omega (arith, e, zeros_run (drop at s)) in
      let b : drop i s ≡ drop (run (only 0x30) (drop at s)) (drop at s) = (rw (e, drop-drop)) in
      record {
        ends = ap (λ (w : List ℕ). i + run d w) b ∙ a;
        value_is = ap (λ (w : List ℕ). stopped_on past_points base 0 (digits d w)) b ∙ zeros_value (drop at s);
        goes_on = omega arith;
      }

  -- the whole value, by the theorem on stopped ones
  whole : (w : List ℕ) (v : ℕ) → v ≡ stopped_on past_points base 0 (digits d w) → v ≡ min (value_on base 0 (digits d w)) past_points
  whole w v e = e ∙ stopped_run past_points base (leb_true 1 base k.least) (digits d w)

  module _ (s : List ℕ) (at i v : ℕ) (inv : DigitsLeft base d s at i v) where
    pub counted_all : (n : ℕ) → length s ≤ i → n ≡ length s - at → Counted base d (drop at s) n v
    unfolding run stopped_on
    counted_all n h e =
        record {
          count_is = let z = run_end d s at i inv.ends h in omega (arith, run_within d (drop at s), length-drop at s);
          value_is = whole (drop at s) v (rw (drop_end s i h) at inv.value_is);
        }

    module _ (h : i < length s) (t : Bool) (f : t ≡ d (get_or s i 0)) where
      pub counted_stop : t ≡ false → (r : ℕ) → r ≡ at + run (only 0x30) (drop at s) → r ≤ i → Counted base d (drop at s) (i - at) v
      unfolding run stopped_on
      counted_stop n r a g =
          record {
            count_is = let z = run_stop d s at i inv.ends h (sym f ∙ n) in omega arith;
            value_is = whole (drop at s) v (rw (drop_at s i h, sym f ∙ n) at inv.value_is);
          }

      -- one digit more: it stands for c
      module _ (y : t ≡ true) (b c : ℕ) (q : b ≡ base) where
        pub times_fits : Fits w32 (v * b)
        times_fits = let z : v * base ≤ v * 16 = mul-le-mul_left v (leb_true base 16 k.most) in rw q (omega (arith, inv.goes_on))

        module _ (e : hex_digit (get_or s i 0) ≡ true → c ≡ digit_value (get_or s i 0)) where
          is_hex : hex_digit (get_or s i 0) ≡ true
          is_hex = k.hex (get_or s i 0) (sym f ∙ y)

          pub more_fits : Fits w32 (v * b + c)
          more_fits =
              let z : v * base ≤ v * 16 = mul-le-mul_left v (leb_true base 16 k.most) in
              let (a, l) = hex_value (get_or s i 0) is_hex in
              let u : c < 16 = omega (arith, e is_hex) in
              rw q (omega (arith, inv.goes_on))

          abbrev left : List ℕ
          left = digits d (drop (i + 1) s)

          more : stopped_on past_points base (min (v * b + c) past_points) left ≡ stopped_on past_points base 0 (digits d (drop at s))
          unfolding run stopped_on
          more = rw (q, e is_hex) (rw (drop_at s i h, sym f ∙ y) at inv.value_is)

          pub counted_go : v * b + c < past_points → DigitsLeft base d s at (i + 1) (v * b + c)
          counted_go l =
              let z : min (v * b + c) past_points ≡ v * b + c = omega arith in
              record { ends = run_go d s at i inv.ends h (sym f ∙ y); value_is = (rw z at more); goes_on = l }

          -- the value stops here
          pub counted_past : past_points ≤ v * b + c → (r m : ℕ) → r ≡ at + run (only 0x30) (drop at s) → r ≤ i → m ≡ i + 1 + run d (drop (i + 1) s) → Counted base d (drop at s) (m - at) past_points
          counted_past l r m a g n =
              let z : min (v * b + c) past_points ≡ past_points = omega arith in
              record {
                count_is = let u = run_go d s at i inv.ends h (sym f ∙ y) in omega arith;
                value_is = whole (drop at s) past_points (sym (stopped_stays past_points base (leb_true 1 base k.least) left) ∙ (rw z at more));
              }

-- what the pass searches
pub ruleset digit_runs = (zeros_first, counted_all, counted_stop, times_fits, more_fits, counted_go, counted_past, rules)

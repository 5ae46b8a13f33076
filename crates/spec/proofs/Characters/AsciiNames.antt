-- XML's ASCII name characters: whether name classes have them is one computed test over 128 signs for each class. Assumes nothing.
use mathlib.Core.Bool.{Bool, true, ◌&&◌}
use mathlib.Core.Path.{◌≡◌}
use Prim.Native.Nat.{ℕ, ◌<◌}
use Rattle.spec.specs.Grammar.Names.{Dialect, AsciiNames, start_sign, part_sign}
use Rattle.spec.proofs.Agreement.Signs.{below, below_at, at_below}
use Rattle.spec.proofs.Base.Tests.{alike, alike_same, same_alike, and_left, and_right, and_both}

-- whether two classes have the same characters below 128
abbrev pub same_below : (ℕ → Bool) → (ℕ → Bool) → Bool
same_below p q = below 128 (λ c. alike (p c) (q c))

pub same_at : (p q : ℕ → Bool) → same_below p q ≡ true → (c : ℕ) → c < 128 → p c ≡ q c
same_at p q e c h = alike_same (p c) (q c) (below_at 128 (λ c. alike (p c) (q c)) e c h)

-- whether name classes have XML's ASCII part
abbrev pub ascii_test : (ℕ → Bool) → (ℕ → Bool) → Bool
ascii_test start part = same_below start start_sign && same_below part part_sign

module _ (D : Dialect) where
  abbrev starts : Bool
  starts = same_below D.start start_sign

  abbrev parts : Bool
  parts = same_below D.part part_sign

  pub ascii_names : ascii_test D.start D.part ≡ true → AsciiNames D
  ascii_names e = record {
    start_ascii = same_at D.start start_sign (and_left starts parts e);
    part_ascii = same_at D.part part_sign (and_right starts parts e);
  }

  pub ascii_passes : AsciiNames D → ascii_test D.start D.part ≡ true
  ascii_passes A =
      and_both starts parts
      (at_below 128 (λ c. alike (D.start c) (start_sign c)) (λ c h. same_alike (D.start c) (start_sign c) (A.start_ascii c h)))
      (at_below 128 (λ c. alike (D.part c) (part_sign c)) (λ c h. same_alike (D.part c) (part_sign c) (A.part_ascii c h)))

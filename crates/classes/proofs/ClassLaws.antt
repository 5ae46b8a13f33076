-- The classes that the readers are handed: the quick tests below 128 are every edition's, and from there on the edition decides. Assumes nothing.
use mathlib.Core.Path.{◌≡◌, refl, sym, ◌∙◌}
use mathlib.Core.Logic.{◌⊎◌, inl, inr}
use mathlib.Core.Bool.{Bool, true, false, ◌||◌, true≢false}
use Prim.Native.Nat.{ℕ, suc, ◌<◌, ◌≤◌}
use native.Mathlib.Omega.{arith}
use borrow.Author.Rules.{rules}
use lib.Dec.{eqb, ltb}
use Rattle.spec.specs.Basics.{within}
use Rattle.spec.specs.Grammar.AppendixB.{part_char}
use Rattle.spec.specs.Grammar.FifthEdition.{name_start_char, name_char}
use Rattle.spec.specs.Grammar.Names.{AsciiNames, start_sign, part_sign}
use Rattle.spec.proofs.Base.Tests.{decide, leb_true, leb_false, within_high}
use Rattle.spec.proofs.Characters.AppendixB.{appendix_b_ascii}
use Rattle.spec.proofs.Characters.AsciiNames.{same_at}
use Rattle.spec.proofs.Characters.FifthEdition.{fifth_edition_ascii}
use Rattle.classes.specs.Classes.{dialect, letter, ascii_start, ascii_part}
use Rattle.classes.specs.declared.Names.{Names}
use Rattle.classes.specs.declared.Names.TheVariants.{AppendixB, FifthEdition}
use Rattle.classes.proofs.AppendixBLaws.{no_sign, start_high, appendix_b_laws}
use Rattle.classes.proofs.FifthEditionLaws.{fifth_edition_laws}

-- the classes of each edition have XML's ASCII part
pub dialect_ascii : (names : Names) → AsciiNames (dialect names)
unfolding dialect
dialect_ascii AppendixB = appendix_b_ascii
dialect_ascii FifthEdition = fifth_edition_ascii

-- below 128 the quick tests are that part, by computing each over the 128 signs
start_below : (names : Names) (c : ℕ) → c < 128 → ascii_start c ≡ (dialect names).start c
start_below names c h = same_at ascii_start start_sign refl c h ∙ sym ((dialect_ascii names).start_ascii c h)

part_below : (names : Names) (c : ℕ) → c < 128 → ascii_part c ≡ (dialect names).part c
part_below names c h = same_at ascii_part part_sign refl c h ∙ sym ((dialect_ascii names).part_ascii c h)

-- what begins a name on the ASCII path goes on with it too
pub start_part : (c : ℕ) → ascii_start c ≡ true → ascii_part c ≡ true
start_part c e = go (within 0x2D 0x2E c) (within 0x30 0x39 c)
  where
    go : (x y : Bool) → x || y || eqb c 0x3A || eqb c 0x5F || within 0x41 0x5A c || within 0x61 0x7A c ≡ true
    go true y = refl
    go false true = refl
    go false false = e

-- a name character of the ASCII path is an ASCII sign
pub sign_low : (c : ℕ) → ascii_part c ≡ true → c < 128
sign_low c e = go (decide (ltb c 128))
  where
    go : (ltb c 128 ≡ true) ⊎ (ltb c 128 ≡ false) → c < 128
    go (inl l) = leb_true (suc c) 128 l
    go (inr g) =
        let h : 128 < suc c = leb_false (suc c) 128 g in
        let n : ascii_part c ≡ false = rw (
          no_sign c (omega arith) 0x3A (omega arith),
          no_sign c (omega arith) 0x5F (omega arith),
          within_high 0x41 0x5A c (omega arith),
          within_high 0x61 0x7A c (omega arith),
          within_high 0x2D 0x2E c (omega arith),
          within_high 0x30 0x39 c (omega arith),
        ) in
        absurd (true≢false (sym e ∙ n))

-- the classes that the readers are handed: below 128 whatever the edition, from there on by the edition
module _ (names : Names) (c : ℕ) (r : Bool) where
  pub start_low : c < 128 → r ≡ ascii_start c → r ≡ (dialect names).start c
  start_low h e = e ∙ start_below names c h

  pub part_low : c < 128 → r ≡ ascii_part c → r ≡ (dialect names).part c
  part_low h e = e ∙ part_below names c h

  pub start_b : names ≡ AppendixB → 128 ≤ c → r ≡ letter c → r ≡ (dialect names).start c
  unfolding dialect
  start_b k h e = e ∙ start_high c h ∙ (rw k)

  pub part_b : names ≡ AppendixB → r ≡ part_char c → r ≡ (dialect names).part c
  unfolding dialect
  part_b k e = e ∙ (rw k)

  pub start_5 : names ≡ FifthEdition → r ≡ name_start_char c → r ≡ (dialect names).start c
  unfolding dialect
  start_5 k e = e ∙ (rw k)

  pub part_5 : names ≡ FifthEdition → r ≡ name_char c → r ≡ (dialect names).part c
  unfolding dialect
  part_5 k e = e ∙ (rw k)

-- what the classes search
pub ruleset classes = (appendix_b_laws, fifth_edition_laws, start_low, part_low, start_b, part_b, start_5, part_5, rules)

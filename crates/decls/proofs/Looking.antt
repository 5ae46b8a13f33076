-- Looking ahead at quote marks. Assumes nothing.
use mathlib.Core.Path.{◌≡◌, refl, sym, ◌∙◌}
use mathlib.Core.Logic.{◌⊎◌, inl, inr}
use mathlib.Core.Bool.{Bool, true, false}
use mathlib.Core.List.{List}
use Prim.Native.Nat.{ℕ}
use lib.ListN.{drop}
use Rattle.spec.specs.Grammar.Languages.{ascii}
use Rattle.spec.specs.Reading.Readers.{Reader, starts, choose, on}
use Rattle.spec.specs.Reading.Dtd.{on_quote}
use Rattle.spec.proofs.Base.Tests.{or_cases, or_false_left, or_false_right}
use Rattle.error.specs.Read.{Said, read}
use Rattle.cursor.proofs.Reading.{reading}
use Rattle.decls.specs.Pieces.{quote_next}

-- a quote mark is next or not, as b says
module _ (A B : Reader) (s : List ℕ) (at : ℕ) (b : Bool) (q : Said) (e : b ≡ quote_next (drop at s)) where
  pub quote_yes : b ≡ true → q ≡ read A s at → q ≡ read (on_quote A B) s at
  unfolding read on_quote on choose
  quote_yes f a = go (or_cases (starts (ascii "\"") (drop at s)) (starts (ascii "'") (drop at s)) (sym e ∙ f)) (starts (ascii "\"") (drop at s)) refl
    where
      go : (starts (ascii "\"") (drop at s) ≡ true) ⊎ (starts (ascii "'") (drop at s) ≡ true) → (t : Bool) → starts (ascii "\"") (drop at s) ≡ t → q ≡ read (on_quote A B) s at
      go x true g = a ∙ (rw g)
      go (inl y) false g = a ∙ (rw y)
      go (inr y) false g = a ∙ (rw (g, y))

  pub quote_no : b ≡ false → q ≡ read B s at → q ≡ read (on_quote A B) s at
  unfolding read on_quote on choose
  quote_no f a =
      a ∙ (rw (or_false_left (starts (ascii "\"") (drop at s)) (starts (ascii "'") (drop at s)) (sym e ∙ f), or_false_right (starts (ascii "\"") (drop at s)) (starts (ascii "'") (drop at s)) (sym e ∙ f)))

-- what code that goes by a quote mark searches
pub ruleset by_quotes = (quote_yes, quote_no, reading)

-- What does not end in a text, and where it was opened. Assumes nothing.
use mathlib.Core.Path.{◌≡◌, refl, sym, ◌∙◌}
use mathlib.Core.Bool.{Bool, true, false, ◌&&◌, ◌||◌, not, or-false}
use mathlib.Core.List.{List}
use Prim.Native.Nat.{ℕ, ◌-◌}
use native.Mathlib.Nat.{zero-add}
use borrow.Author.Rules.{rules}
use borrow.Author.Tests.{eq-eqb, ne_eqb, not-true, not-false}
use lib.Dec.{eqb, leb}
use lib.ListN.{get_or}
use Rattle.std.specs.Prelude.{Option, Some, None}
use Rattle.spec.specs.Basics.{pick}
use Rattle.spec.specs.Grammar.Languages.{ascii, one_of}
use Rattle.spec.specs.Reading.Document.{is_declaration}
use Rattle.spec.specs.Reading.Readers.{before}
use Rattle.spec.specs.Reading.Refusals.{Refusal, number}
use Rattle.spec.specs.Reading.Verdict.{in_declaration, last_less, sign_at, unended}
use Rattle.search.specs.FirstPlace.{first_place}
use Rattle.search.specs.Places.{found}
use Rattle.search.proofs.Finding.{was_nowhere, was_here}

-- a place within a declaration: t whether one begins, f where its "?>" stands
module _ (k : ℕ) (x : List ℕ) (t : Bool) (a : t ≡ is_declaration x) where
  pub in_none : t ≡ false → false ≡ in_declaration k x
  unfolding in_declaration
  in_none e = rw (sym a ∙ e)

  module _ (e : t ≡ true) (f : Option ℕ) (b : found f ≡ first_place (ascii "?>") x 0) where
    pub in_open : f ≡ None → false ≡ in_declaration k x
    unfolding in_declaration
    in_open g = rw (sym a ∙ e, was_nowhere (ascii "?>") x 0 f b g)

    pub in_closed : (j : ℕ) → f ≡ Some j → leb k j ≡ in_declaration k x
    unfolding in_declaration
    in_closed j g = let (c, h) = was_here (ascii "?>") x 0 f b j g in let i : j ≡ before (ascii "?>") x = h ∙ zero-add _ in rw (sym a ∙ e, c, i)

-- what does not end
pub unended_is : (r : Refusal) (k : ℕ) (x : List ℕ) (c : Bool) → c ≡ in_declaration k x → (eqb (number r) 7 && not c) ≡ unended r k x
unfolding unended
unended_is r k x c e = rw e

-- where the sign begins that ends at k
pub sign_none : (k : ℕ) (x : List ℕ) → k ≡ 0 → 0 ≡ sign_at k x
unfolding sign_at
sign_none k x e = rw e (go (one_of "\"'" (get_or x (0 - 1) 0)))
  where
    go : (t : Bool) → 0 ≡ pick t (0 - 1) 0
    go true = refl
    go false = refl

module _ (k : ℕ) (x : List ℕ) (b : ℕ) (e : b ≡ get_or x (k - 1) 0) where
  -- by the byte before k, a quote mark or not
  quoted : one_of "\"'" (get_or x (k - 1) 0) ≡ (eqb b 34 || eqb b 39)
  quoted = rw (← e) (simp or-false)

  pub sign_quote : (eqb b 34 || eqb b 39) ≡ true → k - 1 ≡ sign_at k x
  unfolding sign_at
  sign_quote f = rw (quoted ∙ f)

  pub sign_less : (r : ℕ) → (eqb b 34 || eqb b 39) ≡ false → r ≡ last_less k x → r ≡ sign_at k x
  unfolding sign_at
  sign_less r f g = g ∙ (rw (quoted ∙ f))

-- what each searches
pub ruleset declared_in = (in_none, in_open, in_closed, unended_is, not-true, not-false, rules)

pub ruleset signs = (sign_none, sign_quote, sign_less, rules)

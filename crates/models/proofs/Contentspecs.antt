-- Content specifications: what tells a mixed model from other groups, and what the readers search. Assumes nothing.
use mathlib.Core.Path.{◌≡◌, sym, ◌∙◌}
use mathlib.Core.Bool.{Bool, true, false, ◌&&◌}
use mathlib.Core.List.{List, [], ◌∷◌}
use Prim.Native.Nat.{ℕ, ◌+◌}
use native.Mathlib.Nat.{add_assoc}
use borrow.Author.Rules.{rules}
use lib.ListN.{drop}
use lib.Seq.{drop-drop}
use Rattle.spec.specs.Grammar.Characters.{space}
use Rattle.spec.specs.Reading.Readers.{starts, run}
use Rattle.error.proofs.Laws.{choose_yes, choose_no, refuses, ate_only, ate_not}
use Rattle.search.proofs.Words.{on_yes, on_no, word_fits}
use Rattle.cursor.proofs.Reading.{ate_next, ate_stop}
use Rattle.error.proofs.Whiles.{while_first}
use Rattle.models.proofs.Signs.{sign_ends, some_sign, steps}

-- "#PCDATA" after the '(' and white space: a is whether '(' stands at a place, and b whether the word p stands after the white space
module _ (p s : List ℕ) (at : ℕ) (a : Bool) (e : a ≡ starts (40 ∷ []) (drop at s)) where
  pub inner_none : a ≡ false → a ≡ (starts (40 ∷ []) (drop at s) && starts p (drop (1 + run space (drop 1 (drop at s))) (drop at s)))
  inner_none n = rw (sym e ∙ n) n

  pub inner_is : (i : ℕ) (b : Bool) → a ≡ true → i ≡ at + 1 + run space (drop (at + 1) s) → b ≡ starts p (drop i s)
      → b ≡ (starts (40 ∷ []) (drop at s) && starts p (drop (1 + run space (drop 1 (drop at s))) (drop at s)))
  inner_is i b y h f = f ∙ (rw (sym e ∙ y, drop-drop, drop-drop, h, add_assoc))

-- what a mixed model searches
pub ruleset mixing = (ate_next, ate_stop, while_first, sign_ends, some_sign, steps)

-- what tells the models apart, and the two words
pub ruleset modelled = (inner_none, inner_is, choose_yes, choose_no, on_yes, on_no, word_fits, refuses, rules)

pub ruleset specified = (ate_only, ate_not, rules)

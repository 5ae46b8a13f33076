-- An optional pseudo attribute, and the whole XML declaration. Assumes nothing.
use mathlib.Core.Path.{◌≡◌, refl, sym, ap, ◌∙◌}
use mathlib.Core.Bool.{Bool, true, false}
use mathlib.Core.List.{List}
use Prim.Native.Nat.{ℕ, ◌+◌}
use borrow.Author.Rules.{rules}
use lib.ListN.{length, drop}
use lib.Seq.{drop-drop}
use Rattle.std.specs.Prelude.{Ok, Err}
use Rattle.spec.specs.Grammar.Characters.{space}
use Rattle.spec.specs.Reading.Checks.{parse_eq_quoted}
use Rattle.spec.specs.Reading.Dtd.{skip_s, require_s}
use Rattle.spec.specs.Reading.Readers.{nothing, starts, run}
use Rattle.spec.specs.Reading.Refusals.{no_space, unexpected}
use Rattle.spec.proofs.Checks.XmlDecl.{declaration_agrees}
use Rattle.spec.proofs.Inside.Checks.{declaration_placed}
use Rattle.error.specs.Read.{Said, said, read, refused}
use Rattle.error.specs.declared.Fault.{Fault}
use Rattle.error.proofs.Laws.{seq_no, seq_at, choose_yes, choose_no, took_nothing}
use Rattle.source.proofs.Admitting.{calling}
use Rattle.source.proofs.Placing.{stopping}
use Rattle.search.proofs.Words.{word_then}
use Rattle.cursor.proofs.Eating.{eat_fits}
use Rattle.cursor.proofs.Spaces.{skip_takes, required_none, required_some}
use Rattle.checks.specs.Pieces.{pseudo_attr_of}

-- pseudo_attr: i is where its name is looked for, and b whether it stands there
module _ (name : List ℕ) (test : List ℕ → Bool) (s : List ℕ) (at i : ℕ) (b : Bool) (h : i ≡ at + run space (drop at s)) (e : b ≡ starts name (drop i s)) where
  named : b ≡ starts name (drop (run space (drop at s)) (drop at s))
  named = e ∙ ap (λ (k : ℕ). starts name (drop k s)) h ∙ ap (starts name) (sym (drop-drop (run space (drop at s)) at s))

  pub pseudo_none : b ≡ false → said (Ok at) ≡ read (pseudo_attr_of name test) s at
  unfolding pseudo_attr_of
  pseudo_none f = choose_no _ _ nothing s at b (said (Ok at)) named f (took_nothing s at)

  pub pseudo_tight : (x : Fault) → b ≡ true → i ≡ at → said (Err x) ≡ refused no_space at → said (Err x) ≡ read (pseudo_attr_of name test) s at
  unfolding pseudo_attr_of require_s
  pseudo_tight x f z g =
      choose_yes _ _ nothing s at b (said (Err x)) named f
      (seq_no require_s _ s at x (Err x) (required_none no_space skip_s s at _ i (skip_takes (drop at s)) h x z g) refl)

  pub pseudo_there : (q : Said) → b ≡ true → (i ≡ at → ⊥) → q ≡ read (parse_eq_quoted test) s (i + length name) → q ≡ read (pseudo_attr_of name test) s at
  unfolding pseudo_attr_of require_s
  pseudo_there q f z a =
      choose_yes _ _ nothing s at b q named f
      (seq_at require_s _ s at i (Ok i) q (required_some no_space skip_s s at _ i (skip_takes (drop at s)) h z) refl (word_then name s i b e unexpected (parse_eq_quoted test) q f a))

-- what a pseudo attribute searches, and the two calls on the whole
pub ruleset optional = (pseudo_none, pseudo_tight, pseudo_there, eat_fits, rules)

pub ruleset declaring = (declaration_agrees, calling)

pub ruleset located = (declaration_placed, stopping)

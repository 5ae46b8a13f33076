-- White space, and readers that take some bytes of which one at least is required. Assumes nothing.
use mathlib.Core.Path.{◌≡◌, refl, ◌∙◌}
use mathlib.Core.List.{List}
use Prim.Native.Nat.{ℕ, ◌+◌}
use native.Mathlib.Nat.{add-zero}
use native.Mathlib.Omega.{arith}
use borrow.Author.Rules.{rules}
use lib.ListN.{drop}
use Rattle.std.specs.Prelude.{Ok, Err}
use Rattle.spec.specs.Grammar.Characters.{space}
use Rattle.spec.specs.Reading.Refusals.{Refusal}
use Rattle.spec.specs.Reading.Readers.{ok, Reader, run, required}
use Rattle.spec.specs.Reading.Dtd.{skip_s}
use Rattle.spec.proofs.Base.Tests.{eqb_yes, eqb_no}
use Rattle.error.specs.Read.{said, read, refused}
use Rattle.error.specs.declared.Fault.{Fault}

-- what skip_s takes
pub skip_takes : (w : List ℕ) → skip_s w ≡ ok (run space w)
unfolding skip_s
skip_takes w = refl

-- R takes k bytes at a place, up to e
module _ (n : Refusal) (R : Reader) (s : List ℕ) (at k e : ℕ) (r : R (drop at s) ≡ ok k) (h : e ≡ at + k) where
  pub required_none : (x : Fault) → e ≡ at → said (Err x) ≡ refused n at → said (Err x) ≡ read (required n R) s at
  unfolding read required
  required_none x z f = let y : k ≡ 0 = omega arith in f ∙ (rw (r, eqb_yes k 0 y, add-zero))

  pub required_some : (e ≡ at → ⊥) → said (Ok e) ≡ read (required n R) s at
  unfolding read said required
  required_some z = rw (r, eqb_no k 0 (λ (y : k ≡ 0). z (omega arith)), h)

-- what asks for some searches
pub ruleset requiring = (skip_takes, required_none, required_some, rules)

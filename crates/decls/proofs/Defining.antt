-- The definitions of an attribute list, one after the other. Assumes nothing.
use mathlib.Core.Path.{◌≡◌, refl, sym, ap, ◌∙◌}
use mathlib.Core.Bool.{Bool, true, false}
use mathlib.Core.List.{List, [], ◌∷◌}
use Prim.Native.Nat.{ℕ, ◌<◌}
use native.Mathlib.Omega.{arith}
use borrow.Author.Tests.{eqb-false}
use lib.Dec.{eqb}
use Rattle.std.specs.Prelude.{Ok}
use Rattle.spec.specs.Basics.{pick}
use Rattle.spec.specs.Grammar.Names.{Dialect}
use Rattle.spec.specs.Reading.Refusals.{Refusal, no_space}
use Rattle.spec.specs.Reading.Readers.{Result, ok, err, Reader, on_ok, run, required}
use Rattle.spec.specs.Reading.Dtd.{skip_s, require_s, parse_att_def}
use Rattle.spec.proofs.Base.Loops.{Somes}
use Rattle.spec.proofs.Base.Results.{err_ok, ok_inj}
use Rattle.spec.proofs.Base.Somes.{some_then}
use Rattle.error.specs.Read.{said, read, Answer}
use Rattle.cursor.proofs.Reading.{skip_only}
use Rattle.decls.specs.Pieces.{more_left}
use Rattle.error.proofs.Whiles.{whiles}

pub left_ends : more_left [] ≡ false
unfolding run
left_ends = refl

-- what is required takes a byte or more, and so does a definition, which begins with white space
some_required : (n : Refusal) (R : Reader) → Somes (required n R)
unfolding required
some_required n R = record { some = λ b w. first (R (b ∷ w)) }
  where
    second : (k j : ℕ) (t : Bool) → eqb k 0 ≡ t → pick t (err n 0) (ok k) ≡ ok j → 0 < j
    second k j true f e = absurd (err_ok n j e)
    second k j false f e = let z : k ≡ j = ok_inj k j e in let y : k ≡ 0 → ⊥ = eqb-false k 0 f in omega arith

    first : (x : Result) (j : ℕ) → on_ok x (λ k. pick (eqb k 0) (err n 0) (ok k)) ≡ ok j → 0 < j
    first (ok k) j e = second k j (eqb k 0) refl e
    first (err m i) j e = absurd (err_ok m j e)

pub some_att_def : (D : Dialect) → Somes (parse_att_def D)
unfolding parse_att_def require_s
some_att_def D = some_then (required no_space skip_s) _ (some_required no_space skip_s)

-- what a turn of the loop answered
pub turn_at : (R : Reader) (s : List ℕ) (i j : ℕ) (r : Answer) → r ≡ Ok j → said r ≡ read R s i → said (Ok j) ≡ read R s i
turn_at R s i j r e a = sym (ap said e) ∙ a

pub ruleset defining = (left_ends, some_att_def, turn_at, skip_only, whiles)

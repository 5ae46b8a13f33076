-- checks.rs: is_ncname says yes exactly to what Namespaces' NCName derives. Assumes nothing.
use mathlib.Core.Path.{◌≡◌, refl}
use mathlib.Core.Bool.{true, ◌&&◌, not}
use mathlib.Core.List.{List, [], ◌∷◌}
use Prim.Native.Nat.{ℕ}
use lib.Dec.{eqb}
use Rattle.spec.specs.Grammar.Characters.{Text}
use Rattle.spec.specs.Grammar.Names.{Dialect, NCName, AsciiNames}
use Rattle.spec.specs.Reading.Checks.{is_ncname}
use Rattle.spec.specs.Reading.Readers.{number_of, contains}
use Rattle.spec.specs.Reading.Wellformed.{check_name}
use Rattle.spec.proofs.Agreement.Accepts.{Decides, zero_ok}
use Rattle.spec.proofs.Agreement.Holds.{free_holds}
use Rattle.spec.proofs.Base.Tests.{eqb-true, and_left, and_right, not-true}
use Rattle.spec.proofs.Dtd.Notations.{no_colon}
use Rattle.spec.proofs.Wellformed.Checks.{name_agrees}

pub ncname_decides : (D : Dialect) → AsciiNames D → Decides (is_ncname D) (NCName D)
unfolding is_ncname NCName
ncname_decides D A = record { answer = λ w t. (yes w t, no w); text = λ w n. (name_agrees D A).text w n.0 }
  where
    yes : (w : List ℕ) → Text w → (eqb (number_of (check_name D w)) 0 && not (contains (58 ∷ []) w)) ≡ true → NCName D w
    yes w t e =
        let a = eqb-true (number_of (check_name D w)) 0 (and_left (eqb (number_of (check_name D w)) 0) (not (contains (58 ∷ []) w)) e) in
        let b = not-true (contains (58 ∷ []) w) (and_right (eqb (number_of (check_name D w)) 0) (not (contains (58 ∷ []) w)) e) in
        let (k, f) = zero_ok (check_name D w) a in
        ((name_agrees D A).sound w k t f, free_holds ":" 58 [] refl tt w b)

    no : (w : List ℕ) → NCName D w → (eqb (number_of (check_name D w)) 0 && not (contains (58 ∷ []) w)) ≡ true
    no w n = let (k, f) = (name_agrees D A).complete w n.0 in rw (f, no_colon D A w n)

-- Whether demand 3 speaks of a text that the grammar derives, by computing. Assumes nothing.
use mathlib.Core.Bool.{Bool, true, false}
use mathlib.Core.List.{List}
use mathlib.Core.Logic.{inl, inr, ⊎_elim}
use mathlib.Core.Path.{◌≡◌, sym, ◌∙◌, ap}
use Prim.Native.Nat.{ℕ}
use Rattle.spec.specs.Grammar.Division.{Division}
use Rattle.spec.specs.Grammar.Doctype.{doctypedecl}
use Rattle.spec.specs.Grammar.Names.{Dialect, AsciiNames}
use Rattle.spec.specs.Premise.{bare, premise}
use Rattle.spec.specs.Promises.{Covered, no_subset, has_subset}
use Rattle.spec.specs.Reading.Entries.{declarations}
use Rattle.spec.proofs.Base.Tests.{T→true, true→T}
use Rattle.spec.proofs.Division.Places.{divided, front_declares, division_declares}

module _ (D : Dialect) where
  -- the entries that are met meet the premise; where there is no subset, there are none
  abbrev pub covers : List ℕ → Bool
  covers w = premise D bare w false (declarations D w)

  module _ (A : AsciiNames D) (w : List ℕ) where
    -- with a division, the entries are the division's
    calm_division : (v : Division D w) → covers w ≡ premise D bare w false v.entries
    calm_division v = ap (premise D bare w false) (division_declares D A w v)

    pub covered_yes : doctypedecl D w → covers w ≡ true → Covered D w
    covered_yes l e = ⊎_elim (λ f. no_subset f) (λ v. has_subset v (true→T (premise D bare w false v.entries) (sym (calm_division v) ∙ e))) ((divided D A w).0 l)

    pub covered_derived : Covered D w → doctypedecl D w
    covered_derived (no_subset f) = (divided D A w).1 (inl f)
    covered_derived (has_subset v p) = (divided D A w).1 (inr v)

    pub covered_covers : Covered D w → covers w ≡ true
    covered_covers (no_subset f) = ap (premise D bare w false) (front_declares D A w f)
    covered_covers (has_subset v p) = calm_division v ∙ T→true (premise D bare w false v.entries) p

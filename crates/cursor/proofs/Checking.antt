-- Checks of the text of a literal: public identifiers and attribute values. Assumes nothing.
use mathlib.Core.Path.{◌≡◌, ap, ◌∙◌}
use mathlib.Core.List.{List}
use Prim.Native.Nat.{ℕ, ◌+◌, ◌<◌, ◌≤◌}
use native.Mathlib.Nat.{add-zero}
use native.Mathlib.Omega.{arith}
use borrow.Author.Rules.{rules}
use lib.ListN.{length, drop, length-drop}
use Rattle.std.specs.Prelude.{Option, Some, None, Ok, Err}
use Rattle.spec.specs.Grammar.Languages.{ascii}
use Rattle.spec.specs.Grammar.Literals.{pubid_char}
use Rattle.spec.specs.Reading.Refusals.{bad_pubid, less_than}
use Rattle.spec.specs.Reading.Readers.{choose, run, refuse_at}
use Rattle.spec.specs.Reading.Wellformed.{check_char_refs}
use Rattle.spec.specs.Reading.Dtd.{check_pubid, check_att_value}
use Rattle.spec.proofs.Base.Places.{run_within}
use Rattle.spec.proofs.Base.Tests.{eqb_yes, eqb_no}
use Rattle.error.specs.Read.{Said, refused, said, read}
use Rattle.error.specs.declared.Fault.{Fault}
use Rattle.search.specs.FirstPlace.{first_place}
use Rattle.search.specs.Places.{found}
use Rattle.search.proofs.Finding.{was_nowhere, was_here, places_found}

-- the bytes of a public identifier, which end at i
module _ (t : List ℕ) (at i : ℕ) (e : i ≡ at + run pubid_char (drop at t)) where
  pub pubid_bad : (x : Fault) → i < length t → said (Err x) ≡ refused bad_pubid i → said (Err x) ≡ read check_pubid t at
  unfolding read check_pubid
  pubid_bad x h f =
      f ∙ (rw (eqb_no (run pubid_char (drop at t)) (length (drop at t)) (λ (f : run pubid_char (drop at t) ≡ length (drop at t)). omega (arith, length-drop at t))) (ap (refused bad_pubid) e))

  pub pubid_good : length t ≤ i → said (Ok at) ≡ read check_pubid t at
  unfolding read said check_pubid
  pubid_good h =
      let y = run_within pubid_char (drop at t) in
      rw (eqb_yes (run pubid_char (drop at t)) (length (drop at t)) (omega (arith, length-drop at t)), add-zero)

-- the first '<' in the text t, as r says
module _ (t : List ℕ) (at : ℕ) (r : Option ℕ) (e : found r ≡ first_place (ascii "<") t at) where
  pub value_less : (j : ℕ) (x : Fault) → r ≡ Some j → said (Err x) ≡ refused less_than j → said (Err x) ≡ read check_att_value t at
  unfolding read check_att_value choose refuse_at
  value_less j x y f = f ∙ (let (c, l) = was_here (ascii "<") t at r e j y in rw (c, l))

  pub value_refs : (q : Said) → r ≡ None → q ≡ read check_char_refs t at → q ≡ read check_att_value t at
  unfolding read check_att_value choose
  value_refs q n f = f ∙ (rw (was_nowhere (ascii "<") t at r e n))

-- what the checks search
pub ruleset checking = (pubid_bad, pubid_good, value_less, value_refs, places_found, rules)

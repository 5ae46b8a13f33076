-- What the test of an NCName searches. Assumes nothing.
use mathlib.Core.Path.{◌≡◌, refl, sym, ap, ◌∙◌}
use mathlib.Core.Bool.{Bool, false, ◌&&◌, not}
use mathlib.Core.List.{List, [], ◌∷◌}
use Prim.Native.Nat.{ℕ}
use native.Mathlib.Omega.{arith}
use Rattle.std.specs.Prelude.{Ok, Err, is_ok}
use Rattle.spec.specs.Grammar.AppendixB.{appendix_b}
use Rattle.spec.specs.Grammar.Names.{NCName}
use Rattle.spec.specs.Promises.{Tells}
use Rattle.spec.specs.Reading.Checks.{is_ncname}
use Rattle.spec.specs.Reading.Readers.{number_of, nothing, contains}
use Rattle.spec.specs.Reading.Source.{checked}
use Rattle.spec.specs.Reading.Wellformed.{check_name}
use Rattle.spec.proofs.Agreement.Accepts.{Decides, told, told_no}
use Rattle.spec.proofs.Base.Results.{number_pos}
use Rattle.spec.proofs.Base.Tests.{eqb_no}
use Rattle.spec.specs.Reading.Refusals.{number}
use Rattle.spec.proofs.Characters.AppendixB.{appendix_b_ascii}
use Rattle.spec.proofs.Checks.NCNames.{ncname_decides}
use Rattle.error.specs.Read.{Verdict, code, reason}
use Rattle.error.specs.declared.refusal.Refusal.{Refusal}
use Rattle.classes.specs.Classes.{dialect}
use Rattle.classes.specs.declared.Names.TheVariants.{AppendixB}

decided : Decides (is_ncname appendix_b) (NCName appendix_b)
decided = ncname_decides appendix_b appendix_b_ascii

-- the test is the name check and no colon; it holds of what the grammar derives
module _ (w : List ℕ) (r : Verdict) (e : code r ≡ checked nothing w) where
  pub ncname_refused : (x : Refusal) → r ≡ Err x → Tells (NCName appendix_b) w (code {A = Bool} (Err x)) false
  ncname_refused x f = told_no decided w (code {A = Bool} (Err x)) (sym (ap code f) ∙ e) (λ z. let y = number_pos (reason x) in omega arith)

  pub ncname_told : (u : Unit {0}) (m : Verdict) (t c : Bool) → r ≡ Ok u → code m ≡ number_of (check_name (dialect AppendixB) w) → t ≡ is_ok m → c ≡ contains (58 ∷ []) w → Tells (NCName appendix_b) w 0 (t && not c)
  unfolding dialect is_ncname
  ncname_told u m t c f g i h = told decided w 0 (t && not c) (sym (ap code f) ∙ e) refl (ap (λ (b : Bool). b && not c) i ∙ go m g)
    where
      go : (m : Verdict) → code m ≡ number_of (check_name (dialect AppendixB) w) → (is_ok m && not c) ≡ is_ncname appendix_b w
      go (Ok _) g = rw (← g, h)
      go (Err x) g = let y = number_pos (reason x) in rw (← g, eqb_no (number (reason x)) 0 (λ z. omega arith))

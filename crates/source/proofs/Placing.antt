-- The two numbers in front of a public call with their places, and what a check with a place promises. Assumes nothing.
use mathlib.Core.Path.{◌≡◌, sym, ap, ◌∙◌}
use mathlib.Core.Logic.{◌⊎◌, inl, inr}
use mathlib.Core.Bool.{Bool, true, false, true≢false}
use mathlib.Core.List.{List}
use Prim.Native.Nat.{ℕ, ◌<◌, ◌≤◌}
use native.Mathlib.Nat.{zero-add}
use native.Mathlib.Omega.{arith}
use borrow.Author.Rules.{rules}
use lib.Dec.{ltb}
use lib.ListN.{length}
use Rattle.std.specs.Prelude.{Ok, Err, IsErrAnd}
use Rattle.std.specs.Result.{result_from_control_flow}
use Rattle.std.proofs.Common.{Break, Continue}
use Rattle.std.proofs.lemmas.Result.{err_from_is_err_and}
use Rattle.spec.specs.Basics.{pick, limit}
use Rattle.spec.specs.Grammar.Characters.{Text}
use Rattle.spec.specs.Promises.{Stops}
use Rattle.spec.specs.Reading.Readers.{err, Reader, stop_of}
use Rattle.spec.specs.Reading.Refusals.{too_long, not_utf8}
use Rattle.spec.specs.Reading.Source.{utf8, admit, checked, checked_at}
use Rattle.spec.proofs.Characters.Valid.{utf8_cases, utf8_complete}
use Rattle.spec.proofs.Base.Tests.{leb_yes, leb_no}
use Rattle.utf8.specs.Seen.{accepts}
use Rattle.spec.proofs.Inside.Checks.{Placed}
use Rattle.error.specs.Read.{passed, refused, Answer, said, answer_number, answer_place, placed, read}
use Rattle.error.specs.declared.Fault.{Fault}
use Rattle.error.proofs.Laws.{was_ok, was_err, answered, answered_at}

-- what stands in front, by the length
front : (w : List ℕ) (t : Bool) → ltb limit (length w) ≡ t → read admit w 0 ≡ pick t (refused too_long 0) (placed 0 (utf8 w))
unfolding read admit
front w true e = rw e
front w false e = rw e

pub front_long : (w : List ℕ) (x : Fault) → limit < length w → said (Err x) ≡ refused too_long 0 → said (Err x) ≡ read admit w 0
front_long w x h e = e ∙ sym (front w true (leb_yes _ _ h))

-- and by whether the bytes are a text
module _ (w : List ℕ) (b : Bool) (h : length w ≤ limit) (e : b ≡ accepts (utf8 w)) where
  within : read admit w 0 ≡ placed 0 (utf8 w)
  within = front w false (leb_no _ _ (omega arith))

  pub front_accepted : b ≡ true → said (Ok (length w)) ≡ read admit w 0
  unfolding said
  front_accepted y = go (utf8_cases w) ∙ sym within
    where
      go : Text w ⊎ ((k : ℕ) × (utf8 w ≡ err not_utf8 k)) → passed (length w) ≡ placed 0 (utf8 w)
      go (inl t) = rw (utf8_complete w t, zero-add)
      go (inr (k, d)) = absurd (true≢false (sym y ∙ e ∙ ap accepts d))

  pub front_broken : (x : Fault) (k : ℕ) → b ≡ false → k ≡ stop_of (utf8 w) → said (Err x) ≡ refused not_utf8 k → said (Err x) ≡ read admit w 0
  front_broken x k n f g = g ∙ go (utf8_cases w) ∙ sym within
    where
      go : Text w ⊎ ((k : ℕ) × (utf8 w ≡ err not_utf8 k)) → refused not_utf8 k ≡ placed 0 (utf8 w)
      go (inl t) = absurd (true≢false (sym (ap accepts (utf8_complete w t)) ∙ sym e ∙ n))
      go (inr (j, d)) = ap (refused not_utf8) f ∙ (rw (d, zero-add))

-- A check with a place: a is what admit_at answered, and q what is given in the end.
module _ (rule : Reader) (P : Placed rule) (w : List ℕ) (a : Answer) (h : said a ≡ read admit w 0) where
  pub stop_refused : (x : Fault) → a ≡ Err x → Stops rule w (answer_number (Err x)) (answer_place (Err x))
  unfolding checked checked_at
  stop_refused x f =
      let (r, (j, (e, _))) = was_err admit w 0 x a h f in
      P.stops w (answer_number (Err x)) (answer_place (Err x)) (answered admit w (Err x) (sym (ap said f) ∙ h) ∙ (rw e)) (answered_at admit w (Err x) (sym (ap said f) ∙ h) ∙ (rw e))

  pub stop_read : (i : ℕ) (q : Answer) → a ≡ Ok i → said q ≡ read rule w 0 → Stops rule w (answer_number q) (answer_place q)
  unfolding checked checked_at
  stop_read i q f g =
      let (k, (d, _)) = was_ok admit w 0 i a h f in
      P.stops w (answer_number q) (answer_place q) (answered rule w q g ∙ (rw d)) (answered_at rule w q g ∙ (rw d))

  -- the same as `?` has it: b is where it goes on or leaves
  pub stop_left : (b : _) (f : _) (q : Answer) → a ≡ result_from_control_flow b → b ≡ Break f → IsErrAnd q (λ y. y ≡ f.0) → Stops rule w (answer_number q) (answer_place q)
  stop_left b f q g e k = let p = err_from_is_err_and q k in rw (p.1, p.2) (stop_refused f.0 (g ∙ ap result_from_control_flow e))

  pub stop_passed : (b : _) (i : ℕ) (q : Answer) → a ≡ result_from_control_flow b → b ≡ Continue i → said q ≡ read rule w 0 → Stops rule w (answer_number q) (answer_place q)
  stop_passed b i q g e k = stop_read i q (g ∙ ap result_from_control_flow e) k

-- what the proofs of this crate's functions search, and of other crates' checks with a place
pub ruleset placing = (front_accepted, front_long, front_broken, rules)

pub ruleset stopping = (stop_refused, stop_left, stop_read, stop_passed, rules)

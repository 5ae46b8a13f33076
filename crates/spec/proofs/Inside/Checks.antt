-- The public checks: a place lies within the text, 1 and 2 included, and what is accepted is read to the text's end. Assumes nothing.
use mathlib.Core.List.{List, [], ◌∷◌}
use mathlib.Core.Path.{◌≡◌, refl, sym, ap, ◌∙◌}
use Prim.Native.Nat.{ℕ, zero, suc, ◌-◌, ◌≤◌, ◌<◌}
use native.Mathlib.Omega.{arith}
use lib.Dec.{ltb}
use lib.ListN.{length, drop, length-drop}
use lib.Seq.{drop-drop, drop-nil}
use Rattle.spec.specs.Basics.{limit}
use Rattle.spec.specs.Grammar.Languages.{any}
use Rattle.spec.specs.Grammar.Names.{Dialect}
use Rattle.spec.specs.Promises.{Stops}
use Rattle.spec.specs.Reading.Checks.{check_declaration}
use Rattle.spec.specs.Reading.Dtd.{doctype_before, check_doctype}
use Rattle.spec.specs.Reading.Readers.{Result, ok, err, Reader, number_of, stop_of, on_ok, throughout, char}
use Rattle.spec.specs.Reading.Refusals.{bad_name, too_long, not_utf8, trailing}
use Rattle.spec.specs.Reading.Source.{utf8, admit, checked, checked_at}
use Rattle.spec.specs.Reading.Wellformed.{check_chars, check_char_refs, check_text, check_attr_value, check_name}
use Rattle.spec.proofs.Agreement.Accepts.{zero_ok}
use Rattle.spec.proofs.Agreement.Whole.{Ends, ends_seq, ends_at_end}
use Rattle.spec.proofs.Base.Loops.{Somes, through_turn, through_refused}
use Rattle.spec.proofs.Base.Results.{err_ok, past_ok}
use Rattle.spec.proofs.Base.Somes.{some_legal, some_ref_or_byte, some_text, some_attr}
use Rattle.spec.proofs.Inside.Readers.{in_chars, in_char_refs, in_text, in_attr_value, in_name, in_doctype, in_declaration}
use Rattle.spec.proofs.Inside.Ways.{Inside, stop_on, stop_pick, in_throughout, in_char}

-- a loop to the text's end takes the whole text
ends_to : (r : Reader) → Somes r → (d : ℕ) (w : List ℕ) → length w ≤ d → (k : ℕ) → throughout r w ≡ ok k → drop k w ≡ []
ends_to r s zero [] h k e = drop-nil k
ends_to r s (suc d) [] h k e = drop-nil k
ends_to r s zero (b ∷ w) h k e = absurd (omega arith)
ends_to r s (suc d) (b ∷ w) h k e = go (r (b ∷ w)) refl (λ x. ends_to r s d x)
  where
    go : (a : Result) → r (b ∷ w) ≡ a → ((x : List ℕ) → length x ≤ d → (j : ℕ) → throughout r x ≡ ok j → drop j x ≡ []) → drop k (b ∷ w) ≡ []
    go (err n i) f ih = absurd (err_ok n k (sym (through_refused r b w n f) ∙ e))
    go (ok i) f ih =
        let z : 0 < i = s.some b w i f in
        let (m, g, l) = past_ok i k (throughout r (drop i (b ∷ w))) (sym (through_turn r s b w i f) ∙ e) in
        ap (λ (x : ℕ). drop x (b ∷ w)) (sym l) ∙ sym (drop-drop m i (b ∷ w)) ∙ ih (drop i (b ∷ w)) (omega (arith, length-drop i (b ∷ w))) m g

ends_throughout : {r : Reader} → Somes r → Ends (throughout r)
ends_throughout {r} s w k e = ends_to r s (length w) w (omega arith) k e

in_admit : Inside admit
unfolding admit utf8
in_admit = record { inside = λ w. stop_pick (length w) (ltb limit (length w)) (err too_long 0) (throughout (char any not_utf8) w) (λ _. omega arith) (λ _. (in_throughout (in_char any not_utf8)).inside w) }

-- a check and its place
pub record Placed (rule : Reader) : Type 0 where
  pub stops : (w : List ℕ) (n p : ℕ) → n ≡ checked rule w → p ≡ checked_at rule w → Stops rule w n p

placed : {rule : Reader} → Inside rule → Ends rule → Placed rule
unfolding checked checked_at
placed {rule} a b = record {
  stops = λ w n p e f. record {
    number = e;
    place = f;
    within = rw f (stop_on (length w) (admit w) (λ k. rule w) (in_admit.inside w) (λ k g. a.inside w));
    whole = λ z. f ∙ whole w (admit w) (sym e ∙ z);
  };
}
  where
    whole : (w : List ℕ) (x : Result) → number_of (on_ok x (λ k. rule w)) ≡ 0 → stop_of (on_ok x (λ k. rule w)) ≡ length w
    whole w (err r j) e = let (k, f) = zero_ok (err r j) e in absurd (err_ok r k f)
    whole w (ok k) e =
        let (j, f) = zero_ok (rule w) e in
        let h : j ≤ length w = (let x = a.inside w in (rw f at x)) in
        let l : length w - j ≡ 0 = sym (length-drop j w) ∙ ap length (b w j f) in
        ap stop_of f ∙ (let z : j ≡ length w = omega arith in z)

pub chars_placed : Placed check_chars
unfolding check_chars
chars_placed = placed in_chars (ends_throughout some_legal)

pub char_refs_placed : Placed check_char_refs
unfolding check_char_refs
char_refs_placed = placed in_char_refs (ends_throughout some_ref_or_byte)

pub text_placed : Placed check_text
unfolding check_text
text_placed = placed in_text (ends_throughout some_text)

pub attr_value_placed : Placed check_attr_value
unfolding check_attr_value
attr_value_placed = placed in_attr_value (ends_throughout some_attr)

pub name_placed : (D : Dialect) → Placed (check_name D)
unfolding check_name
name_placed D = placed (in_name D) (ends_seq _ _ (ends_at_end bad_name))

pub doctype_placed : (D : Dialect) → Placed (check_doctype D)
unfolding check_doctype doctype_before
doctype_placed D = placed (in_doctype D) (ends_seq _ _ (ends_seq _ _ (ends_seq _ _ (ends_seq _ _ (ends_seq _ _ (ends_at_end trailing))))))

pub declaration_placed : Placed check_declaration
unfolding check_declaration
declaration_placed =
    placed in_declaration (ends_seq _ _ (ends_seq _ _ (ends_seq _ _ (ends_seq _ _ (ends_seq _ _ (ends_seq _ _ (ends_seq _ _ (ends_at_end trailing))))))))

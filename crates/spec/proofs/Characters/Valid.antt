-- The reader of UTF-8 and the grammar's texts; and what stands in front of every public call. Assumes nothing.
use mathlib.Core.Path.{◌≡◌, refl, sym, ◌∙◌, ap}
use mathlib.Core.Logic.{◌⊎◌, inl, inr, ⊎_elim}
use mathlib.Core.List.{List, [], ◌∷◌, ◌++◌}
use Prim.Native.Nat.{ℕ, zero, suc, ◌+◌, ◌≤◌, ◌<◌}
use native.Mathlib.Omega.{arith}
use lib.Dec.{ltb}
use lib.ListN.{length, drop, length-append, length-drop}
use lib.Seq.{drop-append_seam, drop_at}
use Rattle.spec.specs.Basics.{limit}
use Rattle.spec.specs.Grammar.Utf8.{scalar, encode}
use Rattle.spec.specs.Grammar.Languages.{Ch, Star, end, more, any}
use Rattle.spec.specs.Grammar.Characters.{Text}
use Rattle.spec.specs.Reading.Refusals.{Refusal, too_long, not_utf8}
use Rattle.spec.specs.Reading.Utf8.{Point, point, no_point, decode1}
use Rattle.spec.specs.Reading.Readers.{ok, err, past, char}
use Rattle.spec.specs.Reading.Source.{utf8, admit}
use Rattle.spec.proofs.Base.Tests.{T→true, true→T, leb_no, leb_false}
use Rattle.spec.proofs.Characters.Utf8.{Read, decode_read, decode_encode, no_point≢point, point_size}
use Rattle.spec.proofs.Base.Results.{err_ok, past_err, unless_refused}
use Rattle.spec.proofs.Base.Somes.{some_char}
use Rattle.spec.proofs.Base.Loops.{through_end, through_turn, through_refused}

-- the text's end, one code point, and what is none
pub utf8_end : utf8 [] ≡ ok 0
unfolding utf8
utf8_end = through_end (char any not_utf8)

pub utf8_turn : (w : List ℕ) (c k : ℕ) → decode1 w ≡ point c k → utf8 w ≡ past k (utf8 (drop k w))
unfolding utf8 char decode1
utf8_turn [] c k e = absurd (no_point≢point e)
utf8_turn (b ∷ w) c k e = through_turn (char any not_utf8) (some_char any not_utf8) b w k (rw e)

pub utf8_stop : (b : ℕ) (w : List ℕ) → decode1 (b ∷ w) ≡ no_point → utf8 (b ∷ w) ≡ err not_utf8 0
unfolding utf8 char
utf8_stop b w e = through_refused (char any not_utf8) b w not_utf8 (rw e)

-- a text, or no code point at some place of it
cases_to : (d : ℕ) (w : List ℕ) → length w ≤ d → Star (Ch any) w ⊎ ((k : ℕ) × (utf8 w ≡ err not_utf8 k))
cases_to zero [] h = inl (end refl)
cases_to (suc d) [] h = inl (end refl)
cases_to zero (b ∷ w) h = absurd (omega arith)
cases_to (suc d) (b ∷ w) h = go (decode1 (b ∷ w)) refl (λ x. cases_to d x)
  where
    go : (p : Point) → decode1 (b ∷ w) ≡ p → ((x : List ℕ) → length x ≤ d → Star (Ch any) x ⊎ ((k : ℕ) × (utf8 x ≡ err not_utf8 k))) → Star (Ch any) (b ∷ w) ⊎ ((k : ℕ) × (utf8 (b ∷ w) ≡ err not_utf8 k))
    go no_point f ih = inr (0, utf8_stop b w f)
    go (point c j) f ih =
        let r : Read c j (b ∷ w) = decode_read c j (b ∷ w) f in
        let n = point_size c j (b ∷ w) f in
        let l : suc (length w) ≡ length (encode c) + length r.rest = ap length r.split ∙ length-append (encode c) r.rest in
        let s : length (encode c) ≡ j = r.size in
        let x : drop j (b ∷ w) ≡ r.rest = ap (drop j) r.split ∙ drop_at (encode c) r.rest j s in
        ⊎_elim (λ t. inl (more (encode c) r.rest r.split (record { char = c; is_scalar = true→T (scalar c) r.is_scalar; in_class = tt; bytes = refl }) t))
        (λ (i, e). inr (j + i, utf8_turn (b ∷ w) c j f ∙ ap (λ (v : List ℕ). past j (utf8 v)) x ∙ (rw e)))
        (ih r.rest (omega arith))

pub utf8_cases : (w : List ℕ) → Text w ⊎ ((k : ℕ) × (utf8 w ≡ err not_utf8 k))
unfolding Text
utf8_cases w = cases_to (length w) w (omega arith)

-- what it takes is a text
pub utf8_sound : (w : List ℕ) (k : ℕ) → utf8 w ≡ ok k → Text w
utf8_sound w k e = ⊎_elim (λ t. t) (λ (j, f). absurd (err_ok not_utf8 k (sym f ∙ e))) (utf8_cases w)

-- and each text it takes whole
complete_to : {w : List ℕ} → Star (Ch any) w → utf8 w ≡ ok (length w)
complete_to (end e) = ap utf8 e ∙ utf8_end ∙ ap (λ (x : List ℕ). ok (length x)) (sym e)
complete_to (more u v e l s) =
    let c = l.char in
    let d : decode1 (encode c ++ v) ≡ point c (length (encode c)) = decode_encode c v (T→true (scalar c) l.is_scalar) in
    let f = e ∙ ap (λ (x : List ℕ). x ++ v) l.bytes in
    ap utf8 f ∙ utf8_turn (encode c ++ v) c (length (encode c)) d
    ∙ (rw (drop-append_seam (encode c) v, complete_to s, ← length-append (encode c) v, f))

pub utf8_complete : (w : List ℕ) → Text w → utf8 w ≡ ok (length w)
unfolding Text
utf8_complete w t = complete_to t

-- where it does not, it stops before the end
stop_to : (d : ℕ) (w : List ℕ) → length w ≤ d → (r : Refusal) (k : ℕ) → utf8 w ≡ err r k → k < length w
stop_to zero [] h r k e = absurd (err_ok r 0 (sym e ∙ utf8_end))
stop_to (suc d) [] h r k e = absurd (err_ok r 0 (sym e ∙ utf8_end))
stop_to zero (b ∷ w) h r k e = absurd (omega arith)
stop_to (suc d) (b ∷ w) h r k e = go (decode1 (b ∷ w)) refl (λ x. stop_to d x)
  where
    go : (p : Point) → decode1 (b ∷ w) ≡ p → ((x : List ℕ) → length x ≤ d → (r : Refusal) (k : ℕ) → utf8 x ≡ err r k → k < length x) → k < length (b ∷ w)
    go no_point f ih = let y : err r k ≡ err not_utf8 0 = sym e ∙ utf8_stop b w f in let z : k ≡ 0 = cc in omega arith
    go (point c j) f ih =
        let (i, g, l) = past_err j k r (utf8 (drop j (b ∷ w))) (sym (utf8_turn (b ∷ w) c j f) ∙ e) in
        let n = point_size c j (b ∷ w) f in
        let z : i < length (drop j (b ∷ w)) = ih (drop j (b ∷ w)) (omega (arith, length-drop j (b ∷ w))) r i g in
        omega (arith, length-drop j (b ∷ w))

pub utf8_inside : (w : List ℕ) (r : Refusal) (k : ℕ) → utf8 w ≡ err r k → k < length w
utf8_inside w r k e = stop_to (length w) w (omega arith) r k e

-- 1 before 2
pub admit_ok : (w : List ℕ) (k : ℕ) → admit w ≡ ok k → (length w ≤ limit) × Text w
unfolding admit
admit_ok w k e =
    let (f, g) = unless_refused too_long 0 (ltb limit (length w)) (utf8 w) k e in
    let h : length w < suc limit = leb_false (suc limit) (length w) f in
    (omega arith, utf8_sound w k g)

pub admits : (w : List ℕ) → length w ≤ limit → Text w → (k : ℕ) × (admit w ≡ ok k)
unfolding admit
admits w h t = (length w, rw (leb_no (suc limit) (length w) (omega arith), utf8_complete w t))

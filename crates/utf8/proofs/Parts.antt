-- Laws of a text looked at part by part: what stands after whole characters decides. Assumes nothing.
use mathlib.Core.Path.{◌≡◌, refl, sym, ap, ◌∙◌}
use mathlib.Core.Logic.{⊎_elim}
use mathlib.Core.Bool.{Bool, true, false, true≢false}
use mathlib.Core.List.{List, ◌++◌, append_assoc}
use Prim.Native.Nat.{ℕ, ◌+◌, ◌-◌, ◌≤◌}
use native.Mathlib.Omega.{arith}
use borrow.Author.Rules.{rules}
use lib.ListN.{length, take, drop, take-append-drop}
use lib.Seq.{drop-drop, drop-append_seam}
use Rattle.spec.specs.Grammar.Utf8.{scalar, encode}
use Rattle.spec.specs.Grammar.Languages.{Ch, Star, end, more, any}
use Rattle.spec.specs.Grammar.Characters.{Text}
use Rattle.spec.specs.Reading.Source.{utf8}
use Rattle.spec.proofs.Base.Places.{take_rest}
use Rattle.spec.proofs.Base.Tests.{T→true}
use Rattle.spec.proofs.Characters.Utf8.{decode_encode}
use Rattle.spec.proofs.Characters.Valid.{utf8_cases}
use Rattle.utf8.specs.Seen.{accepts}
use Rattle.utf8.specs.Passed.{Passed}
use Rattle.utf8.proofs.Decoding.{accepts_turn}

-- what follows a text decides
after_text : {u : List ℕ} → Star (Ch any) u → (v : List ℕ) → accepts (utf8 (u ++ v)) ≡ accepts (utf8 v)
after_text (end e) v = ap (λ (x : List ℕ). accepts (utf8 (x ++ v))) e
after_text (more a b e l s) v =
    let c = l.char in
    let f = ap (λ (x : List ℕ). x ++ v) (e ∙ ap (λ (x : List ℕ). x ++ b) l.bytes) ∙ append_assoc (encode c) b v in
    ap (λ (x : List ℕ). accepts (utf8 x)) f
    ∙ accepts_turn (encode c ++ (b ++ v)) c (length (encode c)) (decode_encode c (b ++ v) (T→true (scalar c) l.is_scalar))
    ∙ ap (λ (x : List ℕ). accepts (utf8 x)) (drop-append_seam (encode c) (b ++ v))
    ∙ after_text s v

after_valid : (u v : List ℕ) → true ≡ accepts (utf8 u) → accepts (utf8 (u ++ v)) ≡ accepts (utf8 v)
unfolding Text
after_valid u v e = ⊎_elim (λ t. after_text t v) (λ (k, f). absurd (true≢false (e ∙ ap accepts f))) (utf8_cases u)

-- a part from i to j was a text
part_passed : (s : List ℕ) (i j : ℕ) → i ≤ j → true ≡ accepts (utf8 (take (j - i) (drop i s))) → accepts (utf8 (drop j s)) ≡ accepts (utf8 (drop i s))
part_passed s i j h e =
    let n : i + (j - i) ≡ j = omega arith in
    let d : drop (j - i) (drop i s) ≡ drop j s = drop-drop (j - i) i s ∙ ap (λ (k : ℕ). drop k s) n in
    ap (λ (x : List ℕ). accepts (utf8 x)) (sym d)
    ∙ sym (after_valid (take (j - i) (drop i s)) (drop (j - i) (drop i s)) e)
    ∙ ap (λ (x : List ℕ). accepts (utf8 x)) (take-append-drop (j - i) (drop i s))

-- some blocks were passed
pub passed_none : (s : List ℕ) (at : ℕ) → Passed s at at
passed_none s at = record { onward = omega arith; inside = λ h. h; decides = refl }

-- a block of k bytes was a text
pub passed_block : (s : List ℕ) (at k : ℕ) → at + k ≤ length s → true ≡ accepts (utf8 (take (at + k - at) (drop at s))) → Passed s at (at + k)
passed_block s at k h e = record { onward = omega arith; inside = λ _. h; decides = part_passed s at (at + k) (omega arith) e }

pub passed_more : (s : List ℕ) (at i j : ℕ) → Passed s at i → Passed s i j → Passed s at j
passed_more s at i j a b = record { onward = omega (arith, a.onward, b.onward); inside = λ h. b.inside (a.inside h); decides = b.decides ∙ a.decides }

-- the loop over parts
module _ (s rest : List ℕ) (inv : accepts (utf8 rest) ≡ accepts (utf8 s)) where
  pub turn_skip : (k : ℕ) → Passed rest 0 k → accepts (utf8 (take (length rest - k) (drop k rest))) ≡ accepts (utf8 s)
  turn_skip k p = rw (take_rest rest k) (p.decides ∙ inv)

  pub turn_part : (j : ℕ) (t : Bool) → t ≡ false → (t ≡ false → true ≡ accepts (utf8 (take j rest))) → accepts (utf8 (drop j rest)) ≡ accepts (utf8 s)
  turn_part j t e f =
      sym (after_valid (take j rest) (drop j rest) (f e)) ∙ ap (λ (x : List ℕ). accepts (utf8 x)) (take-append-drop j rest) ∙ inv

-- what a loop over blocks searches, and the loop over parts
pub ruleset skipping = (passed_none, passed_more, rules)

pub ruleset parts = (turn_skip, turn_part, rules)

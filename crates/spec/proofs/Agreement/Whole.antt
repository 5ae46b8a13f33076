-- The text's end, white space before it, and readers of whole texts. Assumes nothing.
use mathlib.Core.Bool.{Bool, true, false}
use mathlib.Core.List.{List, [], ◌∷◌, ◌++◌, append-nil}
use mathlib.Core.Path.{◌≡◌, refl, sym, ◌∙◌, ap, subst}
use Prim.Native.Nat.{ℕ, suc, ◌<◌}
use native.Mathlib.Omega.{arith}
use lib.Dec.{T, ltb, eqb, eqb→eq}
use lib.ListN.{length, drop}
use lib.Seq.{drop-drop, drop-nil}
use Rattle.spec.specs.Basics.{pick}
use Rattle.spec.specs.Grammar.Characters.{Text, S?, space}
use Rattle.spec.specs.Grammar.Languages.{Lang, ◌·◌}
use Rattle.spec.specs.Reading.Dtd.{skip_s}
use Rattle.spec.specs.Reading.Readers.{ok, Reader, ◌>>◌, at_end}
use Rattle.spec.specs.Reading.Refusals.{Refusal, trailing}
use Rattle.spec.proofs.Agreement.Algebra.{ε, none_after}
use Rattle.spec.proofs.Agreement.Reads.{Took, Reads, Next, drop_took, took_none, seq}
use Rattle.spec.proofs.Agreement.Runs.{skip}
use Rattle.spec.proofs.Agreement.Signs.{kind, Class, ◌∪◌, by_signs, sub_refl}
use Rattle.spec.proofs.Base.Results.{err_ok, ok_inj, then_ok}
use Rattle.spec.proofs.Base.Tests.{leb_true}

-- the text's end
abbrev pub stop : Class
stop k = eqb k 129

pub stop_nil : (v : List ℕ) → T (stop (kind v)) → v ≡ []
unfolding kind
stop_nil [] t = refl
stop_nil (b ∷ v) t = absurd (go (ltb b 128) refl t)
  where
    go : (x : Bool) → ltb b 128 ≡ x → T (stop (pick x b 128)) → ⊥
    go true e h = let f : b < 128 = leb_true (suc b) 128 e in let g : b ≡ 129 = eqb→eq b 129 h in omega arith
    go false e h = h

pub at_end_reads : (n : Refusal) → Reads (at_end n) ε (Next stop) stop
unfolding at_end
at_end_reads n = record {
  sound = sound_by;
  complete = λ u v e t. ap (at_end n) (λ i. e i ++ stop_nil v t.it i) ∙ ap (λ (x : List ℕ). ok (length x)) (sym e);
  leads = λ u v e t. subst (λ (x : List ℕ). T (stop (kind (x ++ v)))) (sym e) t.it;
}
  where
    sound_by : (w : List ℕ) (k : ℕ) → Text w → at_end n w ≡ ok k → Took ε k w
    sound_by [] k tw e = took_none (ok_inj 0 k e) tw refl
    sound_by (b ∷ w) k tw e = absurd (err_ok n k e)

-- a reader that takes nothing but whole texts
abbrev pub Ends : Reader → Type 0
Ends r = (w : List ℕ) (k : ℕ) → r w ≡ ok k → drop k w ≡ []

pub ends_seq : (r s : Reader) → Ends s → Ends (r >> s)
ends_seq r s h w n e =
    let (k, j, _, g, l) = then_ok r s w n e in
    ap (λ (m : ℕ). drop m w) (sym l) ∙ sym (drop-drop j k w) ∙ h (drop k w) j g

pub ends_at_end : (n : Refusal) → Ends (at_end n)
unfolding at_end
ends_at_end n [] k e = drop-nil k
ends_at_end n (b ∷ w) k e = absurd (err_ok n k e)

pub record Whole (body : Reader) (B : Lang) : Type 0 where
  pub sound : (u : List ℕ) (j : ℕ) → Text u → body u ≡ ok j → B u
  pub complete : (u : List ℕ) → B u → body u ≡ ok (length u)

pub whole : {body : Reader} {B : Lang} {f : Class} → Reads body B (Next stop) f → Ends body → Whole body B
unfolding kind
whole {body} {B} a h = record {
  sound = λ u j tu e.
      let t : Took B j u = a.sound u j tu e in
      subst B (sym (t.split ∙ ap (λ (z : List ℕ). t.taken ++ z) (sym (drop_took t) ∙ h u j e) ∙ append-nil t.taken)) t.holds;
  complete = λ u b. ap body (sym (append-nil u)) ∙ a.complete u [] b (record { it = tt });
}

-- white space before the text's end: with the end it is white space still, and its first sign
pub blank_end : (u v : List ℕ) → S? u → Next stop v → S? (u ++ v)
blank_end u v s t = subst S? (sym (ap (λ (z : List ℕ). u ++ z) (stop_nil v t.it) ∙ append-nil u)) s

pub blank_first : (v : List ℕ) → S? v → T ((space ∪ stop) (kind v))
unfolding kind
blank_first v s = subst (λ (q : List ℕ). T ((space ∪ stop) (kind q))) (append-nil v) ((skip stop (by_signs tt)).leads v [] s (record { it = tt }))

-- the end of a declaration's body
pub blank_tail : Reads (skip_s >> at_end trailing) (S? · ε) (Next stop) (space ∪ stop)
blank_tail = seq (skip stop (by_signs tt)) sub_refl (at_end_reads trailing)

pub blank_meet : (u v : List ℕ) → (S? · ε) u → Next stop v → S? (u ++ v)
blank_meet u v c t = blank_end u v (none_after.to u c) t

-- Where the check of characters refuses: an illegal character begins there, and none before. Assumes nothing.
use mathlib.Core.Bool.{Bool, true, false}
use mathlib.Core.List.{List, [], ◌∷◌}
use mathlib.Core.Path.{◌≡◌, refl, ap, ◌∙◌}
use Prim.Native.Nat.{ℕ, zero, suc, ◌+◌, ◌<◌}
use native.Mathlib.Omega.{arith}
use lib.ListN.{drop}
use Rattle.spec.specs.Basics.{pick}
use Rattle.spec.specs.Reading.Refusals.{Refusal, illegal_char}
use Rattle.spec.specs.Reading.Readers.{Result, ok, err, past, refuse, choose, throughout, a_byte}
use Rattle.spec.specs.Reading.Wellformed.{illegal_here, legal_byte, check_chars}
use Rattle.spec.proofs.Base.Loops.{through_end, through_turn, through_refused}
use Rattle.spec.proofs.Base.Results.{one-add}
use Rattle.spec.proofs.Base.Somes.{some_legal}

-- what the check's answer says of the text
abbrev Told : List ℕ → Result → Type 0
Told w (ok k) = (i : ℕ) → illegal_here (drop i w) ≡ false
Told w (err r k) = (illegal_here (drop k w) ≡ true) × ((i : ℕ) → i < k → illegal_here (drop i w) ≡ false)

legal : (b : ℕ) (w : List ℕ) (t : Bool) → illegal_here (b ∷ w) ≡ t → legal_byte (b ∷ w) ≡ pick t (err illegal_char 0) (ok 1)
unfolding legal_byte choose refuse a_byte
legal b w true e = rw e
legal b w false e = rw e

none_left : (i : ℕ) → illegal_here (drop i []) ≡ false
unfolding illegal_here
none_left zero = refl
none_left (suc i) = refl

told : (w : List ℕ) → Told w (check_chars w)
unfolding check_chars
told [] = rw (through_end legal_byte) none_left
told (b ∷ w) = go (illegal_here (b ∷ w)) refl (throughout legal_byte w) refl (told w)
  where
    later : (x : Result) → illegal_here (b ∷ w) ≡ false → Told w x → Told (b ∷ w) (past 1 x)
    later (ok k) e h = all
      where
        all : (i : ℕ) → illegal_here (drop i (b ∷ w)) ≡ false
        all zero = e
        all (suc i) = h i
    later (err r k) e h = (ap (λ (n : ℕ). illegal_here (drop n (b ∷ w))) (one-add k) ∙ h.0, all)
      where
        all : (i : ℕ) → i < 1 + k → illegal_here (drop i (b ∷ w)) ≡ false
        all zero l = e
        all (suc i) l = h.1 i (omega arith)

    go : (t : Bool) → illegal_here (b ∷ w) ≡ t → (x : Result) → throughout legal_byte w ≡ x → Told w x → Told (b ∷ w) (throughout legal_byte (b ∷ w))
    go true e x f h = rw (through_refused legal_byte b w illegal_char (legal b w true e)) (e, λ i l. absurd (omega arith))
    go false e x f h = rw (through_turn legal_byte some_legal b w 1 (legal b w false e), f) (later x e h)

pub illegal_there : (w : List ℕ) (r : Refusal) (k : ℕ) → check_chars w ≡ err r k → illegal_here (drop k w) ≡ true
illegal_there w r k e = let h = told w in (rw e at h).0

pub none_before : (w : List ℕ) (r : Refusal) (k i : ℕ) → check_chars w ≡ err r k → i < k → illegal_here (drop i w) ≡ false
none_before w r k i e l = let h = told w in (rw e at h).1 i l

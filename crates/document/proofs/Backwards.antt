-- The last '<' of a text, from a search that goes backwards. Assumes nothing.
use mathlib.Core.Path.{◌≡◌, refl, sym, ap, ◌∙◌}
use mathlib.Core.Bool.{Bool, true, false, cond, not}
use mathlib.Core.List.{List, [], ◌∷◌, reverse, reverse-append}
use Prim.Native.Nat.{ℕ, zero, suc, ◌+◌, ◌-◌, ◌<◌, ◌≤◌}
use native.Mathlib.Omega.{arith}
use lib.Dec.{eqb, ltb}
use borrow.Author.Tests.{ltb-true, ltb-false}
use lib.ListN.{length, get_or, take, length-reverse, get_or-eq_default}
use lib.Seq.{take-suc, length-take-le}
use denote.Param.Members.{Mut}
use denote.Ref.{Bor}
use Rattle.std.proofs.Common.{Iter}
use Rattle.std.specs.Prelude.{Option, Some, None}
use Rattle.std.specs.Fn.{Called}
use Rattle.std.specs.Iterator.{YieldsThen, FindsPositionBack}
use Rattle.std.specs.List.{FoldsTo, position_or_len}
use Rattle.std.specs.Option.{unwrap_or, MatchOption, IsSomeAnd}
use Rattle.std.specs.Slice.Iter.{iter_rest, iter_steps_back}
use Rattle.std.proofs.lemmas.Iterator.{YieldsList}
use Rattle.std.proofs.lemmas.Iterator.Consumers.{YieldsList-from_shown}
use Rattle.std.proofs.lemmas.Iterator.Search.{position_from_yields_List}
use Rattle.spec.specs.Basics.{pick}
use Rattle.spec.specs.Reading.Verdict.{last_less}
use Rattle.spec.proofs.Base.Tests.{leb_yes, leb_no}

-- a slice from its back
from_back : (s : Iter ℕ) → YieldsList iter_steps_back (λ (y : Bor ℕ). y.now) s (reverse (iter_rest s))
from_back s = YieldsList-from_shown iter_steps_back (λ y. y.now) (λ u. reverse (iter_rest u)) (λ u t p. length-reverse _ ∙ p.0)
    (λ u x t p. ap reverse p ∙ reverse-append (iter_rest t) (x.now ∷ [])) s

abbrev less : ℕ → Bool
less b = eqb b 60

-- how many bytes stand behind the last '<'; all of them, where there is none
abbrev behind : List ℕ → ℕ
behind xs = position_or_len less (reverse xs)

-- what rposition answers, r, in n bytes
module _ {F : Type 0} {g : Mut F (Bor ℕ × Unit {0}) Bool} (s u : Iter ℕ) (f : F) (n : ℕ) (r : Option ℕ) (k : (y : Bor ℕ) (b : Bool) (q : F) → Called g f (y, tt) b q → (q ≡ f) × (b ≡ less y.now)) (size : n ≡ length (reverse (iter_rest s))) where
  at_last : (xs : List (Bor ℕ)) (j : F) (o : Option (Bor ℕ)) → YieldsThen iter_steps_back s xs o u → FoldsTo (λ p x q. Called g p (x, tt) false q) f xs j
      → MatchOption o (r ≡ None) (λ x. IsSomeAnd r (λ i. i + 1 + length xs ≡ n) × ((h : F) × Called g j (x, tt) true h)) → unwrap_or r 0 ≡ pick (ltb (behind (iter_rest s)) n) (n - 1 - behind (iter_rest s)) 0
  at_last xs j None y c m =
      go (ltb (behind (iter_rest s)) n) (position_from_yields_List less u f None (xs, None, j, y, c, refl) (from_back s) k ∙ ap (λ (l : ℕ). cond (ltb (behind (iter_rest s)) l) (Some (behind (iter_rest s))) None) (sym size))
    where
      go : (t : Bool) → None ≡ cond t (Some (behind (iter_rest s))) None → unwrap_or r 0 ≡ pick t (n - 1 - behind (iter_rest s)) 0
      go true e = cc
      go false e = ap (λ (o : Option ℕ). unwrap_or o 0) m
  at_last xs j (Some x) y c m =
      go (ltb (behind (iter_rest s)) n) r m.0
      (position_from_yields_List less u f (Some (length xs)) (xs, Some x, j, y, c, (refl, m.1)) (from_back s) k ∙ ap (λ (l : ℕ). cond (ltb (behind (iter_rest s)) l) (Some (behind (iter_rest s))) None) (sym size))
    where
      go : (t : Bool) (r : Option ℕ) → IsSomeAnd r (λ i. i + 1 + length xs ≡ n) → Some (length xs) ≡ cond t (Some (behind (iter_rest s))) None → unwrap_or r 0 ≡ pick t (n - 1 - behind (iter_rest s)) 0
      go true None h e = absurd h
      go true (Some i) h e = let z : length xs ≡ behind (iter_rest s) = cc in omega (arith, h)
      go false r h e = cc

  last_found : FindsPositionBack iter_steps_back g s f n r u → unwrap_or r 0 ≡ pick (ltb (behind (iter_rest s)) n) (n - 1 - behind (iter_rest s)) 0
  last_found d = at_last d.0 d.2 d.1 d.3 d.4 d.5

-- the same by steps from the back
less_back : (x : List ℕ) (k : ℕ) → k ≤ length x → pick (ltb (behind (take k x)) k) (k - 1 - behind (take k x)) 0 ≡ last_less k x
less_back x zero h = refl
less_back x (suc k) h =
    rw (take-suc x k 0 (omega arith), reverse-append) (go (less (get_or x k 0)) (behind (take k x)) (less_back x k (omega arith)))
  where
    go : (t : Bool) (p : ℕ) → pick (ltb p k) (k - 1 - p) 0 ≡ last_less k x
        → pick (ltb (cond (not t) (1 + p) 0) (suc k)) (suc k - 1 - cond (not t) (1 + p) 0) 0 ≡ pick t k (last_less k x)
    go true p e = rw (leb_yes 1 (suc k) (omega arith)) (omega arith)
    go false p e = on (ltb p k) refl e
      where
        on : (b : Bool) → ltb p k ≡ b → pick b (k - 1 - p) 0 ≡ last_less k x → pick (ltb (1 + p) (suc k)) (suc k - 1 - (1 + p)) 0 ≡ last_less k x
        on true f e = let h : p < k = ltb-true p k f in (rw (leb_yes (suc (1 + p)) (suc k) (omega arith))) ∙ (let z : suc k - 1 - (1 + p) ≡ k - 1 - p = omega arith in z) ∙ e
        on false f e = let h : k ≤ p = ltb-false p k f in (rw (leb_no (suc (1 + p)) (suc k) (omega arith))) ∙ e

-- behind the text's end there is none
less_past : (x : List ℕ) (k : ℕ) → length x ≤ k → last_less (length x) x ≡ last_less k x
less_past x k h = go k (k - length x) (omega arith)
  where
    go : (k n : ℕ) → k ≡ n + length x → last_less (length x) x ≡ last_less k x
    go k zero e = ap (λ (i : ℕ). last_less i x) (let z : length x ≡ k = omega arith in z)
    go zero (suc n) e = absurd (omega arith)
    go (suc k) (suc n) e = go k n (omega arith) ∙ (rw (get_or-eq_default x 0 {n = k} (omega arith)))

pub less_found : {F : Type 0} {g : Mut F (Bor ℕ × Unit {0}) Bool} (s u : Iter ℕ) (f : F) (x : List ℕ) (k m n : ℕ) (r : Option ℕ) → m ≤ k → m ≤ length x → (m < k → m ≡ length x) → n ≡ length (iter_rest s) → iter_rest s ≡ take m x
    → FindsPositionBack iter_steps_back g s f n r u → ((y : Bor ℕ) (b : Bool) (q : F) → Called g f (y, tt) b q → (q ≡ f) × (b ≡ less y.now)) → unwrap_or r 0 ≡ last_less k x
less_found s u f x k m n r a b c e y d closure =
    let l : n ≡ length (reverse (iter_rest s)) = e ∙ sym (length-reverse _) in
    let z : n ≡ m = e ∙ ap length y ∙ length-take-le m x b in
    last_found s u f n r closure l d ∙ (λ i. pick (ltb (behind (y i)) (z i)) (z i - 1 - behind (y i)) 0) ∙ less_back x m b ∙ to_end
  where
    to_end : last_less m x ≡ last_less k x
    to_end = go (k - m) refl
      where
        go : (j : ℕ) → k - m ≡ j → last_less m x ≡ last_less k x
        go zero h = ap (λ (i : ℕ). last_less i x) (let z : m ≡ k = omega arith in z)
        go (suc j) h = let z : m ≡ length x = c (omega arith) in ap (λ (i : ℕ). last_less i x) z ∙ less_past x k (omega arith)

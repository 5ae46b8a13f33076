-- The part of a text that is read: the longest that consists of characters of a class. Assumes nothing.
use mathlib.Core.Bool.{Bool}
use mathlib.Core.List.{List, ◌++◌, append_assoc, append_cancel_left}
use mathlib.Core.Path.{◌≡◌, refl, sym, ◌∙◌, ap, subst}
use Prim.Native.Nat.{ℕ, ◌+◌, ◌-◌, ◌≤◌, ◌<◌}
use native.Mathlib.Omega.{arith}
use lib.Dec.{T}
use lib.ListN.{length, take, drop, length-append}
use lib.Seq.{take_at, drop_at, take-add}
use Rattle.spec.specs.Grammar.Languages.{Ch, Star, end, more, any}
use Rattle.spec.specs.Grammar.Utf8.{scalar, encode}
use Rattle.spec.specs.Reading.Document.{legal_length, legal_part}
use Rattle.spec.specs.Reading.Refusals.{illegal_char}
use Rattle.spec.proofs.Agreement.Chars.{ch_some}
use Rattle.spec.proofs.Base.Tests.{T→true}
use Rattle.spec.proofs.Characters.Text.{read_point}
use Rattle.spec.proofs.Wellformed.LongestName.{Takes, chars_run}

-- a front part that is text of what consists of characters of a class does so too
pub class_front : {p : ℕ → Bool} {u : List ℕ} (v : List ℕ) → Star (Ch any) u → Star (Ch p) (u ++ v) → Star (Ch p) u
class_front v (end e) s = end e
class_front {p} {u} v (more x y e c t) s = go s refl (λ r. class_front v t r)
  where
    whole : u ++ v ≡ x ++ (y ++ v)
    whole = ap (λ (z : List ℕ). z ++ v) e ∙ append_assoc x y v

    go : {w : List ℕ} → Star (Ch p) w → w ≡ u ++ v → (Star (Ch p) (y ++ v) → Star (Ch p) y) → Star (Ch p) u
    go (end f) g ih =
        let a : length (u ++ v) ≡ length x + length (y ++ v) = ap length whole ∙ length-append x (y ++ v) in
        let b : length (u ++ v) ≡ 0 = ap length (sym g ∙ f) in
        let z : 0 < length x = ch_some x c in
        absurd (omega arith)
    go (more a b f d r) g ih =
        let same : c.char ≡ d.char =
        read_point c.char (y ++ v) d.char b (T→true (scalar c.char) c.is_scalar) (T→true (scalar d.char) d.is_scalar)
        (ap (λ (z : List ℕ). z ++ (y ++ v)) (sym c.bytes) ∙ sym whole ∙ sym g ∙ f ∙ ap (λ (z : List ℕ). z ++ b) d.bytes) in
        let k : x ++ b ≡ x ++ (y ++ v) = ap (λ (z : List ℕ). z ++ b) (c.bytes ∙ ap encode same ∙ sym d.bytes) ∙ sym f ∙ g ∙ whole in
        more x y e (record { char = c.char; is_scalar = c.is_scalar; in_class = subst (λ (z : ℕ). T (p z)) (sym same) d.in_class; bytes = c.bytes })
        (ih (subst (Star (Ch p)) (append_cancel_left x b (y ++ v) k) r))

module _ (p : ℕ → Bool) where
  pub legal_takes : (w : List ℕ) → Takes (Star (Ch p)) w (legal_length p w)
  unfolding legal_length
  legal_takes w = let (k, (e, t)) = chars_run p illegal_char w in rw e t

  -- what consists of characters of the class is read
  pub legal_keeps : (w u v : List ℕ) → w ≡ u ++ v → Star (Ch p) u → (x : List ℕ) × (legal_part p w ≡ u ++ x)
  legal_keeps w u v e c =
      let h : length u ≤ legal_length p w = (legal_takes w).longest u v e c in
      let m : ℕ = legal_length p w - length u in
      let n : legal_length p w ≡ length u + m = omega arith in (
        take m v,
        ap (λ (k : ℕ). take k w) n ∙ take-add (length u) m w
            ∙ (λ i. (ap (take (length u)) e ∙ take_at u v (length u) refl) i ++ take m ((ap (drop (length u)) e ∙ drop_at u v (length u) refl) i)),
      )

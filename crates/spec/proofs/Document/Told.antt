-- The DOCTYPE's text that a verdict tells lies within the text, and the grammar derives it. Assumes nothing.
use mathlib.Core.Bool.{Bool}
use mathlib.Core.List.{List, ◌∷◌, ◌++◌, append_assoc}
use mathlib.Core.Path.{◌≡◌, refl, sym, ◌∙◌, ap, subst}
use Prim.Native.Nat.{ℕ, ◌+◌, ◌-◌, ◌≤◌, ◌<◌}
use native.Mathlib.Omega.{arith}
use lib.ListN.{length, take, drop, length-append, length-drop}
use lib.Seq.{drop-drop, drop_at, take_at}
use Rattle.spec.specs.Grammar.Doctype.{doctypedecl, Misc}
use Rattle.spec.specs.Grammar.Languages.{ascii, ◌·◌, inl, inr, Star, Opt}
use Rattle.spec.specs.Grammar.Names.{Dialect, AsciiNames}
use Rattle.spec.specs.Grammar.Prolog.{no_doctype, from_to, Doctype, prolog, Begins, text_after, Document}
use Rattle.spec.specs.Reading.Verdict.{Verdict, accepted, refused, ended, rootless, number_in, doctype_in, mark_length, unmarked, moved_text, check_document}
use Rattle.spec.proofs.Characters.Text.{cat_before}
use Rattle.spec.proofs.Document.Whole.{document_right, parts_right}

no_text : (i j : ℕ) → no_doctype ≡ from_to i j → ⊥
no_text i j e = let z : ◌≡◌ {A = ℕ} 0 1 = cc in omega arith

-- only what is accepted has one
told_accepted : (v : Verdict) (i j : ℕ) → doctype_in v ≡ from_to i j → number_in v ≡ 0
told_accepted (accepted k t) i j e = refl
told_accepted (refused r k) i j e = absurd (no_text i j e)
told_accepted (ended r k l) i j e = absurd (no_text i j e)
told_accepted (rootless r k) i j e = absurd (no_text i j e)

module _ (D : Dialect) where
  abbrev pub Told : List ℕ → ℕ → ℕ → Type 0
  Told w i j = (i ≤ j) × ((j < length w) × doctypedecl D (take (j - i) (drop i w)))

  -- p the bytes before it
  told_at : (w p t y : List ℕ) (m : ℕ) → drop m w ≡ p ++ (t ++ 0x3E ∷ y) → doctypedecl D t → Told w (m + length p) (m + (length p + length t))
  told_at w p t y m e h =
      let i : ℕ = m + length p in
      let j : ℕ = m + (length p + length t) in
      let f : drop i w ≡ t ++ 0x3E ∷ y = sym (drop-drop (length p) m w) ∙ ap (drop (length p)) e ∙ drop_at p (t ++ 0x3E ∷ y) (length p) refl in
      let g : length t ≡ j - i = omega arith in
      let n : length (drop i w) ≡ length t + length (0x3E ∷ y) = ap length f ∙ length-append t (0x3E ∷ y) in (
        omega arith,
        (
          omega (arith, length-drop i w),
          subst (doctypedecl D) (sym (ap (take (j - i)) f ∙ take_at t (0x3E ∷ y) (j - i) g)) h,
        ),
      )

  module _ (A : AsciiNames D) where
    -- The theorem
    pub told_inside : (whole : Bool) (w : List ℕ) (i j : ℕ) → doctype_in (check_document D whole w) ≡ from_to i j → Told w i j
    told_inside whole w i j e =
        let d : Document D (unmarked w) = (document_right D A whole w).0 (told_accepted (check_document D whole w) i j e) in
        let b : Begins D _ (unmarked w) = d.begins in
        let o : prolog D b.front = b.is_prolog in
        go (b.root ++ b.rest) o.left o.right (b.split ∙ append_assoc b.front b.root b.rest ∙ cat_before o (b.root ++ b.rest)) o.second (ap doctype_in (sym (parts_right D A whole w d)) ∙ e)
      where
        go : (r x u : List ℕ) → unmarked w ≡ x ++ (u ++ r) → (o : Opt (Doctype D · Star (Misc D)) u) → moved_text (mark_length w) (text_after D (length x) o) ≡ from_to i j → Told w i j
        go r x u f (inr n) g = absurd (no_text i j g)
        go r x u f (inl l) g =
            let c : Doctype D l.left = l.first in
            let t : List ℕ = c.second.left in
            let y : List ℕ = l.right ++ r in
            let s : u ++ r ≡ ascii "<!DOCTYPE" ++ (t ++ 0x3E ∷ y) =
            cat_before l r ∙ cat_before c y ∙ (λ k. c.first k ++ (cat_before c.second y ∙ ap (λ (z : List ℕ). t ++ (z ++ y)) c.second.second) k) in
            let p : List ℕ = x ++ ascii "<!DOCTYPE" in
            let n : length p ≡ length x + 9 = length-append x (ascii "<!DOCTYPE") in
            let m : ℕ = mark_length w in
            let q : Told w (m + length p) (m + (length p + length t)) =
            told_at w p t y m (f ∙ ap (λ (z : List ℕ). x ++ z) s ∙ sym (append_assoc x (ascii "<!DOCTYPE") (t ++ 0x3E ∷ y))) c.second.first.0 in
            let a : m + length p ≡ i = ap (λ (z : ℕ). m + z) n ∙ (let z : m + (length x + 9) ≡ i = cc in z) in
            let h : m + (length p + length t) ≡ j = ap (λ (z : ℕ). m + (z + length t)) n ∙ (let z : m + (length x + 9 + length t) ≡ j = cc in z) in
            subst (λ (k : ℕ). Told w i k) h (subst (λ (k : ℕ). Told w k (m + (length p + length t))) a q)

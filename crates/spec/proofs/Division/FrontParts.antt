-- The quick scan of a front part: it is fixed by the scan of the whole, whatever the text. Assumes nothing.
use mathlib.Core.Bool.{Bool, true, false, ◌&&◌, ◌||◌, true≢false}
use mathlib.Core.List.{List, [], ◌∷◌}
use mathlib.Core.Logic.{◌⊎◌, inl, inr, ⊎_elim}
use mathlib.Core.Path.{◌≡◌, refl, sym, ◌∙◌, ap, subst}
use Prim.Native.Nat.{ℕ, zero, suc, ◌+◌, ◌≤◌, ◌<◌}
use native.Mathlib.Omega.{arith}
use lib.Dec.{ltb, eqb}
use lib.ListN.{length, take, drop, length-take}
use lib.Seq.{take-nil}
use Rattle.spec.specs.Basics.{pick}
use Rattle.spec.specs.Grammar.Languages.{ascii, one_of}
use Rattle.spec.specs.Reading.Readers.{starts, contains, before}
use Rattle.spec.specs.Reading.Places.{Place, at, nowhere, later, outside}
use Rattle.spec.specs.Reading.Scan.{subset_end}
use Rattle.spec.proofs.Agreement.Words.{starts_split, before_within}
use Rattle.spec.proofs.Base.Outside.{nowhere_at, at_inj}
use Rattle.spec.proofs.Base.Tests.{decide, leb_yes, leb_no, leb_true, leb_false, and_left, and_right, or_false_left, or_false_right, no→false, T→true}

-- a place, if it is one of the first k
abbrev pub cut_off : ℕ → Place → Place
cut_off k (at i) = pick (ltb i k) (at i) nowhere
cut_off k nowhere = nowhere

cut_zero : (p : Place) → cut_off 0 p ≡ nowhere
cut_zero (at i) = rw (leb_no (suc i) 0 (omega arith))
cut_zero nowhere = refl

cut_later : (k : ℕ) (p : Place) → later 1 (cut_off k p) ≡ cut_off (suc k) (later 1 p)
cut_later k nowhere = refl
cut_later k (at i) =
    ⊎_elim (λ e. let h : i < k = leb_true (suc i) k e in rw (e, leb_yes (suc (1 + i)) (suc k) (omega arith)))
    (λ e. let h : k < suc i = leb_false (suc i) k e in rw (e, leb_no (suc (1 + i)) (suc k) (omega arith))) (decide (ltb i k))

-- a later place is cut off
cut_late : (k : ℕ) (p : Place) → ((i : ℕ) → p ≡ at i → k ≤ i) → cut_off k p ≡ nowhere
cut_late k nowhere h = refl
cut_late k (at i) h = let g : k ≤ i = h i refl in rw (leb_no (suc i) k (omega arith))

-- the first byte of a class outside quotes, of which the first part of the scan is one
pub outside_cut : (p : ℕ → Bool) (q k : ℕ) (w : List ℕ) → outside p q (take k w) ≡ cut_off k (outside p q w)
unfolding outside
outside_cut p q zero w = sym (cut_zero (outside p q w))
outside_cut p q (suc k) [] = refl
outside_cut p zero (suc k) (b ∷ w) = go (p b) (outside_cut p (pick (one_of "\"'" b) b 0) k w)
  where
    go : (t : Bool) → outside p (pick (one_of "\"'" b) b 0) (take k w) ≡ cut_off k (outside p (pick (one_of "\"'" b) b 0) w)
        → pick t (at 0) (later 1 (outside p (pick (one_of "\"'" b) b 0) (take k w))) ≡ cut_off (suc k) (pick t (at 0) (later 1 (outside p (pick (one_of "\"'" b) b 0) w)))
    go true e = rw (leb_yes 1 (suc k) (omega arith))
    go false e = ap (later 1) e ∙ cut_later k (outside p (pick (one_of "\"'" b) b 0) w)
outside_cut p (suc q) (suc k) (b ∷ w) = ap (later 1) (outside_cut p (pick (eqb b (suc q)) 0 (suc q)) k w) ∙ cut_later k (outside p (pick (eqb b (suc q)) 0 (suc q)) w)

-- a word in a front part, and in the whole
starts_front : (p : List ℕ) (k : ℕ) (w : List ℕ) → starts p (take k w) ≡ true → starts p w ≡ true
unfolding starts
starts_front [] k w e = refl
starts_front (a ∷ p) zero w e = absurd (true≢false (sym e))
starts_front (a ∷ p) (suc k) [] e = e
starts_front (a ∷ p) (suc k) (b ∷ w) e = (λ i. and_left (eqb b a) (starts p (take k w)) e i && starts_front p k w (and_right (eqb b a) (starts p (take k w)) e) i)

starts_late : (p : List ℕ) (k : ℕ) (w : List ℕ) → starts p w ≡ true → starts p (take k w) ≡ false → k < length p
unfolding starts
starts_late [] k w e f = absurd (true≢false f)
starts_late (a ∷ p) zero w e f = omega arith
starts_late (a ∷ p) (suc k) [] e f = absurd (true≢false (sym e))
starts_late (a ∷ p) (suc k) (b ∷ w) e f =
    let h : k < length p = starts_late p k w (and_right (eqb b a) (starts p w) e) (ap (λ (t : Bool). t && starts p (take k w)) (sym (and_left (eqb b a) (starts p w) e)) ∙ f) in
    omega arith

not_both : (b : Bool) → b ≡ true → b ≡ false → ⊥
not_both b e f = true≢false (sym e ∙ f)

short : (k : ℕ) (w : List ℕ) → length (take k w) ≤ k
short k w = omega (arith, length-take k w)

contains_short : (a : ℕ) (p w : List ℕ) → length w < suc (length p) → contains (a ∷ p) w ≡ false
contains_short a p w h = no→false (contains (a ∷ p) w) (λ t. let l : before (a ∷ p) w + suc (length p) ≤ length w = before_within (a ∷ p) w (T→true (contains (a ∷ p) w) t) in omega arith)

contains_front : (a : ℕ) (p : List ℕ) (k : ℕ) (w : List ℕ) → contains (a ∷ p) (take k w) ≡ true → (contains (a ∷ p) w ≡ true) × (before (a ∷ p) (take k w) ≡ before (a ∷ p) w)
unfolding contains before
contains_front a p zero w e = absurd (true≢false (sym e))
contains_front a p (suc k) [] e = absurd (true≢false (sym e))
contains_front a p (suc k) (b ∷ w) e = go (starts (a ∷ p) (b ∷ take k w)) (starts (a ∷ p) (b ∷ w)) refl refl e (contains_front a p k w)
  where
    go : (s t : Bool) → starts (a ∷ p) (b ∷ take k w) ≡ s → starts (a ∷ p) (b ∷ w) ≡ t → (s || contains (a ∷ p) (take k w)) ≡ true
        → (contains (a ∷ p) (take k w) ≡ true → (contains (a ∷ p) w ≡ true) × (before (a ∷ p) (take k w) ≡ before (a ∷ p) w))
        → ((t || contains (a ∷ p) w) ≡ true) × (pick s 0 (suc (before (a ∷ p) (take k w))) ≡ pick t 0 (suc (before (a ∷ p) w)))
    go true true f g h ih = (refl, refl)
    go true false f g h ih = absurd (not_both (starts (a ∷ p) (b ∷ w)) (starts_front (a ∷ p) (suc k) (b ∷ w) f) g)
    go false true f g h ih =
        let x : suc k < suc (length p) = starts_late (a ∷ p) (suc k) (b ∷ w) g f in
        absurd (not_both (contains (a ∷ p) (take k w)) h (contains_short a p (take k w) (omega (arith, short k w))))
    go false false f g h ih = let (x, y) = ih h in (x, ap suc y)

contains_late : (a : ℕ) (p : List ℕ) (k : ℕ) (w : List ℕ) → contains (a ∷ p) w ≡ true → contains (a ∷ p) (take k w) ≡ false → k < before (a ∷ p) w + suc (length p)
unfolding contains before
contains_late a p zero w e f = omega arith
contains_late a p (suc k) [] e f = absurd (true≢false (sym e))
contains_late a p (suc k) (b ∷ w) e f = go (starts (a ∷ p) (b ∷ w)) refl e (contains_late a p k w)
  where
    go : (t : Bool) → starts (a ∷ p) (b ∷ w) ≡ t → (t || contains (a ∷ p) w) ≡ true → (contains (a ∷ p) w ≡ true → contains (a ∷ p) (take k w) ≡ false → k < before (a ∷ p) w + suc (length p))
        → suc k < pick t 0 (suc (before (a ∷ p) w)) + suc (length p)
    go true g h ih = let x : suc k < suc (length p) = starts_late (a ∷ p) (suc k) (b ∷ w) g (or_false_left (starts (a ∷ p) (b ∷ take k w)) (contains (a ∷ p) (take k w)) f) in omega arith
    go false g h ih = let x : k < before (a ∷ p) w + suc (length p) = ih h (or_false_right (starts (a ∷ p) (b ∷ take k w)) (contains (a ∷ p) (take k w)) f) in omega arith

-- nothing is found among bytes that are skipped
skip_late : (s q : ℕ) (w : List ℕ) (i : ℕ) → subset_end s q w ≡ at i → s ≤ i
unfolding subset_end
skip_late s q [] i e = absurd (nowhere_at i e)
skip_late zero q (b ∷ w) i e = omega arith
skip_late (suc s) q (b ∷ w) i e = go (subset_end s q w) refl e (skip_late s q w)
  where
    go : (p : Place) → subset_end s q w ≡ p → later 1 p ≡ at i → ((j : ℕ) → subset_end s q w ≡ at j → s ≤ j) → suc s ≤ i
    go nowhere f g ih = absurd (nowhere_at i g)
    go (at j) f g ih =
        let x : s ≤ j = ih j f in
        let y : 1 + j ≡ i = at_inj (1 + j) i g in
        omega arith

-- outside quotes, where a comment begins (w: what stands after its '<'), and where none does
abbrev comment_at : List ℕ → Place
comment_at w = pick (contains (ascii "-->") (drop 3 w)) (later 1 (subset_end (before (ascii "-->") (drop 3 w) + 6) 0 w)) nowhere

abbrev plain_at : ℕ → List ℕ → Place
plain_at b w = later 1 (subset_end 0 (pick (one_of "\"'" b) b 0) w)

comment_late : (k : ℕ) (v : List ℕ) → k < before (ascii "-->") v + 8 → cut_off k (comment_at (33 ∷ 45 ∷ 45 ∷ v)) ≡ nowhere
comment_late k v h = go (contains (ascii "-->") v)
  where
    after : (p : Place) → subset_end (before (ascii "-->") v + 6) 0 (33 ∷ 45 ∷ 45 ∷ v) ≡ p → (i : ℕ) → later 1 p ≡ at i → k ≤ i
    after nowhere e i f = absurd (nowhere_at i f)
    after (at j) e i f =
        let x : before (ascii "-->") v + 6 ≤ j = skip_late (before (ascii "-->") v + 6) 0 (33 ∷ 45 ∷ 45 ∷ v) j e in
        let y : 1 + j ≡ i = at_inj (1 + j) i f in
        omega arith

    go : (t : Bool) → cut_off k (pick t (later 1 (subset_end (before (ascii "-->") v + 6) 0 (33 ∷ 45 ∷ 45 ∷ v))) nowhere) ≡ nowhere
    go true = cut_late k (later 1 (subset_end (before (ascii "-->") v + 6) 0 (33 ∷ 45 ∷ 45 ∷ v))) (after (subset_end (before (ascii "-->") v + 6) 0 (33 ∷ 45 ∷ 45 ∷ v)) refl)
    go false = refl

abbrev CutAt : List ℕ → Type 0
CutAt w = (s q k : ℕ) → subset_end s q (take k w) ≡ cut_off k (subset_end s q w)

in_comment : (k : ℕ) (v : List ℕ) → CutAt (33 ∷ 45 ∷ 45 ∷ v)
    → pick (starts (ascii "<!--") (60 ∷ take k (33 ∷ 45 ∷ 45 ∷ v))) (comment_at (take k (33 ∷ 45 ∷ 45 ∷ v))) (plain_at 60 (take k (33 ∷ 45 ∷ 45 ∷ v))) ≡ cut_off (suc k) (comment_at (33 ∷ 45 ∷ 45 ∷ v))
unfolding starts subset_end
in_comment zero v ih = sym (comment_late 1 v (omega arith))
in_comment (suc zero) v ih = sym (comment_late 2 v (omega arith))
in_comment (suc (suc zero)) v ih = sym (comment_late 3 v (omega arith))
in_comment (suc (suc (suc k))) v ih = go (contains (ascii "-->") (take k v)) refl
  where
    go : (t : Bool) → contains (ascii "-->") (take k v) ≡ t → pick t (later 1 (subset_end (before (ascii "-->") (take k v) + 6) 0 (33 ∷ 45 ∷ 45 ∷ take k v))) nowhere ≡ cut_off (suc (suc (suc (suc k)))) (comment_at (33 ∷ 45 ∷ 45 ∷ v))
    go true e =
        let (f, g) = contains_front 45 (45 ∷ 62 ∷ []) k v e in
        rw (f, g) (ap (later 1) (ih (before (ascii "-->") v + 6) 0 (suc (suc (suc k)))) ∙ cut_later (suc (suc (suc k))) (subset_end (before (ascii "-->") v + 6) 0 (33 ∷ 45 ∷ 45 ∷ v)))
    go false e = sym (og (decide (contains (ascii "-->") v)))
      where
        og : (contains (ascii "-->") v ≡ true) ⊎ (contains (ascii "-->") v ≡ false) → cut_off (suc (suc (suc (suc k)))) (comment_at (33 ∷ 45 ∷ 45 ∷ v)) ≡ nowhere
        og (inl f) = let x : k < before (ascii "-->") v + 3 = contains_late 45 (45 ∷ 62 ∷ []) k v f e in comment_late (suc (suc (suc (suc k)))) v (omega arith)
        og (inr f) = rw f

not_quoted : (b k : ℕ) (w : List ℕ) → CutAt w → subset_end 0 0 (b ∷ take k w) ≡ cut_off (suc k) (subset_end 0 0 (b ∷ w))
unfolding subset_end
not_quoted b k w ih = by_close (one_of "]" b)
  where
    by_mark : (t : Bool) → starts (ascii "<!--") (b ∷ w) ≡ t → pick (starts (ascii "<!--") (b ∷ take k w)) (comment_at (take k w)) (plain_at b (take k w)) ≡ cut_off (suc k) (pick t (comment_at w) (plain_at b w))
    by_mark false e = og (starts (ascii "<!--") (b ∷ take k w)) refl
      where
        og : (t : Bool) → starts (ascii "<!--") (b ∷ take k w) ≡ t → pick t (comment_at (take k w)) (plain_at b (take k w)) ≡ cut_off (suc k) (plain_at b w)
        og true f = absurd (not_both (starts (ascii "<!--") (b ∷ w)) (starts_front (ascii "<!--") (suc k) (b ∷ w) f) e)
        og false f = ap (later 1) (ih 0 (pick (one_of "\"'" b) b 0) k) ∙ cut_later k (subset_end 0 (pick (one_of "\"'" b) b 0) w)
    by_mark true e =
        let (v, f) = starts_split (ascii "<!--") (b ∷ w) e in
        let p : b ≡ 60 = cc in
        let q : w ≡ 33 ∷ 45 ∷ 45 ∷ v = cc in
        begun p q
      where
        begun : {v : List ℕ} → b ≡ 60 → w ≡ 33 ∷ 45 ∷ 45 ∷ v → pick (starts (ascii "<!--") (b ∷ take k w)) (comment_at (take k w)) (plain_at b (take k w)) ≡ cut_off (suc k) (comment_at w)
        begun {v} p q =
            ap (λ (c : ℕ). pick (starts (ascii "<!--") (c ∷ take k w)) (comment_at (take k w)) (plain_at c (take k w))) p
            ∙ ap (λ (x : List ℕ). pick (starts (ascii "<!--") (60 ∷ take k x)) (comment_at (take k x)) (plain_at 60 (take k x))) q
            ∙ in_comment k v (subst CutAt q ih) ∙ ap (λ (x : List ℕ). cut_off (suc k) (comment_at x)) (sym q)

    by_close : (t : Bool) → pick t (at 0) (pick (starts (ascii "<!--") (b ∷ take k w)) (comment_at (take k w)) (plain_at b (take k w))) ≡ cut_off (suc k) (pick t (at 0) (pick (starts (ascii "<!--") (b ∷ w)) (comment_at w) (plain_at b w)))
    by_close true = rw (leb_yes 1 (suc k) (omega arith))
    by_close false = by_mark (starts (ascii "<!--") (b ∷ w)) refl

-- the second part of the scan
pub end_cut : (w : List ℕ) (s q k : ℕ) → subset_end s q (take k w) ≡ cut_off k (subset_end s q w)
unfolding subset_end
end_cut [] s q k = ap (subset_end s q) (take-nil k)
end_cut (b ∷ w) s q zero = sym (cut_zero (subset_end s q (b ∷ w)))
end_cut (b ∷ w) (suc s) q (suc k) = ap (later 1) (end_cut w s q k) ∙ cut_later k (subset_end s q w)
end_cut (b ∷ w) zero (suc q) (suc k) = ap (later 1) (end_cut w 0 (pick (eqb b (suc q)) 0 (suc q)) k) ∙ cut_later k (subset_end 0 (pick (eqb b (suc q)) 0 (suc q)) w)
end_cut (b ∷ w) zero zero (suc k) = not_quoted b k w (λ s q k. end_cut w s q k)

-- Demand 3's promise on cut texts. Assumes nothing.
use mathlib.Core.Bool.{Bool, true, false}
use mathlib.Core.List.{List, [], ◌∷◌, ◌++◌, append_assoc, append-nil}
use mathlib.Core.Logic.{◌⊎◌, inl, inr}
use mathlib.Core.Path.{◌≡◌, refl, sym, ◌∙◌, ap}
use Prim.Native.Nat.{ℕ, suc, ◌+◌, ◌-◌, ◌≤◌, ◌<◌}
use native.Mathlib.Omega.{arith}
use lib.Dec.{T, leb, ltb}
use lib.ListN.{length, take, drop, length-append}
use lib.Seq.{take-append-add, drop_at}
use Rattle.spec.specs.Basics.{pick}
use Rattle.spec.specs.Grammar.Division.{Front, Kind, element, attlist, entity, notation, instruction, comment, reference}
use Rattle.spec.specs.Grammar.Names.{Dialect, AsciiNames}
use Rattle.spec.specs.Premise.{bare, premised, promised, quiet}
use Rattle.spec.specs.Grammar.Languages.{one_of}
use Rattle.spec.specs.Reading.Places.{Place, at, nowhere, later, outside}
use Rattle.spec.specs.Reading.Scan.{subset_open, subset_end, not_opened, not_closed, closed, scan, scan_from, scan_after}
use Rattle.spec.proofs.Base.Tests.{T→true, true→T, decide, leb_yes, leb_no, leb_true, leb_false, both, both_left, both_right}
use Rattle.spec.proofs.Division.Clear.{Clear, clear_front, clear_filling, bare_quoting}
use Rattle.spec.proofs.Division.FrontParts.{cut_off, outside_cut, end_cut}
use Rattle.spec.proofs.Division.Parts.{Filling, last, next, Premise, CutsParts}
use Rattle.spec.proofs.Division.Quoting.{quoting, paired}

-- where the scan passes a part, it finds what stands next
pub found_after : (f : List ℕ → Place) (x r : List ℕ) → Clear f x → f r ≡ at 0 → f (x ++ r) ≡ at (length x)
found_after f x r c e = c r ∙ ap (later (length x)) e ∙ (let n : length x + 0 ≡ length x = omega arith in ap at n)

pub found_none : (f : List ℕ → Place) (x : List ℕ) → Clear f x → f [] ≡ nowhere → f x ≡ nowhere
found_none f x c e = ap f (sym (append-nil x)) ∙ c [] ∙ ap (later (length x)) e

-- a text x [ y, scanned up to a cut, where the first part finds the [ and the second finds a ] after j bytes
cut_scan : (x y : List ℕ) (j cut : ℕ) → subset_open (x ++ 91 ∷ y) ≡ at (length x) → subset_end 0 0 y ≡ at j
    → scan (take cut (x ++ 91 ∷ y)) ≡ promised (length x) (suc (length x) + j) cut
unfolding scan
cut_scan x y j cut o c = go (decide (leb cut (length x)))
  where
    w : List ℕ
    w = x ++ 91 ∷ y

    opened : subset_open (take cut w) ≡ cut_off cut (at (length x))
    opened = outside_cut (one_of "[") 0 cut w ∙ ap (cut_off cut) o

    rest : (k : ℕ) → suc (length x) + k ≡ cut → drop (suc (length x)) (take cut w) ≡ take k y
    rest k e =
        let p : List ℕ = x ++ (91 ∷ []) in
        let n : length p ≡ suc (length x) = omega (arith, length-append x (91 ∷ [])) in
        let m : length p + k ≡ cut = omega arith in
        ap (drop (suc (length x))) (ap (take cut) (sym (append_assoc x (91 ∷ []) y)) ∙ ap (λ (i : ℕ). take i (p ++ y)) (sym m) ∙ take-append-add p y k) ∙ drop_at p (take k y) (suc (length x)) n

    ended : (k : ℕ) → suc (length x) + k ≡ cut → subset_end 0 0 (drop (suc (length x)) (take cut w)) ≡ cut_off k (at j)
    ended k e = ap (subset_end 0 0) (rest k e) ∙ end_cut y 0 0 k ∙ ap (cut_off k) c

    by_close : (k : ℕ) → suc (length x) + k ≡ cut → (ltb j k ≡ true) ⊎ (ltb j k ≡ false)
        → scan_after (suc (length x)) (cut_off k (at j)) ≡ pick (leb cut (suc (length x) + j)) not_closed (closed (suc (length x) + j))
    by_close k e (inl t) = let h : j < k = leb_true (suc j) k t in rw (t, leb_no cut (suc (length x) + j) (omega arith))
    by_close k e (inr t) = let h : k < suc j = leb_false (suc j) k t in rw (t, leb_yes cut (suc (length x) + j) (omega arith))

    go : (leb cut (length x) ≡ true) ⊎ (leb cut (length x) ≡ false) → scan_from (take cut w) (subset_open (take cut w)) ≡ promised (length x) (suc (length x) + j) cut
    go (inl t) =
        let h : cut ≤ length x = leb_true cut (length x) t in
        rw (t, opened, leb_no (suc (length x)) cut (omega arith))
    go (inr t) =
        let h : length x < cut = leb_false cut (length x) t in
        let k : ℕ = cut - suc (length x) in
        let e : suc (length x) + k ≡ cut = omega arith in
        ap (scan_from (take cut w)) (opened ∙ is_in h) ∙ ap (scan_after (suc (length x))) (ended k e) ∙ by_close k e (decide (ltb j k))
        ∙ ap (λ (b : Bool). pick b not_opened (pick (leb cut (suc (length x) + j)) not_closed (closed (suc (length x) + j)))) (sym t)
      where
        is_in : length x < cut → cut_off cut (at (length x)) ≡ at (length x)
        is_in h = rw (leb_yes (suc (length x)) cut h)

module _ (D : Dialect) (A : AsciiNames D) where
  -- where instructions may hold paired quotes, a wider premise
  pub cuts_parts_quoting : CutsParts D quoting
  cuts_parts_quoting w d h cut =
      ap (λ (z : List ℕ). scan (take cut z)) d.split
      ∙ cut_scan d.front (d.inner ++ (93 ∷ d.back)) (length d.inner) cut
      (found_after subset_open d.front (91 ∷ (d.inner ++ (93 ∷ d.back))) (clear_front D A d.front d.heads) (unfold outside in refl))
      (found_after (subset_end 0 0) d.inner (93 ∷ d.back) (clear_filling D A d.fills h) (unfold subset_end in refl))

  -- with demand 3's own premise
  weaker : (pe : Bool) (k : Kind) (y : List ℕ) → T (premised D bare pe k y) → T (premised D quoting pe k y)
  weaker pe element y t = t
  weaker pe attlist y t = t
  weaker pe entity y t = t
  weaker pe notation y t = t
  weaker pe instruction y t = let (a, b) = bare_quoting y (T→true (bare y) t) in both (paired 0 y) (quiet 0 y) (true→T (paired 0 y) a) (true→T (quiet 0 y) b)
  weaker pe comment y t = t
  weaker pe reference y t = t

  pub weaken : {pe : Bool} {w : List ℕ} (f : Filling D pe w) → T (Premise D bare f) → T (Premise D quoting f)
  weaken (last b) t = tt
  weaken (next {pe = pe} k s y z e b l f) t =
      both (premised D quoting pe k y) (Premise D quoting f) (weaker pe k y (both_left (premised D bare pe k y) (Premise D bare f) t)) (weaken f (both_right (premised D bare pe k y) (Premise D bare f) t))

  pub cuts_parts : CutsParts D bare
  cuts_parts w d h cut = cuts_parts_quoting w d (weaken d.fills h) cut

  -- a text without a subset
  pub cuts_without : (w : List ℕ) → Front D w → (cut : ℕ) → scan (take cut w) ≡ not_opened
  unfolding scan outside
  cuts_without w l cut =
      ap (scan_from (take cut w)) (outside_cut (one_of "[") 0 cut w ∙ ap (cut_off cut) (found_none subset_open w (clear_front D A w l) refl))

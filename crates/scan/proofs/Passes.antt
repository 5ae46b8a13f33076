-- Laws of the two passes: to the sign that opens the subset, and to the one that ends it. Assumes nothing.
use mathlib.Core.Path.{◌≡◌, refl, sym, ap, ◌∙◌}
use mathlib.Core.Bool.{Bool, true, false, ◌||◌}
use mathlib.Core.List.{List, [], ◌∷◌}
use mathlib.Core.Logic.{⊎_elim}
use Prim.Native.Nat.{ℕ, zero, suc, ◌+◌, ◌-◌, ◌^◌, ◌<◌, ◌≤◌}
use native.Mathlib.Nat.{add-zero}
use native.Mathlib.Omega.{arith}
use borrow.Author.Rules.{rules}
use mir.Syntax.{w64}
use mir.Val.{Fits}
use lib.Dec.{eqb}
use lib.ListN.{length, get_or, drop, length-drop}
use lib.Seq.{drop-drop}
use Rattle.spec.specs.Basics.{pick}
use Rattle.spec.specs.Grammar.Languages.{ascii, one_of}
use Rattle.spec.specs.Reading.Places.{Place, at, nowhere, later, outside}
use Rattle.spec.specs.Reading.Readers.{starts, contains, before}
use Rattle.spec.specs.Reading.Scan.{subset_open, subset_end}
use Rattle.spec.proofs.Agreement.Words.{starts_split}
use Rattle.spec.proofs.Base.Outside.{later_zero, later_suc}
use Rattle.spec.proofs.Base.Places.{drop_at, drop_end}
use Rattle.spec.proofs.Base.Tests.{two_signs}
use Rattle.search.specs.FirstPlace.{first_place}
use Rattle.search.specs.Places.{found, place_from, either}
use Rattle.std.specs.Prelude.{Option, Some, None}
use Rattle.search.proofs.Finding.{was_nowhere, was_here, here_onward, here_fits}
use Rattle.search.proofs.Outside.{sign_in, sign_less, sign_hit, outside_one, signs_found}
use Rattle.search.proofs.Placing.{from_onward, from_nowhere, from_here}

-- the first pass
pub open_found : (s : List ℕ) (i : ℕ) (r : Option ℕ) → found r ≡ place_from (outside (either 91 91) 0) s i → found r ≡ place_from subset_open s i
unfolding place_from
open_found s i r a = a ∙ ap (later i) (outside_one 91 0 (drop i s))

-- The second pass goes on at the next ']' or '<' outside quotes.
abbrev resumed : List ℕ → Place → Place
resumed w (at k) = later k (subset_end 0 0 (drop k w))
resumed w nowhere = nowhere

resumed_later : (b : ℕ) (w : List ℕ) (p : Place) → later 1 (resumed w p) ≡ resumed (b ∷ w) (later 1 p)
resumed_later b w nowhere = refl
resumed_later b w (at k) = later_suc k (subset_end 0 0 (drop k w)) ∙ (let e : suc k ≡ 1 + k = omega arith in ap (λ (n : ℕ). later n (subset_end 0 0 (drop n (b ∷ w)))) e)

end_plain : (b : ℕ) (w : List ℕ) → eqb b 93 ≡ false → eqb b 60 ≡ false → subset_end 0 0 (b ∷ w) ≡ later 1 (subset_end 0 (pick (one_of "\"'" b) b 0) w)
unfolding subset_end starts
end_plain b w e f = rw (e, f)

end_outside : (q : ℕ) (w : List ℕ) → subset_end 0 q w ≡ resumed w (outside (either 93 60) q w)
unfolding subset_end outside
end_outside q [] = refl
end_outside zero (b ∷ w) = go (eqb b 93) (eqb b 60) refl refl (end_outside (pick (one_of "\"'" b) b 0) w)
  where
    state : ℕ
    state = pick (one_of "\"'" b) b 0

    go : (x y : Bool) → eqb b 93 ≡ x → eqb b 60 ≡ y → subset_end 0 state w ≡ resumed w (outside (either 93 60) state w)
        → subset_end 0 0 (b ∷ w) ≡ resumed (b ∷ w) (pick (x || (y || false)) (at 0) (later 1 (outside (either 93 60) state w)))
    go true y e f ih = later_zero (subset_end 0 0 (b ∷ w))
    go false true e f ih = later_zero (subset_end 0 0 (b ∷ w))
    go false false e f ih = end_plain b w e f ∙ ap (later 1) ih ∙ resumed_later b w (outside (either 93 60) state w)
end_outside (suc q) (b ∷ w) = ap (later 1) (end_outside (pick (eqb b (suc q)) 0 (suc q)) w) ∙ resumed_later b w (outside (either 93 60) (pick (eqb b (suc q)) 0 (suc q)) w)

-- a comment: bytes counted off, also past the end
end_skip : (n : ℕ) (w : List ℕ) → subset_end n 0 w ≡ later n (subset_end 0 0 (drop n w))
unfolding subset_end
end_skip zero w = later_zero (subset_end 0 0 w)
end_skip (suc n) [] = refl
end_skip (suc n) (b ∷ w) = ap (later 1) (end_skip n w) ∙ later_suc n (subset_end 0 0 (drop n w))

end_comment : (v : List ℕ) (n : ℕ) → contains (ascii "-->") v ≡ true → n ≡ before (ascii "-->") v + 7 → subset_end 0 0 (60 ∷ 33 ∷ 45 ∷ 45 ∷ v) ≡ later n (subset_end 0 0 (drop n (60 ∷ 33 ∷ 45 ∷ 45 ∷ v)))
end_comment v n c e =
    let m : ℕ = before (ascii "-->") v + 6 in
    let z : n ≡ suc m = omega arith in
    first ∙ ap (later 1) (end_skip m (33 ∷ 45 ∷ 45 ∷ v)) ∙ later_suc m (subset_end 0 0 (drop m (33 ∷ 45 ∷ 45 ∷ v)))
    ∙ ap (λ (k : ℕ). later k (subset_end 0 0 (drop k (60 ∷ 33 ∷ 45 ∷ 45 ∷ v)))) (sym z)
  where
    first : subset_end 0 0 (60 ∷ 33 ∷ 45 ∷ 45 ∷ v) ≡ later 1 (subset_end (before (ascii "-->") v + 6) 0 (33 ∷ 45 ∷ 45 ∷ v))
    first = unfold subset_end starts in rw c

end_stuck : (v : List ℕ) → contains (ascii "-->") v ≡ false → subset_end 0 0 (60 ∷ 33 ∷ 45 ∷ 45 ∷ v) ≡ nowhere
unfolding subset_end starts
end_stuck v c = rw c

end_lone : (w : List ℕ) → starts (ascii "<!--") (60 ∷ w) ≡ false → subset_end 0 0 (60 ∷ w) ≡ later 1 (subset_end 0 0 w)
unfolding subset_end
end_lone w e = rw e

-- The second pass at i. The invariant: what it finds from i on is what is found, W.
module _ (s : List ℕ) (i : ℕ) (W : Place) (inv : place_from (subset_end 0 0) s i ≡ W) where
  pub end_over : length s ≤ i → found None ≡ W
  unfolding found place_from subset_end
  end_over h = rw (drop_end s i h) at inv

  -- r is the next place that it looks at
  module _ (r : Option ℕ) (a : found r ≡ place_from (outside (either 93 60) 0) s i) where
    pub end_none : r ≡ None → found None ≡ W
    unfolding found place_from
    end_none e = rw (end_outside 0 (drop i s), from_nowhere (outside (either 93 60) 0) s i r a e) at inv

    module _ (j : ℕ) (e : r ≡ Some j) where
      here : place_from (subset_end 0 0) s j ≡ W
      here =
          let (n, f, g) = from_here (outside (either 93 60) 0) s i r a j e in
          ap (place_from (subset_end 0 0) s) g ∙ from_onward (subset_end 0 0) s i n (end_outside 0 (drop i s) ∙ ap (resumed (drop i s)) f) ∙ inv

      pub end_here : get_or s j 0 ≡ 93 → found (Some j) ≡ W
      unfolding found place_from subset_end
      end_here f = (rw add-zero) ∙ (rw (drop_at s j (sign_in (either 93 60) s i r a j e), f) at here)

      -- another byte is a '<'; c says whether a comment begins there
      module _ (c : Bool) (k : c ≡ starts (ascii "<!--") (drop j s)) where
        pub comment_none : (get_or s j 0 ≡ 93 → ⊥) → c ≡ false → place_from (subset_end 0 0) s (j + 1) ≡ W
        comment_none n f =
            let d : drop j s ≡ 60 ∷ drop (j + 1) s = drop_at s j (sign_in (either 93 60) s i r a j e) ∙ ap (λ (x : ℕ). x ∷ drop (j + 1) s) sign in
            from_onward (subset_end 0 0) s j 1 (rw d (end_lone (drop (j + 1) s) (ap (starts (ascii "<!--")) (sym d) ∙ sym k ∙ f))) ∙ here
          where
            sign : get_or s j 0 ≡ 60
            sign = ⊎_elim (λ z. absurd (n z)) (λ z. z) (two_signs 93 60 (get_or s j 0) (sign_hit (either 93 60) s i r a j e))

        module _ (t : c ≡ true) where
          begun : (v : List ℕ) × (drop j s ≡ 60 ∷ 33 ∷ 45 ∷ 45 ∷ v)
          begun = starts_split (ascii "<!--") (drop j s) (sym k ∙ t)

          inner : (v : List ℕ) → drop j s ≡ 60 ∷ 33 ∷ 45 ∷ 45 ∷ v → drop (j + 4) s ≡ v
          inner v d = sym (drop-drop 4 j s) ∙ ap (drop 4) d

          -- q is where its end is found
          module _ (q : Option ℕ) (d : found q ≡ first_place (ascii "-->") s (j + 4)) where
            pub comment_open : q ≡ None → found None ≡ W
            unfolding found place_from
            comment_open f =
                let (v, g) = begun in
                let n : contains (ascii "-->") v ≡ false = ap (contains (ascii "-->")) (sym (inner v g)) ∙ was_nowhere (ascii "-->") s (j + 4) q d f in
                rw (g, end_stuck v n) at here

            module _ (x : ℕ) (f : q ≡ Some x) where
              pub comment_passed : place_from (subset_end 0 0) s (x + 3) ≡ W
              comment_passed =
                  let (v, g) = begun in
                  let (h, l) = was_here (ascii "-->") s (j + 4) q d x f in
                  let n : ℕ = before (ascii "-->") v + 7 in
                  let o : x + 3 ≡ j + n = omega (arith, l, ap (before (ascii "-->")) (inner v g)) in
                  ap (place_from (subset_end 0 0) s) o ∙ from_onward (subset_end 0 0) s j n (rw g (end_comment v n (ap (contains (ascii "-->")) (sym (inner v g)) ∙ h) refl)) ∙ here

              pub comment_less : length s - (x + 3) < length s - i
              comment_less = omega (arith, sign_less (either 93 60) s i r a j e, sign_in (either 93 60) s i r a j e, here_onward (ascii "-->") s (j + 4) q d x f)

pub comment_fits : (s : List ℕ) (j : ℕ) (c : Bool) → c ≡ starts (ascii "<!--") (drop j s) → c ≡ true → length s < 2 ^ 64 → Fits w64 (j + 4)
comment_fits s j c k t h = let (v, e) = starts_split (ascii "<!--") (drop j s) (sym k ∙ t) in omega (arith, ap length e, length-drop j s)

pub ruleset opening = (open_found, rules)

pub ruleset ending = (end_over, end_none, end_here, comment_none, comment_fits, comment_open, comment_passed, comment_less, here_fits, signs_found, rules)

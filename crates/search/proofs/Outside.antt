-- Laws of the search for the first of two signs outside quotes. Assumes nothing.
use mathlib.Core.Path.{◌≡◌, refl, sym, ap, ◌∙◌}
use mathlib.Core.Bool.{Bool, true, false, ◌&&◌, ◌||◌, not, true≢false, or-false}
use mathlib.Core.List.{List, [], ◌∷◌}
use Prim.Native.Nat.{ℕ, zero, suc, ◌+◌, ◌-◌, ◌^◌, ◌<◌, ◌≤◌}
use native.Mathlib.Nat.{add-zero}
use native.Mathlib.Omega.{arith}
use borrow.Author.Rules.{rules}
use mir.Syntax.{w64}
use mir.Val.{Fits}
use lib.Dec.{eqb}
use lib.ListN.{length, get_or, drop, length-drop}
use lib.Seq.{get_or-drop}
use Rattle.std.specs.Prelude.{Option, Some, None}
use Rattle.spec.specs.Basics.{pick}
use Rattle.spec.specs.Grammar.Languages.{among, one_of}
use Rattle.spec.specs.Reading.Places.{Place, at, nowhere, later, outside}
use Rattle.spec.specs.Reading.Readers.{run, starts, contains, before}
use Rattle.spec.proofs.Base.Outside.{later_zero, later_later, later_suc, outside_within, outside_hit}
use Rattle.spec.proofs.Base.Places.{drop_at, drop_end}
use Rattle.spec.proofs.Base.Tests.{or_false_left, or_false_right}
use Rattle.search.specs.FirstPlace.{first_place}
use Rattle.search.specs.Places.{found, place_from, either, stop}
use Rattle.search.specs.Runs.{away}
use Rattle.search.proofs.Finding.{was_nowhere, was_here, here_onward, here_fits}
use Rattle.search.proofs.Placing.{from_far, from_onward, from_here}
use Rattle.search.proofs.Stopping.{stopped}

-- The rule over bytes that are no stop, and over a quoted part.
passed : (f : List ℕ → Place) (p : ℕ → Bool) → ((b : ℕ) (w : List ℕ) → p b ≡ false → f (b ∷ w) ≡ later 1 (f w)) → (w : List ℕ) → f w ≡ later (away p w) (f (drop (away p w) w))
unfolding away run
passed f p h [] = later_zero (f [])
passed f p h (b ∷ w) = go (p b) refl (run (λ c. not (p c)) w) (passed f p h w)
  where
    go : (t : Bool) → p b ≡ t → (n : ℕ) → f w ≡ later n (f (drop n w)) → f (b ∷ w) ≡ later (pick (not t) (suc n) 0) (f (drop (pick (not t) (suc n) 0) (b ∷ w)))
    go true e n ih = later_zero (f (b ∷ w))
    go false e n ih = h b w e ∙ ap (later 1) ih ∙ later_suc n (f (drop n w))

abbrev after_quote : (ℕ → Bool) → ℕ → List ℕ → Place
after_quote p q w = pick (contains (q ∷ []) w) (later (suc (before (q ∷ []) w)) (outside p 0 (drop (suc (before (q ∷ []) w)) w))) nowhere

quoted : (p : ℕ → Bool) (q : ℕ) (w : List ℕ) → (q ≡ 0 → ⊥) → outside p q w ≡ after_quote p q w
unfolding outside contains before starts
quoted p zero w n = absurd (n refl)
quoted p (suc q) [] n = refl
quoted p (suc q) (b ∷ w) n = go (eqb b (suc q)) (contains (suc q ∷ []) w) (quoted p (suc q) w n)
  where
    k : ℕ
    k = suc (before (suc q ∷ []) w)

    go : (t c : Bool) → outside p (suc q) w ≡ pick c (later k (outside p 0 (drop k w))) nowhere
        → later 1 (outside p (pick t 0 (suc q)) w) ≡ pick ((t && true) || c) (later (suc (pick (t && true) 0 k)) (outside p 0 (drop (pick (t && true) 0 k) w))) nowhere
    go true c ih = refl
    go false true ih = ap (later 1) ih ∙ later_suc k (outside p 0 (drop k w))
    go false false ih = ap (later 1) ih

-- The loop of outside_quotes. The invariant: what is found from i on is what is found, W.
module _ (sign other : ℕ) (s : List ℕ) (i : ℕ) (W : Place) (inv : place_from (outside (either sign other) 0) s i ≡ W) where
  pub outside_over : length s ≤ i → found None ≡ W
  unfolding found place_from outside
  outside_over h = rw (drop_end s i h) at inv

  -- r is the next stop
  module _ (r : ℕ) (a : r ≡ i + away (stop sign other) (drop i s)) where
    plain : (b : ℕ) (w : List ℕ) → stop sign other b ≡ false → outside (either sign other) 0 (b ∷ w) ≡ later 1 (outside (either sign other) 0 w)
    unfolding outside stop
    plain b w e =
        let f = or_false_right (eqb b 34) (among (39 ∷ sign ∷ other ∷ []) b) e in
        rw (or_false_left (eqb b 34) (among (39 ∷ sign ∷ other ∷ []) b) e, or_false_left (eqb b 39) (either sign other b) f, or_false_right (eqb b 39) (either sign other b) f)

    to_stop : place_from (outside (either sign other) 0) s r ≡ W
    to_stop = ap (place_from (outside (either sign other) 0) s) a ∙ from_onward (outside (either sign other) 0) s i (away (stop sign other) (drop i s)) (passed (outside (either sign other) 0) (stop sign other) plain (drop i s)) ∙ inv

    pub outside_none : length s ≤ r → found None ≡ W
    unfolding found place_from outside
    outside_none h = rw (drop_end s r h) at to_stop

    module _ (h : r < length s) where
      pub outside_here : eqb (get_or s r 0) sign || eqb (get_or s r 0) other ≡ true → found (Some r) ≡ W
      unfolding found place_from outside
      outside_here e = (rw add-zero) ∙ (rw (drop_at s r h, or-false, e) at to_stop)

      -- neither sign is there: a quote mark, which is looked for again
      module _ (n : eqb (get_or s r 0) sign || eqb (get_or s r 0) other ≡ false) (q : Option ℕ) (b : found q ≡ first_place (get_or s r 0 ∷ []) s (r + 1)) where
        mark : one_of "\"'" (get_or s r 0) ≡ true
        mark = unfold stop in rw (or-false, n) at (stopped (stop sign other) s i r a h)

        in_quotes : later (r + 1) (after_quote (either sign other) (get_or s r 0) (drop (r + 1) s)) ≡ W
        unfolding place_from outside
        in_quotes =
            ap (later (r + 1)) (sym (quoted (either sign other) (get_or s r 0) (drop (r + 1) s) (λ z. true≢false (sym (rw z at mark)))))
            ∙ sym (later_later r 1 (outside (either sign other) (get_or s r 0) (drop (r + 1) s)))
            ∙ (rw (drop_at s r h, or-false, n, mark) at to_stop)

        pub outside_open : q ≡ None → found None ≡ W
        unfolding found
        outside_open e = rw (was_nowhere (get_or s r 0 ∷ []) s (r + 1) q b e) at in_quotes

        pub outside_quoted : (j : ℕ) → q ≡ Some j → place_from (outside (either sign other) 0) s (j + 1) ≡ W
        outside_quoted j e =
            let (c, f) = was_here (get_or s r 0 ∷ []) s (r + 1) q b j e in
            let k : ℕ = suc (before (get_or s r 0 ∷ []) (drop (r + 1) s)) in
            let z : j + 1 ≡ r + 1 + k = omega arith in
            ap (place_from (outside (either sign other) 0) s) z ∙ from_far (outside (either sign other) 0) s (r + 1) k ∙ (rw c at in_quotes)

-- a quoted part ends further on
pub quoted_less : (p : ℕ → Bool) (kw s : List ℕ) (i r : ℕ) (q : Option ℕ) (j : ℕ) → i < length s → r ≡ i + away p (drop i s) → found q ≡ first_place kw s (r + 1) → q ≡ Some j → length s - (j + 1) < length s - i
quoted_less p kw s i r q j h a b f = omega (arith, here_onward kw s (r + 1) q b j f)

-- the byte that outside_quotes found is one of the text, and of the class
module _ (p : ℕ → Bool) (s : List ℕ) (i : ℕ) (r : Option ℕ) (a : found r ≡ place_from (outside p 0) s i) (j : ℕ) (e : r ≡ Some j) where
  pub sign_in : j < length s
  sign_in = let (n, f, g) = from_here (outside p 0) s i r a j e in omega (arith, outside_within p 0 (drop i s) n f, length-drop i s)

  pub sign_fits : length s < 2 ^ 64 → Fits w64 (j + 1)
  sign_fits h = omega (arith, sign_in)

  pub sign_less : length s - (j + 1) < length s - i
  sign_less = let (n, f, g) = from_here (outside p 0) s i r a j e in omega (arith, sign_in)

  pub sign_hit : p (get_or s j 0) ≡ true
  sign_hit = let (n, f, g) = from_here (outside p 0) s i r a j e in ap (λ (x : ℕ). p (get_or s x 0)) g ∙ ap p (sym (get_or-drop i s n 0)) ∙ outside_hit p 0 (drop i s) n f

-- one sign twice is one sign
pub outside_one : (c q : ℕ) (w : List ℕ) → outside (either c c) q w ≡ outside (among (c ∷ [])) q w
unfolding outside
outside_one c q [] = refl
outside_one c zero (b ∷ w) = go (eqb b c) (outside_one c (pick (one_of "\"'" b) b 0) w)
  where
    go : (t : Bool) → outside (either c c) (pick (one_of "\"'" b) b 0) w ≡ outside (among (c ∷ [])) (pick (one_of "\"'" b) b 0) w
        → pick (t || (t || false)) (at 0) (later 1 (outside (either c c) (pick (one_of "\"'" b) b 0) w)) ≡ pick (t || false) (at 0) (later 1 (outside (among (c ∷ [])) (pick (one_of "\"'" b) b 0) w))
    go true e = refl
    go false e = ap (later 1) e
outside_one c (suc q) (b ∷ w) = ap (later 1) (outside_one c (pick (eqb b (suc q)) 0 (suc q)) w)

-- what the search outside quotes searches
pub ruleset outsides = (outside_over, outside_none, outside_here, outside_open, outside_quoted, quoted_less, here_fits, rules)

-- and what code searches of the place that it gives
pub ruleset signs_found = (sign_in, sign_fits, sign_less)

-- A declaration's body: where it ends, and whether it holds a parameter-entity reference. Assumes nothing.
use mathlib.Core.Path.{◌≡◌, refl, sym, ap, ◌∙◌}
use mathlib.Core.Bool.{Bool, true, false, ◌&&◌, ◌||◌, true≢false}
use mathlib.Core.List.{List, [], ◌∷◌}
use Prim.Native.Nat.{ℕ, suc, ◌+◌, ◌-◌, ◌<◌}
use native.Mathlib.Nat.{add-zero}
use native.Mathlib.Omega.{arith}
use borrow.Author.Rules.{rules}
use lib.Dec.{eqb}
use lib.ListN.{length, drop, length-drop}
use lib.Seq.{drop-drop}
use Rattle.std.specs.Prelude.{Option, Some, None, Ok, Err}
use Rattle.spec.specs.Basics.{pick}
use Rattle.spec.specs.Grammar.Names.{Dialect}
use Rattle.spec.specs.Reading.Refusals.{unterminated}
use Rattle.spec.specs.Reading.Places.{outside}
use Rattle.spec.specs.Reading.Readers.{starts, begins, contains, before}
use Rattle.spec.specs.Reading.Dtd.{take_decl_body, has_pe_reference}
use Rattle.spec.proofs.Agreement.Words.{before_within, starts_split}
use Rattle.error.specs.Read.{passed, said, read, refused}
use Rattle.error.specs.declared.Fault.{Fault}
use Rattle.utf8.proofs.Points.{points}
use Rattle.search.specs.FirstPlace.{first_place}
use Rattle.search.specs.Places.{found, place_from, either}
use Rattle.search.proofs.Finding.{starts_first, was_nowhere, was_here, here_fits}
use Rattle.search.proofs.Outside.{outside_one}
use Rattle.search.proofs.Placing.{from_nowhere, from_here}

-- r is what is found of the '>' that ends a body
module _ (s : List ℕ) (i : ℕ) (r : Option ℕ) (a : found r ≡ place_from (outside (either 62 62) 0) s i) where
  pub body_open : (x : Fault) → r ≡ None → said (Err x) ≡ refused unterminated i → said (Err x) ≡ read take_decl_body s i
  unfolding read take_decl_body
  body_open x b e = e ∙ (rw (← outside_one, from_nowhere (outside (either 62 62) 0) s i r a b, add-zero))

  pub body_end : (j : ℕ) → r ≡ Some j → said (Ok j) ≡ read take_decl_body s i
  unfolding read said take_decl_body
  body_end j b = let (n, f, g) = from_here (outside (either 62 62) 0) s i r a j b in ap passed g ∙ (rw (← outside_one, f))

-- A parameter-entity reference: the bytes before the first '%' do not decide.
pe_none : (D : Dialect) (w : List ℕ) → contains (37 ∷ []) w ≡ false → has_pe_reference D w ≡ false
unfolding has_pe_reference contains starts
pe_none D [] e = refl
pe_none D (b ∷ w) e = go (eqb b 37) e (pe_none D w)
  where
    go : (t : Bool) → (t && true) || contains (37 ∷ []) w ≡ false → (contains (37 ∷ []) w ≡ false → has_pe_reference D w ≡ false) → ((t || false) && begins D.start w) || has_pe_reference D w ≡ false
    go true e ih = absurd (true≢false e)
    go false e ih = ih e

pe_first : (D : Dialect) (w : List ℕ) → has_pe_reference D w ≡ has_pe_reference D (drop (before (37 ∷ []) w) w)
unfolding has_pe_reference before starts
pe_first D [] = refl
pe_first D (b ∷ w) = go (eqb b 37) refl (pe_first D w)
  where
    go : (t : Bool) → eqb b 37 ≡ t → has_pe_reference D w ≡ has_pe_reference D (drop (before (37 ∷ []) w) w)
        → ((t || false) && begins D.start w) || has_pe_reference D w ≡ has_pe_reference D (drop (pick (t && true) 0 (suc (before (37 ∷ []) w))) (b ∷ w))
    go true e ih = rw e
    go false e ih = ih

-- The loop of has_pe_reference. The invariant: the bytes before i do not decide.
module _ (D : Dialect) (t : List ℕ) (i : ℕ) (inv : has_pe_reference D (drop i t) ≡ has_pe_reference D t) where
  -- r is where the next '%' stands
  module _ (r : Option ℕ) (a : found r ≡ first_place (37 ∷ []) t i) where
    pub pe_absent : r ≡ None → false ≡ has_pe_reference D t
    pe_absent e = sym (pe_none D (drop i t) (was_nowhere (37 ∷ []) t i r a e)) ∙ inv

    pub pe_less : (j : ℕ) → r ≡ Some j → length t - (j + 1) < length t - i
    pe_less j e = let (c, l) = was_here (37 ∷ []) t i r a j e in omega (arith, length-drop i t, before_within (37 ∷ []) (drop i t) c)

    module _ (j : ℕ) (e : r ≡ Some j) (b : Bool) (f : b ≡ begins D.start (drop (j + 1) t)) where
      percent_at : (c : Bool) → b ≡ c → c || has_pe_reference D (drop (j + 1) t) ≡ has_pe_reference D t
      unfolding has_pe_reference
      percent_at c g =
          let (d, h) = was_here (37 ∷ []) t i r a j e in
          let m : drop (before (37 ∷ []) (drop i t)) (drop i t) ≡ drop j t = drop-drop (before (37 ∷ []) (drop i t)) i t ∙ ap (λ (k : ℕ). drop k t) (sym h) in
          let (v, k) = starts_split (37 ∷ []) (drop j t) (ap (starts (37 ∷ [])) (sym m) ∙ starts_first (37 ∷ []) (drop i t) d) in
          let l : drop j t ≡ 37 ∷ drop (j + 1) t = k ∙ ap (λ (x : List ℕ). 37 ∷ x) (sym (sym (drop-drop 1 j t) ∙ ap (drop 1) k)) in
          rw (l, sym f ∙ g) at (ap (has_pe_reference D) (sym m) ∙ sym (pe_first D (drop i t)) ∙ inv)

      pub pe_yes : b ≡ true → true ≡ has_pe_reference D t
      pe_yes g = percent_at true g

      pub pe_no : b ≡ false → has_pe_reference D (drop (j + 1) t) ≡ has_pe_reference D t
      pe_no g = percent_at false g

-- what the functions over a body search
pub ruleset bodies_read = (body_open, body_end, rules)

pub ruleset percents = (pe_absent, pe_yes, pe_no, pe_less, here_fits, points, rules)

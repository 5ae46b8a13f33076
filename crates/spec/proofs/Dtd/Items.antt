-- The loop over the internal subset, whatever the fuel: one item and then the loop again. Assumes nothing.
use mathlib.Core.Bool.{Bool, true, false}
use mathlib.Core.List.{List, [], ◌∷◌}
use mathlib.Core.Path.{◌≡◌, refl, ap}
use Prim.Native.Nat.{ℕ, zero, suc, ◌≤◌, ◌<◌}
use native.Mathlib.Omega.{arith}
use lib.ListN.{length, drop, length-drop}
use Rattle.spec.specs.Grammar.Languages.{ascii}
use Rattle.spec.specs.Grammar.Characters.{space}
use Rattle.spec.specs.Grammar.Names.{Dialect}
use Rattle.spec.specs.Reading.Refusals.{unexpected, unterminated, too_deep}
use Rattle.spec.specs.Reading.Readers.{Result, ok, err, Reader, on_ok, past, ◌>>◌, refuse, at_end, starts, choose, on, word, run}
use Rattle.spec.specs.Reading.Dtd.{skip_s, parse_pe_reference, parse_comment, parse_pi, parse_markup_decl, subset_fuel, parse_internal_subset}
use Rattle.spec.proofs.Base.Loops.{Somes}
use Rattle.spec.proofs.Base.Results.{both_pick}
use Rattle.spec.proofs.Base.Somes.{some_refuse, some_on, some_then, some_word}

-- the same answer where what comes after r is the same on every shorter text
then_same : (r q q' : Reader) → Somes r → (b : ℕ) (w : List ℕ) → ((y : List ℕ) → length y ≤ length w → q y ≡ q' y) → (r >> q) (b ∷ w) ≡ (r >> q') (b ∷ w)
unfolding ◌>>◌
then_same r q q' s b w h = go (r (b ∷ w)) refl
  where
    go : (a : Result) → r (b ∷ w) ≡ a → on_ok a (λ k. past k (q (drop k (b ∷ w)))) ≡ on_ok a (λ k. past k (q' (drop k (b ∷ w))))
    go (err n j) f = refl
    go (ok k) f = let z : 0 < k = s.some b w k f in ap (past k) (h (drop k (b ∷ w)) (omega (arith, length-drop k (b ∷ w))))

module _ (D : Dialect) where
  pub some_reference : Somes (parse_pe_reference D)
  unfolding parse_pe_reference
  some_reference = some_then _ _ (some_word "%" unexpected (omega arith))

  pub some_markup : (pe : Bool) → Somes (parse_markup_decl D too_deep pe)
  unfolding parse_markup_decl parse_pi parse_comment
  some_markup pe =
      some_on "<?" _ _ (some_then _ _ (some_word "<?" unexpected (omega arith)))
      (some_on "<!--" _ _ (some_then _ _ (some_word "<!--" unexpected (omega arith)))
      (some_on "<![" _ _ (some_refuse unexpected)
      (some_on "<!ELEMENT" _ _ (some_then _ _ (some_word "<!ELEMENT" unexpected (omega arith)))
      (some_on "<!ATTLIST" _ _ (some_then _ _ (some_word "<!ATTLIST" unexpected (omega arith)))
      (some_on "<!ENTITY" _ _ (some_then _ _ (some_word "<!ENTITY" unexpected (omega arith)))
      (some_then _ _ (some_word "<!NOTATION" unexpected (omega arith))))))))

  -- an item where white space is passed, and what reads on after it, by whether a parameter-entity reference has been seen
  unfoldable pub item : (Bool → Reader) → Bool → Reader
  item next pe =
      on "]" (word "]" unexpected) (on "%" (parse_pe_reference D >> next true) (on "<" (parse_markup_decl D too_deep pe >> next pe) (at_end unexpected >> refuse unterminated)))

  item_same : (n m : Bool → Reader) (pe : Bool) (w : List ℕ) → ((t : Bool) (y : List ℕ) → length y < length w → n t y ≡ m t y) → item n pe w ≡ item m pe w
  unfolding item on choose starts
  item_same n m pe [] h = refl
  item_same n m pe (b ∷ w) h =
      let Same : Reader → Reader → Type 0 = λ r q. r (b ∷ w) ≡ q (b ∷ w) in
      both_pick Same (starts (ascii "]") (b ∷ w)) refl
      (both_pick Same (starts (ascii "%") (b ∷ w)) (then_same (parse_pe_reference D) (n true) (m true) some_reference b w (λ y l. h true y (omega arith)))
      (both_pick Same (starts (ascii "<") (b ∷ w)) (then_same (parse_markup_decl D too_deep pe) (n pe) (m pe) (some_markup pe) b w (λ y l. h pe y (omega arith))) refl))

  spaced_same : (n m : Bool → Reader) (pe : Bool) (w : List ℕ) → ((t : Bool) (y : List ℕ) → length y < length w → n t y ≡ m t y) → (skip_s >> item n pe) w ≡ (skip_s >> item m pe) w
  unfolding ◌>>◌ skip_s
  spaced_same n m pe w h = ap (past (run space w)) (item_same n m pe (drop (run space w) w) (λ t y l. h t y (omega (arith, length-drop (run space w) w))))

  enough : (d e : ℕ) (pe : Bool) (w : List ℕ) → length w < d → length w < e → subset_fuel D too_deep d pe w ≡ subset_fuel D too_deep e pe w
  unfolding subset_fuel item
  enough zero e pe w h g = absurd (let z : length w < 0 = h in omega arith)
  enough (suc d) zero pe w h g = absurd (let z : length w < 0 = g in omega arith)
  enough (suc d) (suc e) pe w h g =
      spaced_same (λ t x. subset_fuel D too_deep d t x) (λ t x. subset_fuel D too_deep e t x) pe w (λ t y l. enough d e t y (omega arith) (omega arith))

  -- the items from a place on
  unfoldable pub items : Bool → Reader
  items pe w = subset_fuel D too_deep (suc (length w)) pe w

  pub items_turn : (pe : Bool) (w : List ℕ) → items pe w ≡ (skip_s >> item items pe) w
  unfolding items subset_fuel item
  items_turn pe w = spaced_same (λ t x. subset_fuel D too_deep (length w) t x) items pe w (λ t y l. enough (length w) (suc (length y)) t y l (omega arith))

  pub subset_items : (w : List ℕ) → parse_internal_subset D too_deep w ≡ items false w
  unfolding parse_internal_subset items
  subset_items w = refl

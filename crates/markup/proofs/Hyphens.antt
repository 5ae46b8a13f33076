-- The hyphens of a comment, and words whose length the code knows. Assumes nothing.
use mathlib.Core.Path.{◌≡◌, refl, sym, ap, ◌∙◌}
use mathlib.Core.Bool.{Bool, true, false, ◌||◌, true≢false}
use mathlib.Core.List.{List, [], ◌∷◌, ◌++◌, append_assoc}
use Prim.Native.Nat.{ℕ, suc, ◌+◌}
use native.Mathlib.Nat.{add-zero}
use native.Mathlib.Omega.{arith}
use borrow.Author.Tests.{not-true, not-false}
use lib.ListN.{take, drop, take-append-drop}
use lib.Seq.{drop-drop}
use Rattle.std.specs.Prelude.{Option, Some, None, Ok, Err}
use Rattle.spec.specs.Basics.{pick}
use Rattle.spec.specs.Grammar.Languages.{ascii}
use Rattle.spec.specs.Reading.Refusals.{Refusal, double_hyphen}
use Rattle.spec.specs.Reading.Readers.{nothing, starts, choose, contains, before, refuse_at, up_to}
use Rattle.spec.specs.Reading.Dtd.{check_comment}
use Rattle.spec.proofs.Base.Tests.{T→true, no→false}
use Rattle.spec.proofs.Agreement.Words.{starts_self, starts_split}
use Rattle.error.specs.Read.{passed, said, read, refused}
use Rattle.error.specs.declared.Fault.{Fault}
use Rattle.search.proofs.Words.{word_yes, word_no, by_words}
use Rattle.search.specs.FirstPlace.{first_place}
use Rattle.search.specs.Places.{found}
use Rattle.search.proofs.Finding.{was_nowhere, was_here, places_found}

-- a word that goes on stands only where its first part does, and not in what stands before the first place of that part
starts_part : (p x w : List ℕ) → starts (p ++ x) w ≡ true → starts p w ≡ true
starts_part p x w e = let (v, f) = starts_split (p ++ x) w e in rw (f, append_assoc) (starts_self p (x ++ v))

starts_within : (p : List ℕ) (n : ℕ) (w : List ℕ) → starts p (take n w) ≡ true → starts p w ≡ true
starts_within p n w e =
    let (v, f) = starts_split p (take n w) e in
    ap (starts p) (sym (take-append-drop n w) ∙ ap (λ (l : List ℕ). l ++ drop n w) f ∙ append_assoc p v (drop n w)) ∙ starts_self p (v ++ drop n w)

none_before : (p w : List ℕ) → contains p (take (before p w) w) ≡ false
unfolding contains before
none_before p [] = refl
none_before p (b ∷ w) = go (starts p (b ∷ w)) refl (none_before p w)
  where
    go : (t : Bool) → starts p (b ∷ w) ≡ t → contains p (take (before p w) w) ≡ false → contains p (take (pick t 0 (suc (before p w))) (b ∷ w)) ≡ false
    go true e ih = refl
    go false e ih = rw (no→false (starts p (b ∷ take (before p w) w)) (λ z. true≢false (sym (starts_within p (suc (before p w)) (b ∷ w) (T→true _ z)) ∙ e)), ih)

longer : (p x w : List ℕ) → contains p w ≡ true → starts (p ++ x) (drop (before p w) w) ≡ true → (contains (p ++ x) w ≡ true) × (before (p ++ x) w ≡ before p w)
unfolding contains before
longer p x [] c e = absurd (true≢false (sym c))
longer p x (b ∷ w) c e = go (starts p (b ∷ w)) refl c e (longer p x w)
  where
    go : (t : Bool) → starts p (b ∷ w) ≡ t → t || contains p w ≡ true → starts (p ++ x) (drop (pick t 0 (suc (before p w))) (b ∷ w)) ≡ true
        → (contains p w ≡ true → starts (p ++ x) (drop (before p w) w) ≡ true → (contains (p ++ x) w ≡ true) × (before (p ++ x) w ≡ before p w))
        → (starts (p ++ x) (b ∷ w) || contains (p ++ x) w ≡ true) × (pick (starts (p ++ x) (b ∷ w)) 0 (suc (before (p ++ x) w)) ≡ pick t 0 (suc (before p w)))
    go true f c e ih = rw e (refl, refl)
    go false f c e ih =
        let (g, h) = ih c e in
        rw (no→false (starts (p ++ x) (b ∷ w)) (λ z. true≢false (sym (starts_part p x (b ∷ w) (T→true _ z)) ∙ f))) (g, ap suc h)

-- a comment whose first "--", at j, is that of a "-->"
pub comment_once : (s : List ℕ) (at j : ℕ) (r : Option ℕ) (b : Bool) (n : Refusal) → found r ≡ first_place (ascii "--") s at → r ≡ Some j → b ≡ starts (ascii "-->") (drop j s) → b ≡ true → said (Ok (j + 3)) ≡ read (up_to "-->" n check_comment) s at
unfolding read said up_to check_comment choose nothing
comment_once s at j r b n a d e f =
    let (c, k) = was_here (ascii "--") s at r a j d in
    let m : ℕ = before (ascii "--") (drop at s) in
    let g : starts (ascii "-->") (drop m (drop at s)) ≡ true = ap (starts (ascii "-->")) (drop-drop m at s ∙ ap (λ (i : ℕ). drop i s) (sym k)) ∙ sym e ∙ f in
    let (h, i) = longer (ascii "--") (ascii ">") (drop at s) c g in
    let z : j + 3 ≡ at + (m + 3) = omega arith in
    ap passed z ∙ (rw (h, i, none_before (ascii "--") (drop at s)))

-- a comment's text: the first "--" in it, as r says
module _ (t : List ℕ) (at : ℕ) (r : Option ℕ) (a : found r ≡ first_place (ascii "--") t at) where
  pub comment_twice : (j : ℕ) (x : Fault) → r ≡ Some j → said (Err x) ≡ refused double_hyphen j → said (Err x) ≡ read check_comment t at
  unfolding read check_comment choose refuse_at
  comment_twice j x b e = e ∙ (let (c, l) = was_here (ascii "--") t at r a j b in rw (c, l))

  pub comment_clean : r ≡ None → said (Ok at) ≡ read check_comment t at
  unfolding read said check_comment choose nothing
  comment_clean b = rw (was_nowhere (ascii "--") t at r a b, add-zero)

-- what code that reads comments and signs searches
pub ruleset marks = (comment_once, comment_twice, comment_clean, not-true, not-false, places_found, by_words)

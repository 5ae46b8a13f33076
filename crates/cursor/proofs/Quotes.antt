-- Literals in either quote, for any check of the text between the quotes. Assumes nothing.
use mathlib.Core.Path.{◌≡◌, refl, sym, ap, subst, ◌∙◌}
use mathlib.Core.Logic.{◌⊎◌, inl, inr}
use mathlib.Core.Bool.{Bool, true, false, ◌||◌}
use mathlib.Core.List.{List, [], ◌∷◌}
use Prim.Native.Nat.{ℕ, ◌+◌, ◌-◌, ◌^◌, ◌<◌, ◌≤◌}
use native.Mathlib.Nat.{add_assoc, add-zero}
use native.Mathlib.Omega.{arith}
use borrow.Author.Rules.{rules}
use borrow.Author.Tests.{ltb-true, ltb-false}
use mir.Syntax.{w64}
use mir.Val.{Fits}
use lib.Dec.{eqb, ltb}
use lib.ListN.{length, get_or, take, drop, length-drop}
use Rattle.std.specs.Prelude.{Option, Some, None, Ok, Err}
use Rattle.spec.specs.Basics.{pick}
use Rattle.spec.specs.Reading.Refusals.{Refusal, no_literal, unterminated}
use Rattle.spec.specs.Reading.Readers.{Result, ok, err, Reader, on_ok, past, ◌>>◌, nothing, refuse, starts, choose, on, word_of, contains, before, up_to}
use Rattle.spec.specs.Reading.Dtd.{parse_quoted}
use Rattle.spec.proofs.Base.Tests.{decide, eqb-true, or_cases, or_false_left, or_false_right}
use Rattle.spec.proofs.Base.Places.{drop_at, drop_end}
use Rattle.spec.proofs.Agreement.Words.{before_within}
use Rattle.error.specs.Read.{passed, refused, said, placed, read, Answer}
use Rattle.error.specs.declared.Fault.{Fault}
use Rattle.error.proofs.Laws.{passed≢refused, passed_inj, was_ok, was_err}
use Rattle.search.specs.FirstPlace.{first_place}
use Rattle.search.specs.Places.{found}
use Rattle.search.proofs.Finding.{was_nowhere, was_here, places_found}
use Rattle.cursor.proofs.Reading.{left_of}

-- either quote mark, as the code tests it
abbrev quote : ℕ → Bool
quote b = eqb b 34 || eqb b 39

-- what is read after the mark q
abbrev body : ℕ → (List ℕ → Result) → Reader
body q check w = pick (contains (q ∷ []) w) (on_ok (check (take (before (q ∷ []) w) w)) (λ _. ok (before (q ∷ []) w + 1))) (err unterminated 0)

picked : (t : Bool) (f g : Reader) (w : List ℕ) → pick t f g w ≡ pick t (f w) (g w)
picked true f g w = refl
picked false f g w = refl

module _ (check : List ℕ → Result) where
  quoted_none : parse_quoted check [] ≡ err no_literal 0
  unfolding parse_quoted on choose starts word_of ◌>>◌
  quoted_none = refl

  quoted_other : (b : ℕ) (w : List ℕ) → quote b ≡ false → parse_quoted check (b ∷ w) ≡ err no_literal 0
  unfolding parse_quoted on choose starts word_of ◌>>◌
  quoted_other b w e = rw (or_false_left (eqb b 34) (eqb b 39) e, or_false_right (eqb b 34) (eqb b 39) e)

  quoted_mark : (b : ℕ) (w : List ℕ) → quote b ≡ true → parse_quoted check (b ∷ w) ≡ past 1 (body b check w)
  unfolding parse_quoted on choose starts word_of ◌>>◌ up_to refuse
  quoted_mark b w e = go (or_cases (eqb b 34) (eqb b 39) e)
    where
      go : (eqb b 34 ≡ true) ⊎ (eqb b 39 ≡ true) → parse_quoted check (b ∷ w) ≡ past 1 (body b check w)
      go (inl f) = rw (eqb-true b 34 f) (ap (past 1) (picked (contains (34 ∷ []) w) _ _ w))
      go (inr f) = rw (eqb-true b 39 f) (ap (past 1) (picked (contains (39 ∷ []) w) _ _ w))

-- No literal at a place.
module _ (check : List ℕ → Result) (s : List ℕ) (at : ℕ) (x : Fault) where
  pub literal_none : length s ≤ at → said (Err x) ≡ refused no_literal at → said (Err x) ≡ read (parse_quoted check) s at
  unfolding read
  literal_none h e = e ∙ (rw (drop_end s at h, quoted_none check, add-zero))

  module _ (h : at < length s) where
    pub literal_other : quote (get_or s at 0) ≡ false → said (Err x) ≡ refused no_literal at → said (Err x) ≡ read (parse_quoted check) s at
    unfolding read
    literal_other n e = e ∙ (rw (drop_at s at h, quoted_other check (get_or s at 0) (drop (at + 1) s) n, add-zero))

    pub literal_open : (r : Option ℕ) → quote (get_or s at 0) ≡ true → found r ≡ first_place (get_or s at 0 ∷ []) s (at + 1) → r ≡ None → said (Err x) ≡ refused unterminated (at + 1) → said (Err x) ≡ read (parse_quoted check) s at
    unfolding read
    literal_open r y f l g = g ∙ (rw (drop_at s at h, quoted_mark check (get_or s at 0) (drop (at + 1) s) y, was_nowhere (get_or s at 0 ∷ []) s (at + 1) r f l))

-- A literal from `at` to e.
pub record Literal (s : List ℕ) (at e : ℕ) : Type 0 where
  pub inside : at < length s
  pub opens : quote (get_or s at 0) ≡ true
  pub closes : contains (get_or s at 0 ∷ []) (drop (at + 1) s) ≡ true
  pub ends : e ≡ at + 1 + before (get_or s at 0 ∷ []) (drop (at + 1) s) + 1

-- it is read as its text is checked
literal_read : (check : List ℕ → Result) (s : List ℕ) (at e : ℕ) → Literal s at e
    → read (parse_quoted check) s at ≡ placed at (past 1 (on_ok (check (take (e - 1 - (at + 1)) (drop (at + 1) s))) (λ _. ok (e - at - 1))))
unfolding read
literal_read check s at e l =
    let n : e - 1 - (at + 1) ≡ before (get_or s at 0 ∷ []) (drop (at + 1) s) = omega (arith, l.ends) in
    let k : before (get_or s at 0 ∷ []) (drop (at + 1) s) + 1 ≡ e - at - 1 = omega (arith, l.ends) in
    rw (drop_at s at l.inside, quoted_mark check (get_or s at 0) (drop (at + 1) s) l.opens, l.closes, n)
    (ap (λ (i : ℕ). placed at (past 1 (on_ok (check (take (before (get_or s at 0 ∷ []) (drop (at + 1) s)) (drop (at + 1) s))) (λ _. ok i)))) k)

-- to e, if nothing is checked
literal_whole : (s : List ℕ) (at e : ℕ) → Literal s at e → passed e ≡ read (parse_quoted nothing) s at
unfolding nothing
literal_whole s at e l = ap passed (let k : e ≡ at + (1 + (e - at - 1)) = omega (arith, l.ends) in k) ∙ sym (literal_read nothing s at e l)

pub literal_closed : (s : List ℕ) (at e : ℕ) (r : Option ℕ) → at < length s → quote (get_or s at 0) ≡ true → found r ≡ first_place (get_or s at 0 ∷ []) s (at + 1) → r ≡ Some e → said (Ok (e + 1)) ≡ read (parse_quoted nothing) s at
unfolding said
literal_closed s at e r h y f l = let (c, d) = was_here (get_or s at 0 ∷ []) s (at + 1) r f e l in literal_whole s at (e + 1) (record { inside = h; opens = y; closes = c; ends = rw d })

-- There is a literal at a place, or what stands there is refused whatever the check.
data Quoted (s : List ℕ) (at : ℕ) : Type 0 where
  is : (e : ℕ) → Literal s at e → Quoted s at
  none : (n : Refusal) (k : ℕ) → ((check : List ℕ → Result) → parse_quoted check (drop at s) ≡ err n k) → Quoted s at

quoted : (s : List ℕ) (at : ℕ) → Quoted s at
quoted s at = by_place (decide (ltb at (length s)))
  where
    by_close : at < length s → quote (get_or s at 0) ≡ true → (contains (get_or s at 0 ∷ []) (drop (at + 1) s) ≡ true) ⊎ (contains (get_or s at 0 ∷ []) (drop (at + 1) s) ≡ false) → Quoted s at
    by_close h y (inl c) = is _ (record { inside = h; opens = y; closes = c; ends = refl })
    by_close h y (inr n) = none unterminated 1 (λ check. rw (drop_at s at h, quoted_mark check (get_or s at 0) (drop (at + 1) s) y, n))

    by_mark : at < length s → (quote (get_or s at 0) ≡ true) ⊎ (quote (get_or s at 0) ≡ false) → Quoted s at
    by_mark h (inl y) = by_close h y (decide (contains (get_or s at 0 ∷ []) (drop (at + 1) s)))
    by_mark h (inr n) = none no_literal 0 (λ check. rw (drop_at s at h) (quoted_other check (get_or s at 0) (drop (at + 1) s) n))

    by_place : (ltb at (length s) ≡ true) ⊎ (ltb at (length s) ≡ false) → Quoted s at
    by_place (inl h) = by_mark (ltb-true at (length s) h) (decide (quote (get_or s at 0)))
    by_place (inr h) = none no_literal 0 (λ check. rw (drop_end s at (ltb-false at (length s) h)) (quoted_none check))

refused_all : (check : List ℕ → Result) (s : List ℕ) (at : ℕ) (n : Refusal) (k : ℕ) → ((check : List ℕ → Result) → parse_quoted check (drop at s) ≡ err n k) → read (parse_quoted check) s at ≡ refused n (at + k)
unfolding read
refused_all check s at n k f = rw (f check)

-- The text of a literal, whose end e parse_quoted gave: its ends, and a check of it. For any check.
module _ (e : ℕ) (r : Answer) (b : r ≡ Ok e) (s : List ℕ) (at : ℕ) (a : said r ≡ read (parse_quoted nothing) s at) where
  literal : Literal s at e
  unfolding said
  literal = go (quoted s at)
    where
      go : Quoted s at → Literal s at e
      go (is i l) = subst (Literal s at) (passed_inj (literal_whole s at i l ∙ sym a ∙ ap said b)) l
      go (none n k f) = absurd (passed≢refused (sym (ap said b) ∙ a ∙ refused_all nothing s at n k f))

  pub text_fits : length s < 2 ^ 64 → Fits w64 (at + 1)
  text_fits h = omega (arith, literal.inside)

  pub text_last : 1 ≤ e
  text_last = omega (arith, literal.ends)

  pub text_start : at + 1 ≤ e - 1
  text_start = omega (arith, literal.ends)

  pub text_inside : e ≤ length s
  text_inside = omega (arith, literal.ends, literal.inside, length-drop (at + 1) s, before_within (get_or s at 0 ∷ []) (drop (at + 1) s) literal.closes)

  pub text_end : e - 1 ≤ length s
  text_end = omega (arith, text_inside)

  -- c is what the check answers where the text up to the closing quote is all there is
  module _ (check : List ℕ → Result) (c : Answer) (n : said c ≡ read check (take (e - 1 - 0) (drop 0 s)) (at + 1)) where
    the_text : drop (at + 1) (take (e - 1 - 0) (drop 0 s)) ≡ take (e - 1 - (at + 1)) (drop (at + 1) s)
    the_text = left_of (at + 1) (e - 1) s

    pub text_taken : (i : ℕ) → c ≡ Ok i → said (Ok e) ≡ read (parse_quoted check) s at
    unfolding said
    text_taken i z =
        let (j, (f, _)) = was_ok check (take (e - 1 - 0) (drop 0 s)) (at + 1) i c n z in
        let k : e ≡ at + (1 + (e - at - 1)) = omega (arith, literal.ends) in
        ap passed k ∙ (rw (literal_read check s at e literal, ← the_text, f))

    pub text_refused : (x : Fault) → c ≡ Err x → said (Err x) ≡ read (parse_quoted check) s at
    text_refused x z =
        let (r, (j, (f, g))) = was_err check (take (e - 1 - 0) (drop 0 s)) (at + 1) x c n z in
        g ∙ ap (refused r) (add_assoc at 1 j) ∙ (rw (literal_read check s at e literal, ← the_text, f))

-- what is no literal has no text to check
pub text_none : (check : List ℕ → Result) (s : List ℕ) (at : ℕ) (x : Fault) (r : Answer) → said r ≡ read (parse_quoted nothing) s at → r ≡ Err x → said (Err x) ≡ read (parse_quoted check) s at
unfolding said
text_none check s at x r a b = go (quoted s at)
  where
    go : Quoted s at → said (Err x) ≡ read (parse_quoted check) s at
    go (is e l) = absurd (passed≢refused (literal_whole s at e l ∙ sym a ∙ ap said b))
    go (none n k f) = sym (ap said b) ∙ a ∙ refused_all nothing s at n k f ∙ sym (refused_all check s at n k f)

-- what parse_quoted searches, and what checks the text of a literal
pub ruleset quotes = (literal_none, literal_other, literal_open, literal_closed, places_found, rules)

pub ruleset texts = (text_fits, text_last, text_start, text_end, text_taken, text_refused, text_none, rules)

-- A DOCTYPE that is refused and may not end, and one that is too long. Assumes nothing.
use mathlib.Core.Path.{◌≡◌, sym, ap, ◌∙◌}
use mathlib.Core.Bool.{Bool, true, false, ◌&&◌, ◌||◌}
use mathlib.Core.List.{List, [], ◌∷◌}
use Prim.Native.Nat.{ℕ, suc, ◌+◌, ◌-◌, ◌<◌, ◌≤◌}
use native.Mathlib.Nat.{add-zero}
use native.Mathlib.Omega.{arith}
use borrow.Author.Rules.{rules}
use borrow.Author.Tests.{ne_eqb}
use lib.Dec.{eqb, ltb}
use lib.ListN.{length, drop, length-drop}
use lib.Seq.{drop-drop}
use Rattle.std.specs.Prelude.{Ok, Err}
use Rattle.spec.specs.Basics.{pick}
use Rattle.spec.specs.Reading.Document.{at_most, unless_closed, closing}
use Rattle.spec.specs.Reading.Readers.{err, Reader, some_left, contains, word_of}
use Rattle.spec.specs.Reading.Refusals as Refusals
use Rattle.spec.specs.Reading.Refusals.{number, unterminated, unexpected}
use Rattle.spec.proofs.Base.Tests.{leb_yes, leb_no}
use Rattle.error.specs.Read.{Answer, passed, refused, reason, said, read, placed, eaten}
use Rattle.error.specs.declared.Fault.{Fault}
use Rattle.error.specs.declared.refusal.Refusal.{Refusal}
use Rattle.error.specs.declared.refusal.Refusal.TheVariants.{Unterminated}
use Rattle.error.proofs.Laws.{was_ok, was_err, ate}
use Rattle.error.proofs.Numbers.{number_inj}
use Rattle.cursor.proofs.Reading.{reading}
use Rattle.dtd.proofs.Ending.{read_ended}
use Rattle.document.specs.Closed.{closed}
use Rattle.document.proofs.Tags.{left_byte}

-- something is left at a place within the text
pub left_at : (s : List ℕ) (i : ℕ) → some_left (drop i s) ≡ ltb i (length s)
unfolding some_left
left_at s i = go (drop i s) (length-drop i s)
  where
    go : (w : List ℕ) → length w ≡ length s - i → some_left w ≡ ltb i (length s)
    go [] l = sym (leb_no (suc i) (length s) (omega arith))
    go (b ∷ w) l = sym (leb_yes (suc i) (length s) (omega arith))

-- whether a refusal at k is told as it is: b whether a '>' is left
module _ (s : List ℕ) (r : Refusal) (k : ℕ) (b : Bool) (a : b ≡ contains (62 ∷ []) (drop k s)) where
  pub closed_by : b ≡ true → true ≡ closed (reason r) k s
  unfolding closed
  closed_by e = rw (← a, e)

  pub closed_yes : b ≡ false → r ≡ Unterminated → ltb k (length s) ≡ closed (reason r) k s
  unfolding closed
  closed_yes e f = rw (← a, e, f, left_at s k)

  pub closed_no : b ≡ false → (r ≡ Unterminated → ⊥) → false ≡ closed (reason r) k s
  unfolding closed
  closed_no e n = rw (← a, e, ne_eqb (number (reason r)) 7 (λ z. n (number_inj r Unterminated z)))

-- r is what is read of the inside of a declaration at a place
module _ (R : Reader) (s : List ℕ) (at : ℕ) (r : Answer) (a : said r ≡ read R s at) where
  pub closing_at : (i : ℕ) → r ≡ Ok i → said r ≡ read (closing R) s at
  unfolding closing
  closing_at i e = let (k, (f, g)) = was_ok R s at i r a e in a ∙ (unfold read in ap (placed at) (f ∙ sym (ap (unless_closed (drop at s)) f)))

  -- it is refused, and t says whether that is told as it is
  module _ (x : Fault) (t : Bool) (h : t ≡ closed (reason x.refusal) x.place s) (e : r ≡ Err x) where
    closing_by : read (closing R) s at ≡ pick t (said (Err x)) (refused unterminated at)
    unfolding closing read said closed
    closing_by =
        let (m, (j, (g, l))) = was_err R s at x r (unfold read said in a) e in
        let n : reason x.refusal ≡ m = cc in
        let k : x.place ≡ at + j = cc in
        let z : contains (62 ∷ []) (drop j (drop at s)) || eqb (number m) 7 && some_left (drop j (drop at s)) ≡ t = rw (drop-drop j at s, ← k, ← n) (sym h) in
        rw (g, z) (go t m j (unfold said in l))
      where
        go : (t : Bool) (m : Refusals.Refusal) (j : ℕ) → refused (reason x.refusal) x.place ≡ refused m (at + j) → placed at (pick t (err m j) (err unterminated 0)) ≡ pick t (refused (reason x.refusal) x.place) (refused unterminated at)
        go true m j l = sym l
        go false m j l = rw add-zero

    pub closing_kept : t ≡ true → said (Err x) ≡ read (closing R) s at
    closing_kept y = sym (closing_by ∙ (rw y))

    pub closing_open : (y : Fault) → t ≡ false → said (Err y) ≡ refused unterminated at → said (Err y) ≡ read (closing R) s at
    closing_open y f g = g ∙ sym (closing_by ∙ (rw f))

-- at most so many bytes: r is what is read
module _ (m : ℕ) (refusal : Refusals.Refusal) (R : Reader) (s : List ℕ) (at : ℕ) (r : Answer) where
  pub most_no : (x : Fault) → r ≡ Err x → said r ≡ read R s at → said (Err x) ≡ read (at_most m refusal R) s at
  unfolding at_most
  most_no x e a = let (n, (j, (f, g))) = was_err R s at x r a e in g ∙ (unfold read in rw f)

  module _ (i : ℕ) (e : r ≡ Ok i) where
    pub most_at : i - at ≤ m → said r ≡ read R s at → said (Ok i) ≡ read (at_most m refusal R) s at
    unfolding at_most read said
    most_at h a =
        let (k, (f, g)) = was_ok R s at i r a e in
        let z : ltb m k ≡ false = leb_no (suc m) k (omega arith) in
        ap passed g ∙ (rw (f, z))

    pub most_over : (x : Fault) → m < i - at → said (Err x) ≡ refused refusal at → said r ≡ read R s at → said (Err x) ≡ read (at_most m refusal R) s at
    unfolding at_most read said
    most_over x h n a =
        let (k, (f, g)) = was_ok R s at i r a e in
        let z : ltb m k ≡ true = leb_yes (suc m) k (omega arith) in
        rw (f, z, add-zero) n

-- a word and what is read after it end further on
pub read_onward : (kw s : List ℕ) (at i e : ℕ) (r q : Answer) (C : Reader) → q ≡ Ok e → said q ≡ read C s i → r ≡ Ok i → said r ≡ eaten kw unexpected s at → at ≤ e
read_onward kw s at i e r q C f c g a =
    let (j, (_, x)) = was_ok (word_of kw unexpected) s at i r (ate kw unexpected s at r a) g in
    let (k, (_, y)) = was_ok C s i e q c f in
    omega arith

-- what reads the text up to its '>' searches; what asks whether it ends; and the whole
pub ruleset doctype_texts = (read_ended, reading)

pub ruleset closings = (left_byte, closed_by, closed_yes, closed_no, closing_at, closing_kept, closing_open, rules)

pub ruleset doctypes = (most_no, most_at, most_over, read_onward, reading)

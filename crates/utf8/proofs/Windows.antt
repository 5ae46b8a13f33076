-- A text whose every window of four bytes is in order is UTF-8. Assumes nothing.
use mathlib.Core.Path.{◌≡◌, refl, sym, ap, ◌∙◌}
use mathlib.Core.Bool.{Bool, beq, true, false, not, ◌||◌, ◌&&◌, true≢false}
use mathlib.Core.List.{List, [], ◌∷◌}
use Prim.Native.Nat.{ℕ, zero, suc, ◌+◌, ◌-◌, ◌<◌, ◌≤◌}
use native.Mathlib.Omega.{arith}
use Rattle.std.proofs.Common.{fold, Option, Some, None, Bor, length-take, length-drop}
use Rattle.std.proofs.lemmas.Iterator.{window_more}
use Rattle.std.proofs.lemmas.List.{get_or-take, get_or-drop}
use Rattle.std.proofs.lemmas.Option.{MatchOption-at_none}
use Rattle.std.specs.Slice.Iter.{windows_rest, windows_size, windows_steps}
use Rattle.std.specs.Slice.ArrayWindows.{array_windows_parts}
use Rattle.std.specs.declared.slice.ArrayWindows.{ArrayWindows}
use borrow.Author.Count.{below_more}
use borrow.Author.Tests.{ltb-true, ltb-false, eqb-false, le-leb, lt-leb, eq-eqb, not-true}
use lib.Dec.{leb, ltb, eqb}
use lib.ListN.{length, get_or, take, drop}
use lib.Seq.{drop-drop}
use Rattle.spec.specs.Reading.Utf8.{tail, decode1}
use Rattle.spec.specs.Reading.Source.{utf8}
use Rattle.spec.proofs.Base.Tests.{and_left, and_right, or_false_left, or_false_right, leb_false}
use Rattle.spec.proofs.Base.Places.{drop_at, drop_end, take_rest}
use Rattle.spec.proofs.Characters.Utf8.{decode_1, decode4_2, decode4_3, decode4_4, two_yes, two_no, three_no, lead_3_yes, lead_4_yes, tail_says}
use Rattle.spec.proofs.Characters.Valid.{utf8_end}
use Rattle.utf8.specs.Seen.{accepts}
use Rattle.utf8.specs.Window.{due, off, off_after, fine, InPlace, Padded}
use Rattle.utf8.proofs.Decoding.{accepts_turn}

none : (a b : Bool) → a || b ≡ false → (a ≡ false) × (b ≡ false)
none a b e = (or_false_left a b e, or_false_right a b e)

same : (a b : Bool) → not (beq a b) ≡ false → a ≡ b
same true true e = refl
same true false e = absurd (true≢false e)
same false true e = absurd (true≢false e)
same false false e = refl

-- the code's test of one byte, where t says whether it is a tail, and d whether one is due
pub off_by : (x y z b : ℕ) (t d : Bool) → t ≡ tail b → d ≡ due x y z
    → not (beq t d) || eqb b 0xC0 || eqb b 0xC1 || leb 0xF5 b || eqb z 0xE0 && ltb b 0xA0 || eqb z 0xED && leb 0xA0 b || eqb z 0xF0 && ltb b 0x90 || eqb z 0xF4 && leb 0x90 b ≡ off x y z b
unfolding off
off_by x y z b t d f e = rw (f, e)

-- what a byte that is in order is
record InOrder (x y z b : ℕ) : Type 0 where
  tailed : tail b ≡ due x y z
  not_c0 : b ≡ 0xC0 → ⊥
  not_c1 : b ≡ 0xC1 → ⊥
  top : b ≤ 0xF4
  e0 : z ≡ 0xE0 → 0xA0 ≤ b
  ed : z ≡ 0xED → b ≤ 0x9F
  f0 : z ≡ 0xF0 → 0x90 ≤ b
  f4 : z ≡ 0xF4 → b ≤ 0x8F

in_order : (x y z b : ℕ) → off x y z b ≡ false → InOrder x y z b
unfolding off
in_order x y z b e =
    let p8 = none _ (eqb z 0xF4 && leb 0x90 b) e in
    let p7 = none _ (eqb z 0xF0 && ltb b 0x90) p8.0 in
    let p6 = none _ (eqb z 0xED && leb 0xA0 b) p7.0 in
    let p5 = none _ (eqb z 0xE0 && ltb b 0xA0) p6.0 in
    let p4 = none _ (leb 0xF5 b) p5.0 in
    let p3 = none _ (eqb b 0xC1) p4.0 in
    let p2 = none _ (eqb b 0xC0) p3.0 in
    record {
      tailed = same (tail b) (due x y z) p2.0;
      not_c0 = eqb-false b 0xC0 p2.1;
      not_c1 = eqb-false b 0xC1 p3.1;
      top = omega (arith, leb_false 0xF5 b p4.1);
      e0 = λ h. ltb-false b 0xA0 (rw (eq-eqb z 0xE0 h) at p5.1);
      ed = λ h. omega (arith, leb_false 0xA0 b (rw (eq-eqb z 0xED h) at p6.1));
      f0 = λ h. ltb-false b 0x90 (rw (eq-eqb z 0xF0 h) at p7.1);
      f4 = λ h. omega (arith, leb_false 0x90 b (rw (eq-eqb z 0xF4 h) at p8.1));
    }

-- where no tail is due, a byte of 0x80 or more leads
lead : (x y z b : ℕ) → InOrder x y z b → due x y z ≡ false → 0x80 ≤ b → 0xC2 ≤ b
lead x y z b o d h =
    let n0 = o.not_c0 in
    let n1 = o.not_c1 in
    let l = leb_false b 0xBF (rw (le-leb 0x80 b h) at (o.tailed ∙ d)) in
    omega arith

first : (x y z b : ℕ) (w : List ℕ) → fine x y z (b ∷ w) ≡ true → InOrder x y z b × (fine y z b w ≡ true)
unfolding fine
first x y z b w e = (in_order x y z b (not-true _ (and_left (not (off x y z b)) (fine y z b w) e)), and_right (not (off x y z b)) (fine y z b w) e)

-- where a tail is due, it is there
next : (x y z : ℕ) (w : List ℕ) (C : List ℕ → Type 0) → due x y z ≡ true → fine x y z w ≡ true
    → ((b : ℕ) (v : List ℕ) → InOrder x y z b → tail b ≡ true → fine y z b v ≡ true → C (b ∷ v)) → C w
unfolding fine
next x y z [] C d e f = absurd (true≢false (sym e ∙ ap not d))
next x y z (b ∷ v) C d e f = let (o, g) = first x y z b v e in f b v o (o.tailed ∙ d) g

-- texts of at most n bytes, after whole code points
Upto : ℕ → Type 0
Upto n = (x y z : ℕ) (w : List ℕ) → length w ≤ n → z < 0xC0 → y < 0xE0 → x < 0xF0 → fine x y z w ≡ true → accepts (utf8 w) ≡ true

-- a lead, and its tails one after the other
module _ (n : ℕ) (ih : Upto n) (y z a : ℕ) (w : List ℕ) (l : length w ≤ n) (hz : z < 0xC0) (hy : y < 0xE0) (lo : 0xC2 ≤ a) (e : fine y z a w ≡ true) where
  -- what is to be shown of the bytes after a
  Then : List ℕ → Type 0
  Then v = length v ≤ n → accepts (utf8 (a ∷ v)) ≡ true

  tailed : ((b : ℕ) (v : List ℕ) → InOrder y z a b → tail b ≡ true → fine z a b v ≡ true → Then (b ∷ v)) → accepts (utf8 (a ∷ w)) ≡ true
  unfolding Then
  tailed f = next y z a w Then (rw (le-leb 0xC0 a (omega arith))) e f l

  tailed_2 : (b : ℕ) (v : List ℕ) → 0xE0 ≤ a → tail b ≡ true → fine z a b v ≡ true → ((c : ℕ) (u : List ℕ) → tail c ≡ true → fine a b c u ≡ true → Then (b ∷ c ∷ u)) → Then (b ∷ v)
  tailed_2 b v h t g f =
      let s = tail_says b t in
      next z a b v (λ u. Then (b ∷ u)) (rw (lt-leb 0xC0 b (omega arith), le-leb 0xE0 a h)) g (λ c u o. f c u)

  after_2 : a < 0xE0 → accepts (utf8 (a ∷ w)) ≡ true
  unfolding Upto Then decode1
  after_2 h =
      tailed (λ b v o t g k.
      let s = tail_says b t in
      accepts_turn (a ∷ b ∷ v) _ 2 (decode4_2 a b _ _ (omega arith) (two_yes a b lo (omega arith) t))
      ∙ ih z a b v (omega arith) (omega arith) h (omega arith) g)

  after_3 : 0xE0 ≤ a → a < 0xF0 → accepts (utf8 (a ∷ w)) ≡ true
  unfolding Upto Then decode1
  after_3 h m =
      tailed (λ b v o t g.
      tailed_2 b v h t g (λ c u r f k.
      let s = tail_says b t in
      let q = tail_says c r in
      accepts_turn (a ∷ b ∷ c ∷ u) _ 3
      (decode4_3 a b c _ (omega arith) (two_no a b h) (rw (lead_3_yes a b h (omega arith) s.0 s.1 o.e0 o.ed, r)))
      ∙ ih a b c u (omega arith) (omega arith) (omega arith) m f))

  after_4 : 0xF0 ≤ a → a ≤ 0xF4 → accepts (utf8 (a ∷ w)) ≡ true
  unfolding Upto Then decode1
  after_4 h m =
      tailed (λ b v o t g.
      tailed_2 b v (omega arith) t g (λ c u r f.
      let s = tail_says b t in
      let q = tail_says c r in
      next a b c u (λ x. Then (b ∷ c ∷ x)) (rw (lt-leb 0xC0 c (omega arith), lt-leb 0xE0 b (omega arith), le-leb 0xF0 a h)) f (λ d x _ i j k.
      let p = tail_says d i in
      accepts_turn (a ∷ b ∷ c ∷ d ∷ x) _ 4
      (decode4_4 a b c d (omega arith) (two_no a b (omega arith)) (three_no a b c h) (rw (lead_4_yes a b h m s.0 s.1 o.f0 o.f4, r, i)))
      ∙ ih b c d x (omega arith) (omega arith) (omega arith) (omega arith) j)))

  after : a ≤ 0xF4 → accepts (utf8 (a ∷ w)) ≡ true
  after m = go (ltb a 0xE0) refl (ltb a 0xF0) refl
    where
      go : (t : Bool) → ltb a 0xE0 ≡ t → (u : Bool) → ltb a 0xF0 ≡ u → accepts (utf8 (a ∷ w)) ≡ true
      go true f u g = after_2 (ltb-true a 0xE0 f)
      go false f true g = after_3 (ltb-false a 0xE0 f) (ltb-true a 0xF0 g)
      go false f false g = after_4 (ltb-false a 0xF0 g) m

upto : (n : ℕ) → Upto n
unfolding Upto
upto zero x y z [] l hz hy hx e = ap accepts utf8_end
upto (suc n) x y z [] l hz hy hx e = ap accepts utf8_end
upto zero x y z (a ∷ w) l hz hy hx e = absurd (omega arith)
upto (suc n) x y z (a ∷ w) l hz hy hx e = let (o, g) = first x y z a w e in go (λ p q r v. upto n p q r v) o g (ltb a 0x80) refl
  where
    go : Upto n → InOrder x y z a → fine y z a w ≡ true → (t : Bool) → ltb a 0x80 ≡ t → accepts (utf8 (a ∷ w)) ≡ true
    go ih o g true f =
        let h = ltb-true a 0x80 f in
        accepts_turn (a ∷ w) a 1 (decode_1 a w h) ∙ ih y z a w (omega arith) (omega arith) (omega arith) (omega arith) g
    go ih o g false f =
        let d : due x y z ≡ false = rw (lt-leb 0xC0 z hz, lt-leb 0xE0 y hy, lt-leb 0xF0 x hx) in
        after n ih y z a w (omega arith) hz hy (lead x y z a o d (ltb-false a 0x80 f)) g o.top

fine_valid : (w : List ℕ) → fine 0 0 0 w ≡ true → accepts (utf8 w) ≡ true
unfolding Upto
fine_valid w e = upto (length w) 0 0 0 w (omega arith) (omega arith) (omega arith) (omega arith) e

-- where no byte is 0x80 or more, each is a code point
high_none : (w : List ℕ) (found : Bool) → fold (λ (x : Bool) (b : ℕ). x || leb 0x80 b) found w ≡ false → (found ≡ false) × (accepts (utf8 w) ≡ true)
high_none [] found e = (e, ap accepts utf8_end)
high_none (a ∷ w) found e =
    let (p, q) = high_none w (found || leb 0x80 a) e in
    let (f, l) = none found (leb 0x80 a) p in
    (f, accepts_turn (a ∷ w) a 1 (decode_1 a w (leb_false 0x80 a l)) ∙ q)

pub high_valid : (w : List ℕ) → fold (λ (x : Bool) (b : ℕ). x || leb 0x80 b) false w ≡ false → true ≡ accepts (utf8 w)
high_valid w e = sym ((high_none w false e).1)

fine_one : (x y z b : ℕ) (w : List ℕ) → off x y z b ≡ false → fine x y z (b ∷ w) ≡ fine y z b w
unfolding fine
fine_one x y z b w e = rw e

-- what is left from i on, after the three bytes before i
unfoldable pub left : List ℕ → ℕ → Bool
left s i = fine (get_or s (i - 3) 0) (get_or s (i - 2) 0) (get_or s (i - 1) 0) (drop i s)

pub fine_start : (s : List ℕ) (t : Bool) → 3 ≤ length s → t ≡ off 0 0 0 (get_or s 0 0) || off 0 0 (get_or s 0 0) (get_or s 1 0) || off 0 (get_or s 0 0) (get_or s 1 0) (get_or s 2 0)
    → t ≡ false → left s 3 ≡ fine 0 0 0 s
unfolding left
fine_start [] t h d e = absurd (omega arith)
fine_start (a ∷ []) t h d e = absurd (omega arith)
fine_start (a ∷ b ∷ []) t h d e = absurd (omega arith)
fine_start (a ∷ b ∷ c ∷ s) t h d e =
    let (u, r) = none (off 0 0 0 a || off 0 0 a b) (off 0 a b c) (sym d ∙ e) in
    let (p, q) = none (off 0 0 0 a) (off 0 0 a b) u in
    sym (fine_one 0 0 0 a (b ∷ c ∷ s) p ∙ fine_one 0 0 a b (c ∷ s) q ∙ fine_one 0 a b c s r)

module _ (s : List ℕ) (i : ℕ) (bad : Bool) (inv : bad ≡ false → left s i ≡ fine 0 0 0 s) where
  pub fine_go : (t : Bool) → 3 ≤ i → i < length s → t ≡ off (get_or s (i - 3) 0) (get_or s (i - 2) 0) (get_or s (i - 1) 0) (get_or s i 0)
      → bad || t ≡ false → left s (i + 1) ≡ fine 0 0 0 s
  unfolding left
  fine_go t h k d e =
      let (p, q) = none bad t e in
      let n3 : i + 1 - 3 ≡ i - 2 = omega arith in
      let n2 : i + 1 - 2 ≡ i - 1 = omega arith in
      let n1 : i + 1 - 1 ≡ i = omega arith in
      rw (n3, n2, n1) (sym (fine_one _ _ _ (get_or s i 0) (drop (i + 1) s) (sym d ∙ q)) ∙ (rw (drop_at s i k) at (inv p)))

  pub fine_end : (t : Bool) → length s ≤ i → t ≡ due (get_or s (i - 3) 0) (get_or s (i - 2) 0) (get_or s (i - 1) 0) → bad || t ≡ false → true ≡ accepts (utf8 s)
  unfolding left fine
  fine_end t h d e =
      let (p, q) = none bad t e in
      sym (fine_valid s (sym (inv p) ∙ (rw (drop_end s i h, ← d, q))))

-- where every window is in order, what is left decides wherever it begins
module _ (s : List ℕ) (a : InPlace s) (front : left s 3 ≡ fine 0 0 0 s) where
  left_more : (k : ℕ) → k + 3 < length s → left s (k + 3) ≡ fine 0 0 0 s → left s (k + 3 + 1) ≡ fine 0 0 0 s
  unfolding off_after
  left_more k h e =
      let n3 : k + 3 - 3 ≡ k = omega arith in
      let n2 : k + 3 - 2 ≡ k + 1 = omega arith in
      let n1 : k + 3 - 1 ≡ k + 2 = omega arith in
      let o : false ≡ off (get_or s (k + 3 - 3) 0) (get_or s (k + 3 - 2) 0) (get_or s (k + 3 - 1) 0) (get_or s (k + 3) 0) = rw (n3, n2, n1) (sym (a.each k h)) in
      fine_go s (k + 3) false (λ _. e) false (omega arith) h o refl

  left_all : (k : ℕ) → k + 3 ≤ length s → left s (k + 3) ≡ fine 0 0 0 s
  left_all zero h = front
  left_all (suc k) h =
      let n : suc k + 3 ≡ k + 3 + 1 = omega arith in
      ap (λ (j : ℕ). left s j) n ∙ left_more k (omega arith) (left_all k (omega arith))

-- the test of a text of three bytes or more
pub in_place_valid : (s : List ℕ) (p q t : Bool) → 3 ≤ length s
    → p ≡ off 0 0 0 (get_or s 0 0) || off 0 0 (get_or s 0 0) (get_or s 1 0) || off 0 (get_or s 0 0) (get_or s 1 0) (get_or s 2 0)
    → q ≡ due (get_or s (length s - 3) 0) (get_or s (length s - 2) 0) (get_or s (length s - 1) 0)
    → (t ≡ false → InPlace s) → p || q || t ≡ false → true ≡ accepts (utf8 s)
in_place_valid s p q t h f g i e =
    let (pq, r) = none (p || q) t e in
    let (no_front, no_due) = none p q pq in
    let n : length s - 3 + 3 ≡ length s = omega arith in
    let all = left_all s (i r) (fine_start s p h f no_front) (length s - 3) (omega arith) in
    fine_end s (length s) false (λ _. ap (λ (j : ℕ). left s j) (sym n) ∙ all) q (omega arith) g no_due

-- one window more is in order
in_place_more : (s : List ℕ) (n : ℕ) (bad t : Bool) → (bad ≡ false → (i : ℕ) → i < n → off_after s i ≡ false) → t ≡ off_after s n
    → bad || t ≡ false → (i : ℕ) → i < n + 1 → off_after s i ≡ false
in_place_more s n bad t f e h = let (b, o) = none bad t h in below_more (λ (i : ℕ). off_after s i ≡ false) n (f b) (sym e ∙ o)

-- the windows ahead are those of the text's end, and if no byte so far is out of place, those passed are in order
pub record Ahead (s : List ℕ) (w : ArrayWindows ℕ 4) (bad : Bool) : Type 0 where
  pub size : windows_size (array_windows_parts w) ≡ 4
  pub rest : windows_rest (array_windows_parts w) ≡ drop (length s - length (windows_rest (array_windows_parts w))) s
  pub inside : length (windows_rest (array_windows_parts w)) ≤ length s
  pub passed : bad ≡ false → (i : ℕ) → i < length s - length (windows_rest (array_windows_parts w)) → off_after s i ≡ false

module _ (s : List ℕ) (w v : ArrayWindows ℕ 4) (r : Option (Bor (List ℕ))) where
  pub ahead_start : windows_size (array_windows_parts w) ≡ 4 → windows_rest (array_windows_parts w) ≡ s → Ahead s w false
  ahead_start z e =
      let n : length s - length s ≡ 0 = omega arith in
      record {
        size = z;
        rest = rw (e, n);
        inside = rw e (omega arith);
        passed = λ _ i h. absurd (omega (arith, ap length e));
      }

  module _ (bad : Bool) (a : Ahead s w bad) (steps : windows_steps (array_windows_parts w) r (array_windows_parts v)) where
    pub ahead_go : (x : Bor (List ℕ)) (t : Bool) → r ≡ Some x → t ≡ off (get_or x.now 0 0) (get_or x.now 1 0) (get_or x.now 2 0) (get_or x.now 3 0) → Ahead s v (bad || t)
    unfolding off_after
    ahead_go x t e d =
        let z : 0 < windows_size (array_windows_parts w) = omega (arith, a.size) in
        let (l, f, m, g) = window_more s (array_windows_parts w) (array_windows_parts v) r x e steps z a.inside a.rest in
        let i = length s - length (windows_rest (array_windows_parts w)) in
        let four = a.size in
        let in_text = a.inside in
        let n : i + 1 ≡ length s - length (windows_rest (array_windows_parts v)) = omega arith in
        let n0 : i + 0 ≡ i = omega arith in
        let o : t ≡ off_after s i = rw (← g 3 0 (omega arith), ← g 2 0 (omega arith), ← g 1 0 (omega arith), ← n0, ← g 0 0 (omega arith)) d in
        record {
          size = steps.0 ∙ a.size;
          rest = f;
          inside = omega arith;
          passed = λ b. rw n at (in_place_more s i bad t a.passed o b);
        }

    pub ahead_end : r ≡ None → bad ≡ false → InPlace s
    ahead_end e b =
        let short = (MatchOption-at_none _ _ e steps.1).0 in
        let four = a.size in
        let in_text = a.inside in
        record { each = λ i h. a.passed b i (omega arith) }

-- a window of a part stands in the text
off_after_drop : (s : List ℕ) (k i : ℕ) → off_after (drop k s) i ≡ off_after s (k + i)
unfolding off_after
off_after_drop s k i =
    let n1 : k + (i + 1) ≡ k + i + 1 = omega arith in
    let n2 : k + (i + 2) ≡ k + i + 2 = omega arith in
    let n3 : k + (i + 3) ≡ k + i + 3 = omega arith in
    rw (get_or-drop k s i 0, get_or-drop k s (i + 1) 0, get_or-drop k s (i + 2) 0, get_or-drop k s (i + 3) 0, n1, n2, n3)

off_after_take : (s : List ℕ) (n i : ℕ) → i + 3 < n → off_after (take n s) i ≡ off_after s i
unfolding off_after
off_after_take s n i h = rw (get_or-take n s i 0 (omega arith), get_or-take n s (i + 1) 0 (omega arith), get_or-take n s (i + 2) 0 (omega arith), get_or-take n s (i + 3) 0 h)

-- where the windows of the part from k on are in order, and those before k
in_place_from : (s : List ℕ) (k : ℕ) → ((i : ℕ) → i < k → off_after s i ≡ false) → (n : ℕ) → ((i : ℕ) → i < n → off_after (drop k s) i ≡ false) → (i : ℕ) → i < k + n → off_after s i ≡ false
in_place_from s k f n g i h = go (ltb i k) refl
  where
    go : (t : Bool) → ltb i k ≡ t → off_after s i ≡ false
    go true e = f i (ltb-true i k e)
    go false e =
        let b = ltb-false i k e in
        let m : k + (i - k) ≡ i = omega arith in
        ap (λ (j : ℕ). off_after s j) (sym m) ∙ (sym (off_after_drop s k (i - k)) ∙ g (i - k) (omega arith))

-- a text whose windows after three bytes are in order, and one with the byte 0 at its end
fine_all : (x y z : ℕ) (s : List ℕ) → ((i : ℕ) → i ≤ length s → off_after (x ∷ y ∷ z ∷ s) i ≡ false) → fine x y z s ≡ true
unfolding off_after fine
fine_all x y z [] f = let o = in_order x y z 0 (f 0 (omega arith)) in ap not (sym o.tailed)
fine_all x y z (b ∷ w) f =
    fine_one x y z b w (f 0 (omega arith))
    ∙ fine_all y z b w (λ i h. off_after_drop (x ∷ y ∷ z ∷ b ∷ w) 1 i ∙ f (1 + i) (omega arith))

-- a text too short for a block
module _ (s t : List ℕ) (a : Padded s t) where
  padded_window : (i : ℕ) → i + 3 < 22 → off_after (0 ∷ 0 ∷ 0 ∷ s) i ≡ off_after t i
  unfolding off_after
  padded_window i h = rw (a.each i (omega arith), a.each (i + 1) (omega arith), a.each (i + 2) (omega arith), a.each (i + 3) h)

  few_valid : length s < 19 → ((i : ℕ) → i ≤ length s → off_after t i ≡ false) → true ≡ accepts (utf8 s)
  few_valid h f = sym (fine_valid s (fine_all 0 0 0 s (λ i l. padded_window i (omega arith) ∙ f i l)))

  in_front : InPlace (take 19 t) → (i : ℕ) → i < 16 → off_after t i ≡ false
  in_front b i h =
      let l = a.long in
      sym (off_after_take t 19 i (omega arith)) ∙ b.each i (omega (arith, length-take 19 t))

  in_back : InPlace (take 19 (drop 3 t)) → (i : ℕ) → i < 16 → off_after (drop 3 t) i ≡ false
  in_back b i h =
      let l = a.long in
      sym (off_after_take (drop 3 t) 19 i (omega arith)) ∙ b.each i (omega (arith, length-take 19 (drop 3 t), length-drop 3 t))

  pub few_one : (p : Bool) → length s < 16 → (p ≡ false → InPlace (take 19 t)) → p ≡ false → true ≡ accepts (utf8 s)
  few_one p h f e = few_valid (omega arith) (λ i k. in_front (f e) i (omega arith))

  pub few_two : (p q : Bool) → length s < 19 → (p ≡ false → InPlace (take 19 t)) → (q ≡ false → InPlace (take 19 (drop 3 t))) → p || q ≡ false → true ≡ accepts (utf8 s)
  few_two p q h f g e =
      let (b, c) = none p q e in
      few_valid h (λ i k. in_place_from t 3 (λ j m. in_front (f b) j (omega arith)) 16 (in_back (g c)) i (omega arith))

-- the blocks ahead are the text's end, whose last windows are in order, and so are those passed
pub record Blocks (s rest : List ℕ) (bad : Bool) : Type 0 where
  pub ends : rest ≡ drop (length s - length rest) s
  pub inside : length rest ≤ length s
  pub some : 19 ≤ length s
  pub last : bad ≡ false → InPlace (drop (length s - 19) s)
  pub passed : bad ≡ false → (i : ℕ) → i < length s - length rest → off_after s i ≡ false

pub blocks_start : (s : List ℕ) (bad : Bool) → 19 ≤ length s → (bad ≡ false → InPlace (take (length s - (length s - 19)) (drop (length s - 19) s))) → Blocks s s bad
blocks_start s bad h f =
    let n : length s - length s ≡ 0 = omega arith in
    record {
      ends = rw n;
      inside = omega arith;
      some = h;
      last = λ b. rw (take_rest s (length s - 19)) at (f b);
      passed = λ _ i l. absurd (omega arith);
    }

module _ (s rest : List ℕ) (bad : Bool) (a : Blocks s rest bad) where
  one_more : (t : Bool) → 19 < length rest → (t ≡ false → InPlace (take 19 rest)) → bad || t ≡ false → (i : ℕ) → i < length s - length rest + 16 → off_after s i ≡ false
  one_more t h f e =
      let (b, o) = none bad t e in
      let in_rest = a.inside in
      in_place_from s (length s - length rest) (a.passed b) 16
      (λ i l. rw (← a.ends) (sym (off_after_take rest 19 i (omega arith)) ∙ (f o).each i (omega (arith, length-take 19 rest))))

  pub blocks_more : (t : Bool) → 19 < length rest → (t ≡ false → InPlace (take 19 rest)) → Blocks s (take (length rest - 16) (drop 16 rest)) (bad || t)
  blocks_more t h f =
      let l = length-drop 16 rest in
      let in_rest = a.inside in
      let n : length s - length rest + 16 ≡ length s - length (drop 16 rest) = omega arith in
      let d : drop 16 (drop (length s - length rest) s) ≡ drop (length s - length rest + 16) s = drop-drop 16 (length s - length rest) s in
      rw (take_rest rest 16) (record {
        ends = rw n at (ap (λ (x : List ℕ). drop 16 x) a.ends ∙ d);
        inside = omega arith;
        some = a.some;
        last = λ b. a.last (none bad t b).0;
        passed = λ b. rw n at (one_more t h f b);
      })

  pub blocks_end : length rest ≤ 19 → bad ≡ false → InPlace s
  blocks_end h b =
      let some = a.some in
      let f : (i : ℕ) → i < length s - 19 → off_after s i ≡ false = λ i l. a.passed b i (omega arith) in
      let g : (i : ℕ) → i < 16 → off_after (drop (length s - 19) s) i ≡ false = λ i l. (a.last b).each i (omega (arith, length-drop (length s - 19) s)) in
      record { each = λ i l. in_place_from s (length s - 19) f 16 g i (omega arith) }

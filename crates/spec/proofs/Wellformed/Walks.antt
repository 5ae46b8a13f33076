-- A walk through a text that checks each "&#" as a character reference and each other character against a class: what it accepts is
-- text of the class around references. One theorem for check_char_refs, check_text and check_attr_value. Assumes nothing.
use mathlib.Core.Logic
use mathlib.Core.Bool.{Bool, true, false, ◌&&◌, ◌||◌, and-false}
use mathlib.Core.List.{List, [], ◌∷◌, ◌++◌, append_assoc}
use mathlib.Core.Logic.{◌⊎◌}
use mathlib.Core.Path.{◌≡◌, refl, sym, ◌∙◌, ap, subst}
use Prim.Native.Nat.{ℕ, zero, suc, ◌+◌, ◌≤◌, ◌<◌}
use native.Mathlib.Omega.{arith}
use lib.Dec.{eqb}
use lib.ListN.{length, length-append}
use lib.Seq.{drop-append_seam}
use Rattle.spec.specs.Grammar.Characters.{Text}
use Rattle.spec.specs.Grammar.Languages.{ascii, Ch, ◌·◌, Star, end, more, any}
use Rattle.spec.specs.Grammar.References.{CharRef, Unreferring, Referring}
use Rattle.spec.specs.Grammar.Utf8.{encode}
use Rattle.spec.specs.Reading.Readers.{Result, ok, err, Reader, past, starts, throughout, contains}
use Rattle.spec.specs.Reading.Utf8.{tail}
use Rattle.spec.specs.Reading.Wellformed.{char_ref}
use Rattle.spec.proofs.Agreement.Chars.{ch_some}
use Rattle.spec.proofs.Agreement.Holds.{contains_avoid, contains_char, starts_shorter, free_holds, holds_free}
use Rattle.spec.proofs.Agreement.Reads.{Took, drop_took}
use Rattle.spec.proofs.Agreement.Words.{starts_apart}
use Rattle.spec.proofs.Base.Loops.{Somes, through_end, through_some, through_none}
use Rattle.spec.proofs.Base.Results.{err_ok, past_past, past_ok, one-add}
use Rattle.spec.proofs.Base.Tests.{decide, and_left, and_right, or_false_left, or_false_right}
use Rattle.spec.proofs.Characters.Bytes.{Bytes, bytes_of, all_tails}
use Rattle.spec.proofs.Characters.Text.{ch_any, star_map}
use Rattle.spec.proofs.Wellformed.References.{ref_open, char_ref_reads, ref_starts, ref_some, Foreign, avoiding_ref}

-- over a character, where a step takes its first byte and any tail
module _ (S : Reader) (some : Somes S) (at_tail : (b : ℕ) (w : List ℕ) → tail b ≡ true → S (b ∷ w) ≡ ok 1) where
  over_tails : (x v : List ℕ) → all_tails x ≡ true → throughout S (x ++ v) ≡ past (length x) (throughout S v)
  over_tails [] v h = go (throughout S v)
    where
      go : (a : Result) → a ≡ past 0 a
      go (ok k) = ap ok (let e : k ≡ 0 + k = omega arith in e)
      go (err n j) = ap (err n) (let e : j ≡ 0 + j = omega arith in e)
  over_tails (b ∷ x) v h =
      through_some S (some) (b ∷ (x ++ v)) 1 (omega arith) (at_tail b (x ++ v) (and_left (tail b) (all_tails x) h))
      ∙ ap (past 1) (over_tails x v (and_right (tail b) (all_tails x) h))
      ∙ past_past 1 (length x) (throughout S v) ∙ ap (λ (n : ℕ). past n (throughout S v)) (one-add (length x))

  pub over_char : {p : ℕ → Bool} (u v : List ℕ) → Ch p u → S (u ++ v) ≡ ok 1 → throughout S (u ++ v) ≡ past (length u) (throughout S v)
  over_char u v c e =
      let b : Bytes c.char = bytes_of c.char in
      let f : u ≡ b.head ∷ b.tails = c.bytes ∙ b.are in
      let g : S (b.head ∷ (b.tails ++ v)) ≡ ok 1 = ap (λ (z : List ℕ). S (z ++ v)) (sym f) ∙ e in
      ap (λ (z : List ℕ). throughout S (z ++ v)) f
      ∙ through_some S (some) (b.head ∷ (b.tails ++ v)) 1 (omega arith) g
      ∙ ap (past 1) (over_tails b.tails v b.tailed) ∙ past_past 1 (length b.tails) (throughout S v)
      ∙ ap (λ (n : ℕ). past n (throughout S v)) (one-add (length b.tails) ∙ ap length (sym f))

-- a walk's way: references, and characters of the class p that begin no "&#" and of which B holds where they stand
pub data Walked (p : ℕ → Bool) (B : List ℕ → Type 0) : List ℕ → Type 0 where
  done : {w : List ℕ} → w ≡ [] → Walked p B w
  ref : {w : List ℕ} (u v : List ℕ) → w ≡ u ++ v → CharRef u → Walked p B v → Walked p B w
  chr : {w : List ℕ} (u v : List ℕ) → w ≡ u ++ v → Ch p u → starts ref_open (u ++ v) ≡ false → B (u ++ v) → Walked p B v → Walked p B w

-- A step of a walk: over a reference, over a tail, and over the first byte of a character; Q is what is known of the text beforehand
pub record Step (S : Reader) (p : ℕ → Bool) (Q B : List ℕ → Type 0) : Type 0 where
  pub some : Somes S
  pub rest : (x y : List ℕ) → Q (x ++ y) → Q y
  pub at_tail : (b : ℕ) (w : List ℕ) → tail b ≡ true → S (b ∷ w) ≡ ok 1
  pub at_ref : (w : List ℕ) → starts ref_open w ≡ true → S w ≡ char_ref w
  pub takes : (u v : List ℕ) → Ch p u → starts ref_open (u ++ v) ≡ false → B (u ++ v) → S (u ++ v) ≡ ok 1
  pub legal : (u v : List ℕ) (k : ℕ) → Ch any u → starts ref_open (u ++ v) ≡ false → Q (u ++ v) → S (u ++ v) ≡ ok k → Ch p u × B (u ++ v)

module _ {S : Reader} {p : ℕ → Bool} {Q B : List ℕ → Type 0} (st : Step S p Q B) where
  -- what the walk accepts, it went through
  walk_to : (d : ℕ) (w : List ℕ) (k : ℕ) → length w ≤ d → Text w → Q w → throughout S w ≡ ok k → Walked p B w
  unfolding Text
  walk_to zero w k h (end f) q e = done f
  walk_to zero w k h (more x y f c s) q e = absurd (let z : 0 < length x = ch_some x c in omega (arith, ap length f ∙ length-append x y))
  walk_to (suc d) w k h (end f) q e = done f
  walk_to (suc d) w k h (more x y f c s) q e = go (decide (starts ref_open w)) (λ z m. walk_to d z m)
    where
      size : length w ≡ length x + length y
      size = ap length f ∙ length-append x y

      some_x : 0 < length x
      some_x = ch_some x c

      -- what is left after j bytes
      rest_of : (z : List ℕ) (j : ℕ) → throughout S w ≡ past j (throughout S z) → (m : ℕ) × (throughout S z ≡ ok m)
      rest_of z j g = let (m, f, _) = past_ok j k (throughout S z) (sym g ∙ e) in (m, f)

      by_ref : ((z : List ℕ) (m : ℕ) → length z ≤ d → Text z → Q z → throughout S z ≡ ok m → Walked p B z) → starts ref_open w ≡ true → (a : Result) → char_ref w ≡ a → Walked p B w
      by_ref ih a (err n j) g = absurd (err_ok n k (sym (through_none S w n (let l = size in let z = some_x in omega arith) (st.at_ref w a ∙ g)) ∙ e))
      by_ref ih a (ok j) g =
          let t : Took CharRef j w = char_ref_reads.sound w j (more x y f c s) g in
          let l = size in
          let z = some_x in
          let i : throughout S w ≡ past j (throughout S t.rest) = through_some S st.some w j (omega arith) (st.at_ref w a ∙ g) ∙ ap (λ (x : List ℕ). past j (throughout S x)) (drop_took t) in
          let (m, r) = rest_of t.rest j i in
          let n : length w ≡ length t.taken + length t.rest = ap length t.split ∙ length-append t.taken t.rest in
          let o : 0 < length t.taken = ref_some t.taken t.holds in
          ref t.taken t.rest t.split t.holds (ih t.rest m (omega arith) t.left (st.rest t.taken t.rest (subst Q t.split q)) r)

      by_char : ((z : List ℕ) (m : ℕ) → length z ≤ d → Text z → Q z → throughout S z ≡ ok m → Walked p B z) → starts ref_open w ≡ false → (a : Result) → S w ≡ a → Walked p B w
      by_char ih n (err m j) g = absurd (err_ok m k (sym (through_none S w m (let l = size in let z = some_x in omega arith) g) ∙ e))
      by_char ih n (ok j) g =
          let o : starts ref_open (x ++ y) ≡ false = ap (starts ref_open) (sym f) ∙ n in
          let (i, b) = st.legal x y j c o (subst Q f q) (ap S (sym f) ∙ g) in
          let l = size in
          let z = some_x in
          let (m, r) = rest_of y (length x) (ap (throughout S) f ∙ over_char S st.some st.at_tail x y i (st.takes x y i o b)) in
          chr x y f i o b (ih y m (omega arith) s (st.rest x y (subst Q f q)) r)

      go : (starts ref_open w ≡ true) ⊎ (starts ref_open w ≡ false) → ((z : List ℕ) (m : ℕ) → length z ≤ d → Text z → Q z → throughout S z ≡ ok m → Walked p B z) → Walked p B w
      go (Logic.inl a) ih = by_ref ih a (char_ref w) refl
      go (Logic.inr a) ih = by_char ih a (S w) refl

  pub walk_sound : (w : List ℕ) (k : ℕ) → Text w → Q w → throughout S w ≡ ok k → Walked p B w
  walk_sound w k tw q e = walk_to (length w) w k (omega arith) tw q e

  -- and what it may go through, it accepts
  pub walk_complete : {w : List ℕ} → Walked p B w → throughout S w ≡ ok (length w)
  walk_complete (done e) = rw e (through_end S)
  walk_complete (ref u v e c r) =
      let z : 0 < length u = ref_some u c in
      let n : length (u ++ v) ≡ length u + length v = length-append u v in
      let f : S (u ++ v) ≡ ok (length u) = st.at_ref (u ++ v) (ref_starts u v c) ∙ char_ref_reads.complete u v c (record { it = tt }) in
      rw e (through_some S st.some (u ++ v) (length u) (omega arith) f ∙ ap (λ (x : List ℕ). past (length u) (throughout S x)) (drop-append_seam u v) ∙ ap (past (length u)) (walk_complete r) ∙ ap ok (sym n))
  walk_complete (chr u v e c n b r) =
      rw e (over_char S st.some st.at_tail u v c (st.takes u v c n b) ∙ ap (past (length u)) (walk_complete r) ∙ ap ok (sym (length-append u v)))

-- A walk's way is text of the class around references
unref_more : (p : ℕ → Bool) (u x : List ℕ) → Ch p u → starts ref_open (u ++ x) ≡ false → Unreferring p x → Unreferring p (u ++ x)
unfolding Unreferring
unref_more p u x c n l = (
  more u x refl c l.0,
  free_holds "&#" 38 (35 ∷ []) refl tt (u ++ x)
      (ap (contains ref_open) (ap (λ (z : List ℕ). z ++ x) c.bytes) ∙ contains_char 38 (35 ∷ []) c.char x (omega arith)
      ∙ (λ i. (ap (λ (z : List ℕ). starts ref_open (z ++ x)) (sym c.bytes) ∙ n) i || holds_free "&#" 38 (35 ∷ []) refl tt x (unfold Text in star_map (λ w d. ch_any d) l.0) l.1 i)),
)

unref_none : (p : ℕ → Bool) → Unreferring p []
unfolding Unreferring contains
unref_none p = (end refl, free_holds "&#" 38 (35 ∷ []) refl tt [] refl)

pub walked_referring : {p : ℕ → Bool} {B : List ℕ → Type 0} {w : List ℕ} → Walked p B w → Referring p w
unfolding Referring
walked_referring {p} (done e) = record { left = []; right = []; split = e; first = unref_none p; second = end refl }
walked_referring {p} (ref u v e c r) =
    let l = walked_referring r in
    let f : u ++ v ≡ (u ++ l.left) ++ l.right = ap (λ (z : List ℕ). u ++ z) l.split ∙ sym (append_assoc u l.left l.right) in
    record { left = []; right = u ++ v; split = e; first = unref_none p; second = more (u ++ l.left) l.right f (record { left = u; right = l.left; split = refl; first = c; second = l.first }) l.second }
walked_referring {p} (chr u v e c n b r) =
    let l = walked_referring r in
    let f : u ++ v ≡ (u ++ l.left) ++ l.right = ap (λ (z : List ℕ). u ++ z) l.split ∙ sym (append_assoc u l.left l.right) in
    record { left = u ++ l.left; right = l.right; split = e ∙ f; first = unref_more p u l.left c (starts_shorter ref_open (u ++ l.left) l.right (ap (starts ref_open) (sym f) ∙ n)) l.first; second = l.second }

-- "&#" does not begin across the end of a text without it, where no '#' follows
across : (u v : List ℕ) → 0 < length u → contains ref_open u ≡ false → starts (ascii "#") v ≡ false → starts ref_open (u ++ v) ≡ false
unfolding contains starts
across [] v h n a = absurd (let z : 0 < 0 = h in omega arith)
across (b ∷ []) v h n a = rw (a, and-false (eqb b 38))
across (b ∷ d ∷ u) v h n a = or_false_left (eqb b 38 && (eqb d 35 && true)) (contains ref_open (d ∷ u)) n

unref_free : (p : ℕ → Bool) (x : List ℕ) → Unreferring p x → contains ref_open x ≡ false
unfolding Unreferring Text
unref_free p x l = holds_free "&#" 38 (35 ∷ []) refl tt x (star_map (λ w c. ch_any c) l.0) l.1

-- Such a text is a walk's way, where what is known of it, Q, gives B at each place
module _ {p : ℕ → Bool} {Q B : List ℕ → Type 0} (rest : (x y : List ℕ) → Q (x ++ y) → Q y) (good : (w : List ℕ) → Q w → B w) where
  over_unref : {u : List ℕ} (v : List ℕ) → Star (Ch p) u → contains ref_open u ≡ false → starts (ascii "#") v ≡ false → Q (u ++ v) → Walked p B v → Walked p B (u ++ v)
  over_unref v (end e) n a q r = subst (λ (z : List ℕ). Walked p B (z ++ v)) (sym e) r
  over_unref {u} v (more x y e c s) n a q r =
      let z : 0 < length x = ch_some x c in
      let k : length u ≡ length x + length y = ap length e ∙ length-append x y in
      let f : u ++ v ≡ x ++ (y ++ v) = ap (λ (z : List ℕ). z ++ v) e ∙ append_assoc x y v in
      let m : (starts ref_open (encode c.char ++ y) || contains ref_open y) ≡ false = sym (contains_char 38 (35 ∷ []) c.char y (omega arith)) ∙ ap (contains ref_open) (sym (e ∙ ap (λ (z : List ℕ). z ++ y) c.bytes)) ∙ n in
      let o : starts ref_open (x ++ (y ++ v)) ≡ false = ap (starts ref_open) (sym f) ∙ across u v (omega arith) n a in
      let g : Q (x ++ (y ++ v)) = subst Q f q in
      chr x (y ++ v) f c o (good (x ++ (y ++ v)) g) (over_unref v s (or_false_right (starts ref_open (encode c.char ++ y)) (contains ref_open y) m) a (rest x (y ++ v) g) r)

  over_refs : {v : List ℕ} → Star (CharRef · Unreferring p) v → Q v → Walked p B v × (starts (ascii "#") v ≡ false)
  unfolding Unreferring starts
  over_refs (end e) q = (done e, ap (starts (ascii "#")) e)
  over_refs {v} (more u y e c s) q =
      let x : List ℕ = c.left in
      let z : List ℕ = c.right in
      let f : v ≡ x ++ (z ++ y) = e ∙ ap (λ (w : List ℕ). w ++ y) c.split ∙ append_assoc x z y in
      let g : Q (z ++ y) = rest x (z ++ y) (subst Q f q) in
      let (r, a) = over_refs s (rest z y g) in
      (ref x (z ++ y) f c.first (over_unref y c.second.0 (unref_free p z c.second) a g r), ap (starts (ascii "#")) f ∙ starts_apart 38 35 (ascii "#") [] (x ++ (z ++ y)) refl (ref_starts x (z ++ y) c.first))

  pub referring_walked : (w : List ℕ) → Referring p w → Q w → Walked p B w
  unfolding Referring Unreferring
  referring_walked w l q =
      let g : Q (l.left ++ l.right) = subst Q l.split q in
      let (r, a) = over_refs l.second (rest l.left l.right g) in
      subst (Walked p B) (sym l.split) (over_unref l.right l.first.0 (unref_free p l.left l.first) a g r)

-- a word whose first sign no reference has stands nowhere in a walk's way that meets it at no character
pub walked_free : {p : ℕ → Bool} (a : ℕ) (s : List ℕ) → Foreign a → {w : List ℕ} → Walked p (λ w. starts (a ∷ s) w ≡ false) w → contains (a ∷ s) w ≡ false
unfolding contains
walked_free a s f (done e) = ap (contains (a ∷ s)) e
walked_free a s f (ref u v e c r) = ap (contains (a ∷ s)) e ∙ contains_avoid a s u v (avoiding_ref a f u c) ∙ walked_free a s f r
walked_free a s f (chr u v e c n b r) =
    ap (contains (a ∷ s)) (e ∙ ap (λ (z : List ℕ). z ++ v) c.bytes) ∙ contains_char a s c.char v f.small
    ∙ (λ i. (ap (λ (z : List ℕ). starts (a ∷ s) (z ++ v)) (sym c.bytes) ∙ b) i || walked_free a s f r i)

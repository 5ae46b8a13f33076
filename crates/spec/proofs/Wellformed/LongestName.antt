-- Runs of characters of a class, and names: what the order of reading takes is the longest that the grammar derives, on all bytes.
-- Assumes nothing.
use mathlib.Core.Path.{◌≡◌, refl, sym, ◌∙◌, ap}
use mathlib.Core.Bool.{Bool, true, false}
use mathlib.Core.List.{List, [], ◌++◌}
use Prim.Native.Nat.{ℕ, zero, suc, ◌+◌, ◌-◌, ◌≤◌, ◌<◌}
use native.Mathlib.Omega.{arith}
use lib.ListN.{length, take, drop, length-drop}
use lib.Seq.{drop_at, take_at, take-add}
use Rattle.spec.specs.Grammar.Utf8.{scalar, encode}
use Rattle.spec.specs.Grammar.Languages.{Lang, Ch, ◌·◌, Star, end, more}
use Rattle.spec.specs.Grammar.Names.{Dialect, Name}
use Rattle.spec.specs.Reading.Refusals.{Refusal, bad_name}
use Rattle.spec.specs.Reading.Utf8.{Point, point, no_point, decode1}
use Rattle.spec.specs.Reading.Readers.{ok, err, Reader, taken, past, ◌>>◌, while, begins, char}
use Rattle.spec.specs.Reading.Wellformed.{parts, name, name_length}
use Rattle.spec.proofs.Base.Tests.{T→true, true→T}
use Rattle.spec.proofs.Base.Results.{err_ok}
use Rattle.spec.proofs.Base.Loops.{while_turn, while_stop}
use Rattle.spec.proofs.Characters.Text.{cat_size, cat_before, plus_star}
use Rattle.spec.proofs.Characters.Utf8.{Read, decode_read, decode_encode, char_point, point_size}

-- k bytes of w are of the language, and no front part of w that is of the language is longer
pub record Takes (L : Lang) (w : List ℕ) (k : ℕ) : Type 0 where
  pub within : k ≤ length w
  pub derived : L (take k w)
  pub longest : (u v : List ℕ) → w ≡ u ++ v → L u → length u ≤ k

-- a character of the class stands first, or none does
data Front (p : ℕ → Bool) (n : Refusal) (w : List ℕ) : Type 0 where
  stands : (c k : ℕ) → decode1 w ≡ point c k → p c ≡ true → Front p n w
  absent : begins p w ≡ false → char p n w ≡ err n 0 → Front p n w

-- one character
module _ (p : ℕ → Bool) (n : Refusal) where
  module _ (w : List ℕ) where
    front : Front p n w
    unfolding begins char
    front = go (decode1 w) refl
      where
        by_class : (c k : ℕ) → decode1 w ≡ point c k → (t : Bool) → p c ≡ t → Front p n w
        by_class c k d true e = stands c k d e
        by_class c k d false e = absent (rw (d, e)) (rw (d, e))

        go : (x : Point) → decode1 w ≡ x → Front p n w
        go (point c k) d = by_class c k d (p c) refl
        go no_point d = absent (rw d) (rw d)

    pub char_is : (c k : ℕ) → decode1 w ≡ point c k → p c ≡ true → char p n w ≡ ok k
    unfolding char
    char_is c k d e = rw (d, e)

    pub char_not : (c k : ℕ) → decode1 w ≡ point c k → p c ≡ false → char p n w ≡ err n 0
    unfolding char
    char_not c k d e = rw (d, e)

    pub char_none : decode1 w ≡ no_point → char p n w ≡ err n 0
    unfolding char
    char_none d = rw d

    begins_ok : (k : ℕ) → char p n w ≡ ok k → begins p w ≡ true
    unfolding begins
    begins_ok k e = let (c, d, f) = char_point p n w k e in rw d f

    begins_err : char p n w ≡ err n 0 → begins p w ≡ false
    begins_err e = go front
      where
        go : Front p n w → begins p w ≡ false
        go (stands c k d f) = absurd (err_ok n k (sym e ∙ char_is c k d f))
        go (absent b _) = b

  -- a character of the class is taken, whatever follows
  char_takes : (a x : List ℕ) → Ch p a → char p n (a ++ x) ≡ ok (length a)
  char_takes a x h =
      let c = h.char in
      let d : decode1 (encode c ++ x) ≡ point c (length (encode c)) = decode_encode c x (T→true (scalar c) h.is_scalar) in
      rw h.bytes (char_is (encode c ++ x) c (length (encode c)) d (T→true (p c) h.in_class))

  -- and what is taken is one
  char_taken : (w : List ℕ) (k : ℕ) → char p n w ≡ ok k → Ch p (take k w)
  char_taken w k e =
      let (c, d, f) = char_point p n w k e in
      let r : Read c k w = decode_read c k w d in
      record {
        char = c;
        is_scalar = true→T (scalar c) r.is_scalar;
        in_class = true→T (p c) f;
        bytes = ap (take k) r.split ∙ take_at (encode c) r.rest k r.size;
      }

  char_size : (w : List ℕ) (k : ℕ) → char p n w ≡ ok k → (0 < k) × (k ≤ length w)
  char_size w k e = let (c, d, f) = char_point p n w k e in point_size c k w d

  -- a character of the class, and after it what L derives
  module _ (L : Lang) (w : List ℕ) where
    module _ (u v : List ℕ) (f : w ≡ u ++ v) (h : (Ch p · L) u) where
      regroup : w ≡ h.left ++ (h.right ++ v)
      regroup = f ∙ cat_before h v

      leads : char p n w ≡ ok (length h.left)
      leads = ap (char p n) regroup ∙ char_takes h.left (h.right ++ v) h.first

    first_none : char p n w ≡ err n 0 → (u v : List ℕ) → w ≡ u ++ v → (Ch p · L) u → ⊥
    first_none e u v f h = err_ok n (length h.left) (sym e ∙ leads u v f h)

    first_takes : (k j : ℕ) → char p n w ≡ ok k → Takes L (drop k w) j → Takes (Ch p · L) w (k + j)
    first_takes k j e t =
        let z = char_size w k e in
        let g : j ≤ length w - k = rw (← length-drop k w) t.within in
        record {
          within = omega arith;
          derived = record { left = take k w; right = take j (drop k w); split = take-add k j w; first = char_taken w k e; second = t.derived };
          longest = λ u v f h.
              let i = leads u v f h in
              let m : length h.left ≡ k = cc in
              let l = t.longest h.right v (ap (drop k) (regroup u v f h) ∙ drop_at h.left (h.right ++ v) k m) h.second in
              let q = cat_size h in
              omega arith;
        }

-- characters of the class to the end of their run
abbrev pub chars : (ℕ → Bool) → Refusal → Reader
chars p n = while (begins p) (char p n)

-- a star's front part is empty or begins with one of the language
star_longest : (L : Lang) (w : List ℕ) (k : ℕ) → ((u v : List ℕ) → w ≡ u ++ v → (L · Star L) u → length u ≤ k) → (u v : List ℕ) → w ≡ u ++ v → Star L u → length u ≤ k
star_longest L w k f u v e (end g) = let l = ap length g in omega arith
star_longest L w k f u v e (more a b g h s) = f u v e (record { left = a; right = b; split = g; first = h; second = s })

module _ (p : ℕ → Bool) (n : Refusal) where
  pub chars_stop : (w : List ℕ) → char p n w ≡ err n 0 → chars p n w ≡ ok 0
  chars_stop w e = while_stop (begins p) (char p n) w (begins_err p n w e)

  begins_end : begins p [] ≡ false
  unfolding begins decode1
  begins_end = refl

  pub chars_turn : (w : List ℕ) (k : ℕ) → char p n w ≡ ok k → chars p n w ≡ past k (chars p n (drop k w))
  chars_turn w k e = while_turn (begins p) (char p n) begins_end (λ x j y e. (char_size p n x j e).0) w k (begins_ok p n w k e) e

  -- a run is never refused, and it is the longest
  abbrev pub Run : List ℕ → Type 0
  Run w = (k : ℕ) × ((chars p n w ≡ ok k) × Takes (Star (Ch p)) w k)

  turn : (w : List ℕ) → ((k : ℕ) → 0 < k → k ≤ length w → Run (drop k w)) → Run w
  turn w next = go (front p n w)
    where
      go : Front p n w → Run w
      go (absent _ e) = (
        0,
        (
          chars_stop w e,
          record {
            within = omega arith;
            derived = end refl;
            longest = star_longest (Ch p) w 0 (λ u v f h. absurd (first_none p n (Star (Ch p)) w e u v f h));
          },
        ),
      )
      go (stands c k d i) =
          let e = char_is p n w c k d i in
          let z = char_size p n w k e in
          let (j, (f, t)) = next k z.0 z.1 in
          let h = first_takes p n (Star (Ch p)) w k j e t in (
            k + j,
            (
              chars_turn w k e ∙ (rw f),
              record {
                within = h.within;
                derived = plus_star h.derived;
                longest = star_longest (Ch p) w (k + j) h.longest;
              },
            ),
          )

  chars_to : (d : ℕ) (w : List ℕ) → length w ≤ d → Run w
  chars_to zero w h = turn w (λ k l g. absurd (omega arith))
  chars_to (suc d) w h = turn w (λ k l g. chars_to d (drop k w) (omega (arith, length-drop k w)))

  pub chars_run : (w : List ℕ) → Run w
  chars_run w = chars_to (length w) w (omega arith)

-- a name stands first, or none does
pub data Named (D : Dialect) (w : List ℕ) : Type 0 where
  a_name : (k : ℕ) → 0 < k → name D w ≡ ok k → Takes (Name D) w k → Named D w
  no_name : name D w ≡ err bad_name 0 → ((u v : List ℕ) → w ≡ u ++ v → Name D u → ⊥) → Named D w

module _ (D : Dialect) (w : List ℕ) where
  -- [7] Nmtoken's loop is never refused, and takes the longest
  pub parts_ok : parts D w ≡ ok (taken (parts D w))
  unfolding parts
  parts_ok = let (k, (e, t)) = chars_run D.part bad_name w in rw e

  pub parts_takes : Takes (Star (Ch D.part)) w (taken (parts D w))
  unfolding parts
  parts_takes = let (k, (e, t)) = chars_run D.part bad_name w in rw e t

  -- [5] Name, by its first character
  pub name_first : (k : ℕ) → char D.start bad_name w ≡ ok k → name D w ≡ past k (parts D (drop k w))
  unfolding name ◌>>◌
  name_first k e = rw e

  pub name_none : char D.start bad_name w ≡ err bad_name 0 → name D w ≡ err bad_name 0
  unfolding name ◌>>◌
  name_none e = rw e

  pub named : Named D w
  unfolding Name parts
  named = go (front D.start bad_name w)
    where
      go : Front D.start bad_name w → Named D w
      go (stands c k d i) =
          let e = char_is D.start bad_name w c k d i in
          let (j, (f, t)) = chars_run D.part bad_name (drop k w) in
          let z = char_size D.start bad_name w k e in
          a_name (k + j) (omega arith) (name_first k e ∙ (rw f)) (first_takes D.start bad_name (Star (Ch D.part)) w k j e t)
      go (absent _ e) = no_name (name_none e) (first_none D.start bad_name (Star (Ch D.part)) w e)

  -- The theorem: what the order of reading takes for a name stands in the text,
  pub name_within : name_length D w ≤ length w
  unfolding name_length
  name_within = go named
    where
      go : Named D w → taken (name D w) ≤ length w
      go (a_name k z e t) = rw e t.within
      go (no_name e f) = rw e (omega arith)

  -- is a Name, if it is anything,
  pub name_is_name : (name_length D w ≡ 0 → ⊥) → Name D (take (name_length D w) w)
  unfolding name_length
  name_is_name = go named
    where
      go : Named D w → (taken (name D w) ≡ 0 → ⊥) → Name D (take (taken (name D w)) w)
      go (a_name k z e t) h = rw e t.derived
      go (no_name e f) h = absurd (h (rw e))

  -- and no front part of the text that is a Name is longer
  pub name_longest : (u v : List ℕ) → w ≡ u ++ v → Name D u → length u ≤ name_length D w
  unfolding name_length
  name_longest = go named
    where
      go : Named D w → (u v : List ℕ) → w ≡ u ++ v → Name D u → length u ≤ taken (name D w)
      go (a_name k z e t) = rw e t.longest
      go (no_name e f) = λ u v s h. absurd (f u v s h)

  -- by its length: what is read, where it is something, and where it is nothing
  pub name_read : (name_length D w ≡ 0 → ⊥) → name D w ≡ ok (name_length D w)
  unfolding name_length
  name_read = go named
    where
      go : Named D w → (taken (name D w) ≡ 0 → ⊥) → name D w ≡ ok (taken (name D w))
      go (a_name k z e t) h = e ∙ (rw e)
      go (no_name e f) h = absurd (h (rw e))

  pub name_unread : name_length D w ≡ 0 → name D w ≡ err bad_name 0
  unfolding name_length
  name_unread = go named
    where
      go : Named D w → taken (name D w) ≡ 0 → name D w ≡ err bad_name 0
      go (a_name k z e t) h = let l : k ≡ 0 = (rw e at h) in absurd (omega arith)
      go (no_name e f) h = e

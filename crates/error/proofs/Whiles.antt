-- A reader again and again while a test holds, and then another: what such a loop in the code comes to. Assumes nothing.
use mathlib.Core.Path.{◌≡◌, refl, sym, ap, ◌∙◌}
use mathlib.Core.Bool.{Bool, true, false, true≢false}
use mathlib.Core.List.{List, [], ◌∷◌}
use Prim.Native.Nat.{ℕ, ◌-◌, ◌<◌}
use native.Mathlib.Nat.{add-zero}
use native.Mathlib.Omega.{arith}
use borrow.Author.Rules.{rules}
use lib.ListN.{length, drop, length-drop}
use Rattle.std.specs.Prelude.{Ok, Err}
use Rattle.spec.specs.Reading.Readers.{Result, ok, err, Reader, ◌>>◌, while}
use Rattle.spec.proofs.Base.Loops.{Somes, while_turn, while_stop, while_refused}
use Rattle.error.specs.Read.{Said, Answer, said, read, placed}
use Rattle.error.specs.declared.Fault.{Fault}
use Rattle.spec.proofs.Base.Sequences.{then_then}
use Rattle.error.proofs.Laws.{was_ok, seq_no, seq_at}

-- A turn takes a byte or more, where the test holds.
module _ (t : List ℕ → Bool) (r : Reader) (ends : t [] ≡ false) (some : Somes r) where
  turn_some : (x : List ℕ) (j : ℕ) → t x ≡ true → r x ≡ ok j → 0 < j
  turn_some [] j e f = absurd (true≢false (sym e ∙ ends))
  turn_some (b ∷ x) j e f = some.some b x j f

  -- a turn, and then the loop again
  pub unroll : (w : List ℕ) → t w ≡ true → while t r w ≡ (r >> while t r) w
  unfolding ◌>>◌
  unroll w e = go (r w) refl
    where
      go : (x : Result) → r w ≡ x → while t r w ≡ (r >> while t r) w
      go (ok k) f = while_turn t r ends turn_some w k e f ∙ (rw f)
      go (err n j) f = while_refused t r ends w n e f ∙ (rw f)

  unroll_then : (B : Reader) (w : List ℕ) → t w ≡ true → (while t r >> B) w ≡ (r >> while t r >> B) w
  unroll_then B w e = rw (← then_then r (while t r) B w) (unfold ◌>>◌ in (rw (unroll w e)))

-- at a place, where the first turn stands before the loop
pub while_first : (t : List ℕ → Bool) (r B : Reader) (s : List ℕ) (i : ℕ) (b : Bool) (q : Said) → t [] ≡ false → Somes r → b ≡ t (drop i s) → b ≡ true → q ≡ read (while t r >> B) s i → q ≡ read (r >> while t r >> B) s i
unfolding read
while_first t r B s i b q ends some e f a = a ∙ ap (placed i) (unroll_then t r ends some B (drop i s) (sym e ∙ f))

-- The invariant: what is said from i on is W, what is said of the whole. b is what the code's test says at i.
module _ (t : List ℕ → Bool) (r B : Reader) (s : List ℕ) (i : ℕ) (W : Said) (inv : read (while t r >> B) s i ≡ W) (b : Bool) (e : b ≡ t (drop i s)) where
  pub while_end : (q : Said) → b ≡ false → q ≡ read B s i → q ≡ W
  while_end q f a = seq_at (while t r) B s i i (Ok i) q (unfold read said in (rw (while_stop t r (drop i s) (sym e ∙ f), add-zero))) refl a ∙ inv

  module _ (f : b ≡ true) (ends : t [] ≡ false) where
    inside : i < length s
    inside = go (drop i s) (length-drop i s) (sym e ∙ f)
      where
        go : (w : List ℕ) → length w ≡ length s - i → t w ≡ true → i < length s
        go [] l g = absurd (true≢false (sym g ∙ ends))
        go (c ∷ w) l g = omega arith

    module _ (some : Somes r) where
      turned : read (r >> while t r >> B) s i ≡ W
      turned = sym (while_first t r B s i b _ ends some e f refl) ∙ inv

      pub while_no : (x : Fault) (a : Answer) → said a ≡ read r s i → a ≡ Err x → said (Err x) ≡ W
      while_no x a h g = seq_no r (while t r >> B) s i x a h g ∙ turned

      pub while_err : (x : Fault) → said (Err x) ≡ read r s i → said (Err x) ≡ W
      while_err x h = while_no x (Err x) h refl

      module _ (j : ℕ) (h : said (Ok j) ≡ read r s i) where
        pub while_go : read (while t r >> B) s j ≡ W
        while_go = seq_at r (while t r >> B) s i j (Ok j) _ h refl refl ∙ turned

        pub while_less : length s - j < length s - i
        while_less =
            let (k, (g, l)) = was_ok r s i j (Ok j) h refl in
            let z : 0 < k = turn_some t r ends some (drop i s) k (sym e ∙ f) g in
            let y = inside in
            omega arith

-- what such a loop searches, with what its turn and the reader after it search
pub ruleset whiles = (while_end, while_no, while_err, while_go, while_less, rules)

-- Steps of a check: a reader R that a loop takes again and again to the text's end. Assumes nothing.
use mathlib.Core.Path.{◌≡◌, refl, sym, ap, ◌∙◌}
use mathlib.Core.Bool.{Bool, true, false, not}
use mathlib.Core.List.{List, [], ◌∷◌}
use Prim.Native.Nat.{ℕ, suc, ◌+◌, ◌-◌, ◌<◌}
use native.Mathlib.Nat.{zero-add}
use native.Mathlib.Numerals.{one-add}
use native.Mathlib.Omega.{arith}
use borrow.Author.Rules.{rules}
use lib.ListN.{length, get_or, drop}
use Rattle.std.specs.Prelude.{Ok, Err}
use Rattle.spec.specs.Basics.{pick}
use Rattle.spec.specs.Reading.Readers.{Result, ok, err, Reader, past, run, throughout}
use Rattle.spec.proofs.Base.Loops.{Somes, through_turn}
use Rattle.spec.proofs.Base.Results.{past_past}
use Rattle.error.specs.Read.{Said, Answer, said, placed, read}
use Rattle.error.specs.declared.Fault.{Fault}
use Rattle.error.proofs.Laws.{read_on, walk_end, walk_no, walk_go, walk_less}
use Rattle.search.specs.Runs.{away, Skipped}
use Rattle.search.proofs.Runs.{away_go}
use Rattle.chars.specs.Rules.{Steady}

-- a steady reader takes a byte or more
some_of : (R : Reader) (q : ℕ → Bool) → Steady R q → Somes R
some_of R q r = record { some = r.some }

past_none : (x : Result) → past 0 x ≡ x
past_none (ok k) = ap ok (zero-add k)
past_none (err r n) = ap (err r) (zero-add n)

-- so it takes a run of them one by one
through_run : (R : Reader) (q : ℕ → Bool) → Steady R q → (w : List ℕ) → throughout R w ≡ past (away q w) (throughout R (drop (away q w) w))
unfolding away run
through_run R q r [] = sym (past_none (throughout R []))
through_run R q r (b ∷ w) = go (q b) refl (run (λ b. not (q b)) w) (through_run R q r w)
  where
    go : (t : Bool) → q b ≡ t → (n : ℕ) → throughout R w ≡ past n (throughout R (drop n w))
        → throughout R (b ∷ w) ≡ past (pick (not t) (suc n) 0) (throughout R (drop (pick (not t) (suc n) 0) (b ∷ w)))
    go true e n ih = sym (past_none (throughout R (b ∷ w)))
    go false e n ih = through_turn R (some_of R q r) b w 1 (r.plain b w e) ∙ ap (past 1) ih ∙ past_past 1 n (throughout R (drop n w)) ∙ (rw one-add)

-- and a loop may pass some of them, or one
skip_run : (R : Reader) (q : ℕ → Bool) → Steady R q → (s : List ℕ) (i : ℕ) → read (throughout R) s (i + away q (drop i s)) ≡ read (throughout R) s i
skip_run R q r s i = read_on (throughout R) s i (away q (drop i s)) ∙ (unfold read in ap (placed i) (sym (through_run R q r (drop i s))))

pub walk_skip : (R : Reader) (q : ℕ → Bool) (s : List ℕ) (i e : ℕ) (W : Said) → Skipped q s i e → Steady R q → read (throughout R) s i ≡ W → read (throughout R) s e ≡ W
walk_skip R q s i e W sk r inv = sym (skip_run R q r s e) ∙ ap (read (throughout R) s) sk.ends ∙ skip_run R q r s i ∙ inv

pub walk_past : (R : Reader) (q : ℕ → Bool) (s : List ℕ) (i : ℕ) (t : Bool) (W : Said) → i < length s → t ≡ q (get_or s i 0) → t ≡ false → Steady R q → read (throughout R) s i ≡ W → read (throughout R) s (i + 1) ≡ W
walk_past R q s i t W h e f r inv = walk_skip R q s i (i + 1) W (record { onward = omega arith; ends = away_go q s i i t h e refl f }) r inv

pub walk_past_skip : (R : Reader) (q : ℕ → Bool) (s : List ℕ) (i e : ℕ) (t : Bool) (W : Said) → Skipped q s (i + 1) e → i < length s → t ≡ q (get_or s i 0) → t ≡ false → Steady R q → read (throughout R) s i ≡ W
    → read (throughout R) s e ≡ W
walk_past_skip R q s i e t W sk h a f r inv = walk_skip R q s (i + 1) e W sk r (walk_past R q s i t W h a f r inv)

pub skip_less : (q : ℕ → Bool) (s : List ℕ) (i e : ℕ) → i < length s → Skipped q s (i + 1) e → length s - e < length s - i
skip_less q s i e h sk = omega (arith, sk.onward)

-- a turn by the rule itself
module _ (R : Reader) (q : ℕ → Bool) (s : List ℕ) (i : ℕ) (r : Steady R q) (h : i < length s) where
  pub turn_no : (W : Said) (x : Fault) (a : Answer) → read (throughout R) s i ≡ W → said a ≡ read R s i → a ≡ Err x → said (Err x) ≡ W
  turn_no W x a inv e f = walk_no R s i W inv (some_of R q r) h x a e f

  pub turn_go : (W : Said) (j : ℕ) (a : Answer) → read (throughout R) s i ≡ W → said a ≡ read R s i → a ≡ Ok j → read (throughout R) s j ≡ W
  turn_go W j a inv e f = walk_go R s i W inv (some_of R q r) h j a e f

  pub turn_less : (j : ℕ) (a : Answer) → said a ≡ read R s i → a ≡ Ok j → length s - j < length s - i
  turn_less j a e f = walk_less R s i j a (some_of R q r) h e f

-- what the loop searches
pub ruleset steps = (walk_past, walk_past_skip, skip_less, walk_end, turn_no, turn_go, turn_less, rules)

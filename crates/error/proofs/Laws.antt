-- Laws of readers at a place, for any reader: what a chain, a choice and a loop in the code come to. No law has a parameter that
-- its statement does not use, and each premise is a fact as the code has it: `search` has to find each. Assumes nothing.
use mathlib.Core.Path.{◌≡◌, refl, sym, ap, ◌∙◌}
use mathlib.Core.Bool.{Bool, true, false}
use mathlib.Core.List.{List}
use Prim.Native.Nat.{ℕ, ◌+◌, ◌-◌, ◌<◌, ◌≤◌}
use native.Mathlib.Nat.{add_assoc, add-zero, zero-add}
use native.Mathlib.Omega.{arith}
use borrow.Author.Rules.{rules}
use lib.ListN.{length, get_or, drop, length-drop}
use lib.Seq.{drop-drop}
use Rattle.std.specs.Prelude.{Ok, Err}
use Rattle.spec.specs.Basics.{pick}
use Rattle.spec.specs.Reading.Refusals.{Refusal, number}
use Rattle.spec.specs.Reading.Readers.{Result, ok, err, Reader, number_of, stop_of, past, ◌>>◌, nothing, refuse, starts, choose, word_of, throughout}
use Rattle.spec.proofs.Base.Places.{drop_at, drop_end}
use Rattle.spec.proofs.Base.Loops.{Somes, through_end, through_some, through_none}
use Rattle.error.specs.Read.{Said, passed, refused, Answer, said, reason, answer_number, answer_place, placed, read, eaten}
use Rattle.error.specs.declared.Fault.{Fault}

-- what is said is a place or a refusal
pub passed≢refused : {i k : ℕ} {n : Refusal} → passed i ≡ refused n k → ⊥
passed≢refused e = let z : ◌≡◌ {A = ℕ} 0 1 = cc in omega arith

pub passed_inj : {i k : ℕ} → passed i ≡ passed k → i ≡ k
passed_inj e = cc

-- bytes taken before, as places
pub placed_past : (at k : ℕ) (x : Result) → placed at (past k x) ≡ placed (at + k) x
placed_past at k (ok n) = ap passed (sym (add_assoc at k n))
placed_past at k (err r n) = ap (refused r) (sym (add_assoc at k n))

-- a reader that goes on at k of what is left at a place
pub read_on : (R : Reader) (s : List ℕ) (at k : ℕ) → read R s (at + k) ≡ placed at (past k (R (drop k (drop at s))))
unfolding read
read_on R s at k = rw (placed_past, drop-drop)

-- what the code's answer says of the reader's
pub was_ok : (R : Reader) (s : List ℕ) (at i : ℕ) (r : Answer) → said r ≡ read R s at → r ≡ Ok i → (k : ℕ) × ((R (drop at s) ≡ ok k) × (i ≡ at + k))
unfolding read said
was_ok R s at i r a e = go (R (drop at s)) refl (sym (ap said e) ∙ a)
  where
    go : (x : Result) → R (drop at s) ≡ x → passed i ≡ placed at x → (k : ℕ) × ((R (drop at s) ≡ ok k) × (i ≡ at + k))
    go (ok k) f a = (k, (f, passed_inj a))
    go (err n j) f a = absurd (passed≢refused a)

pub was_err : (R : Reader) (s : List ℕ) (at : ℕ) (x : Fault) (r : Answer) → said r ≡ read R s at → r ≡ Err x → (m : Refusal) × ((j : ℕ) × ((R (drop at s) ≡ err m j) × (said (Err x) ≡ refused m (at + j))))
unfolding read said
was_err R s at x r a e = go (R (drop at s)) refl (sym (ap said e) ∙ a)
  where
    go : (y : Result) → R (drop at s) ≡ y → said (Err x) ≡ placed at y → (m : Refusal) × ((j : ℕ) × ((R (drop at s) ≡ err m j) × (said (Err x) ≡ refused m (at + j))))
    go (ok k) f a = absurd (passed≢refused (sym a))
    go (err m j) f a = (m, (j, (f, a)))

-- A chain. r is what A answered at a place, and q what the code says in the end.
pub seq_no : (A B : Reader) (s : List ℕ) (at : ℕ) (x : Fault) (r : Answer) → said r ≡ read A s at → r ≡ Err x → said (Err x) ≡ read (A >> B) s at
unfolding read ◌>>◌
seq_no A B s at x r a e = let (m, (j, (f, g))) = was_err A s at x r a e in g ∙ (rw f)

pub seq_at : (A B : Reader) (s : List ℕ) (at i : ℕ) (r : Answer) (q : Said) → said r ≡ read A s at → r ≡ Ok i → q ≡ read B s i → q ≡ read (A >> B) s at
unfolding ◌>>◌
seq_at A B s at i r q a e b = let (k, (f, g)) = was_ok A s at i r a e in b ∙ ap (read B s) g ∙ read_on B s at k ∙ (unfold read in (rw f))

-- what takes a number of bytes and never refuses, and then B
pub seq_take : (f : List ℕ → ℕ) (A B : Reader) (s : List ℕ) (at e : ℕ) (q : Said) → ((w : List ℕ) → A w ≡ ok (f w)) → e ≡ at + f (drop at s) → q ≡ read B s e → q ≡ read (A >> B) s at
unfolding ◌>>◌
seq_take f A B s at e q law h b = b ∙ ap (read B s) h ∙ read_on B s at (f (drop at s)) ∙ (unfold read in (rw law))

-- a choice by a test
pub choose_yes : (t : List ℕ → Bool) (A B : Reader) (s : List ℕ) (at : ℕ) (b : Bool) (q : Said) → b ≡ t (drop at s) → b ≡ true → q ≡ read A s at → q ≡ read (choose t A B) s at
unfolding read choose
choose_yes t A B s at b q e f a = a ∙ (rw (sym e ∙ f))

pub choose_no : (t : List ℕ → Bool) (A B : Reader) (s : List ℕ) (at : ℕ) (b : Bool) (q : Said) → b ≡ t (drop at s) → b ≡ false → q ≡ read B s at → q ≡ read (choose t A B) s at
unfolding read choose
choose_no t A B s at b q e f a = a ∙ (rw (sym e ∙ f))

pub refuses : (n : Refusal) (s : List ℕ) (at : ℕ) (x : Fault) → said (Err x) ≡ refused n at → said (Err x) ≡ read (refuse n) s at
unfolding read refuse
refuses n s at x e = e ∙ (rw add-zero)

pub took_nothing : (s : List ℕ) (at : ℕ) → said (Ok at) ≡ read nothing s at
unfolding read said nothing
took_nothing s at = rw add-zero

-- A word: r is what eat_str answered at a place, or b whether the word stands there.
module _ (kw : List ℕ) (n : Refusal) (s : List ℕ) (at : ℕ) (r : Answer) (a : said r ≡ eaten kw n s at) where
  pub ate : said r ≡ read (word_of kw n) s at
  unfolding read eaten word_of
  ate = go (starts kw (drop at s)) a
    where
      go : (t : Bool) → said r ≡ pick t (passed (at + length kw)) (refused n at) → said r ≡ placed at (pick t (ok (length kw)) (err n 0))
      go true f = f
      go false f = f ∙ (rw add-zero)

  stands : (i : ℕ) → r ≡ Ok i → (starts kw (drop at s) ≡ true) × (i ≡ at + length kw)
  unfolding eaten said
  stands i e = go (starts kw (drop at s)) (sym (ap said e) ∙ a)
    where
      go : (t : Bool) → passed i ≡ pick t (passed (at + length kw)) (refused n at) → (t ≡ true) × (i ≡ at + length kw)
      go true f = (refl, passed_inj f)
      go false f = absurd (passed≢refused f)

  -- where it stands, what follows it reads on; where not, the other reader
  pub ate_then : (A B : Reader) (i : ℕ) (q : Said) → r ≡ Ok i → q ≡ read A s i → q ≡ read (choose (starts kw) (word_of kw n >> A) B) s at
  ate_then A B i q e b =
      let (f, g) = stands i e in
      choose_yes (starts kw) (word_of kw n >> A) B s at true q (sym f) refl (seq_at (word_of kw n) A s at i (Ok i) q (unfold read said word_of in (rw (f, g))) refl b)

  pub ate_only : (B : Reader) (i : ℕ) → r ≡ Ok i → said (Ok i) ≡ read (choose (starts kw) (word_of kw n) B) s at
  ate_only B i e =
      let (f, g) = stands i e in
      choose_yes (starts kw) (word_of kw n) B s at true (said (Ok i)) (sym f) refl (unfold read said word_of in (rw (f, g)))

  pub ate_not : (A B : Reader) (x : Fault) (q : Said) → r ≡ Err x → q ≡ read B s at → q ≡ read (choose (starts kw) A B) s at
  unfolding eaten said
  ate_not A B x q e b = go (starts kw (drop at s)) refl (sym a ∙ ap said e)
    where
      go : (t : Bool) → starts kw (drop at s) ≡ t → pick t (passed (at + length kw)) (refused n at) ≡ refused (reason x.refusal) x.place → q ≡ read (choose (starts kw) A B) s at
      go true f g = absurd (passed≢refused g)
      go false f g = choose_no (starts kw) A B s at false q (sym f) refl b

-- A reader again and again to the text's end. The invariant: what is said from i on is W, what is said of the whole.
module _ (R : Reader) (s : List ℕ) (i : ℕ) (W : Said) (inv : read (throughout R) s i ≡ W) where
  pub walk_end : length s ≤ i → said (Ok i) ≡ W
  unfolding read said
  walk_end h = (rw (drop_end s i h, through_end R, add-zero)) ∙ inv

  -- a turn, and then the loop again
  module _ (some : Somes R) (h : i < length s) where
    again : read (R >> throughout R) s i ≡ W
    unfolding read ◌>>◌
    again = ap (placed i) (sym (go (R (drop i s)) refl (omega (arith, length-drop i s)))) ∙ inv
      where
        go : (x : Result) → R (drop i s) ≡ x → 0 < length (drop i s) → throughout R (drop i s) ≡ (R >> throughout R) (drop i s)
        go (ok k) f l = through_some R some (drop i s) k l f ∙ (rw f)
        go (err n j) f l = through_none R (drop i s) n l f ∙ (rw f)

    pub walk_no : (x : Fault) (r : Answer) → said r ≡ read R s i → r ≡ Err x → said (Err x) ≡ W
    walk_no x r a e = seq_no R (throughout R) s i x r a e ∙ again

    pub walk_go : (j : ℕ) (r : Answer) → said r ≡ read R s i → r ≡ Ok j → read (throughout R) s j ≡ W
    walk_go j r a e = seq_at R (throughout R) s i j r _ a e refl ∙ again

-- a turn ends further on
pub walk_less : (R : Reader) (s : List ℕ) (i j : ℕ) (r : Answer) → Somes R → i < length s → said r ≡ read R s i → r ≡ Ok j → length s - j < length s - i
walk_less R s i j r some h a e =
    let (k, (f, g)) = was_ok R s i j r a e in
    let z : 0 < k = some.some (get_or s i 0) (drop (i + 1) s) k (ap R (sym (drop_at s i h)) ∙ f) in
    omega arith

-- what a check comes to, by its answer from the text's front on: its number, and the place where it stops
pub answered : (C : Reader) (s : List ℕ) (r : Answer) → said r ≡ read C s 0 → answer_number r ≡ number_of (C s)
unfolding read said
answered C s r a = go r (C s) a
  where
    go : (r : Answer) (x : Result) → said r ≡ placed 0 x → answer_number r ≡ number_of x
    go (Ok i) (ok k) f = refl
    go (Ok i) (err n j) f = absurd (passed≢refused f)
    go (Err x) (ok k) f = absurd (passed≢refused (sym f))
    go (Err x) (err n j) f = ap number (same f)
      where
        same : {m k : Refusal} {i j : ℕ} → refused m i ≡ refused k j → m ≡ k
        same e = cc

pub answered_at : (C : Reader) (s : List ℕ) (r : Answer) → said r ≡ read C s 0 → answer_place r ≡ stop_of (C s)
unfolding read said
answered_at C s r a = go r (C s) a
  where
    go : (r : Answer) (x : Result) → said r ≡ placed 0 x → answer_place r ≡ stop_of x
    go (Ok i) (ok k) f = passed_inj f ∙ zero-add k
    go (Ok i) (err n j) f = absurd (passed≢refused f)
    go (Err x) (ok k) f = absurd (passed≢refused (sym f))
    go (Err x) (err n j) f = (let z : x.place ≡ 0 + j = cc in z) ∙ zero-add j

-- what a chain of readers searches
pub ruleset chain = (seq_no, seq_at, choose_yes, choose_no, refuses, took_nothing, ate, ate_then, ate_only, ate_not, rules)

-- what a loop to the text's end searches
pub ruleset walk = (walk_end, walk_no, walk_go, walk_less, rules)

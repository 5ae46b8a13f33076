-- Keywords from a table. Assumes nothing.
use mathlib.Core.Path.{◌≡◌, refl, sym, ap, ◌∙◌}
use mathlib.Core.Logic.{◌⊎◌, inl, inr}
use mathlib.Core.Bool.{Bool, true, false}
use mathlib.Core.List.{List, [], ◌∷◌}
use Prim.Native.Nat.{ℕ, ◌+◌, ◌<◌, ◌≤◌}
use Prim.Native.String.{String}
use borrow.Author.Rules.{rules}
use lib.ListN.{length, get_or, drop, drop_of_length-le}
use lib.Seq.{drop-cons}
use native.Mathlib.Numerals.{add-one}
use native.Mathlib.Omega.{arith}
use Rattle.std.specs.Borrow.{Bor}
use Rattle.std.specs.Prelude.{Ok, Err, map}
use Rattle.spec.specs.Grammar.Languages.{ascii}
use Rattle.spec.specs.Reading.Refusals.{Refusal, unexpected}
use Rattle.spec.specs.Reading.Readers.{ok, Reader, refuse, starts, choose, on, word_of}
use Rattle.spec.specs.Reading.Dtd.{word_among}
use Rattle.error.specs.Read.{Said, said, placed, read, eaten, Answer, refused}
use Rattle.error.specs.declared.Fault.{Fault}
use Rattle.error.proofs.Laws.{passed≢refused, refuses, ate_only, ate_not}

-- the first keyword of a table that stands, tried in order
unfoldable pub first_of : List (Bor (List ℕ)) → Reader
first_of [] = refuse unexpected
first_of (k ∷ ks) = choose (starts k.now) (word_of k.now unexpected) (first_of ks)

-- The rows of a table that spell the words, in the order in which these stand: the first row that stands is the first word that does.
same_rows : (ss : List String) (rows : List (Bor (List ℕ))) → map (λ r. r.now) rows ≡ map (λ x. ascii x) ss → first_of rows ≡ word_among ss (refuse unexpected)
unfolding first_of word_among on
same_rows [] [] e = refl
same_rows [] (k ∷ ks) e = let z = ap length e in absurd (omega arith)
same_rows (x ∷ ss) [] e = let z = ap length e in absurd (omega arith)
same_rows (x ∷ ss) (k ∷ ks) e =
    let f : k.now ≡ ascii x = cc in
    let g : map (λ (r : Bor (List ℕ)). r.now) ks ≡ map (λ x. ascii x) ss = cc in
    rw (f, same_rows ss ks g)

pub rows_all : (ss : List String) (rows : List (Bor (List ℕ))) → map (λ r. r.now) rows ≡ map (λ x. ascii x) ss
    → (s : List ℕ) (at : ℕ) → read (first_of rows) s at ≡ read (word_among ss (refuse unexpected)) s at
rows_all ss rows e s at = ap (λ (R : Reader). read R s at) (same_rows ss rows e)

-- Row i, where W is what is said of the whole; r is what eat_str gave for it.
module _ (rows : List (Bor (List ℕ))) (i : ℕ) (s : List ℕ) (at : ℕ) (W : Said) (inv : read (first_of (drop i rows)) s at ≡ W) where
  module _ (d : Bor (List ℕ)) (r : Answer) (h : i < length rows) (a : said r ≡ eaten (get_or rows i d).now unexpected s at) where
    abbrev others : Reader
    others = first_of (drop (i + 1) rows)

    next : drop i rows ≡ get_or rows i d ∷ drop (i + 1) rows
    next = rw (add-one, drop-cons rows i d)

    whole : read (choose (starts (get_or rows i d).now) (word_of (get_or rows i d).now unexpected) others) s at ≡ W
    unfolding first_of
    whole = rw next at inv

    pub row_is : (e : ℕ) → r ≡ Ok e → said (Ok e) ≡ W
    row_is e g = ate_only (get_or rows i d).now unexpected s at r a others e g ∙ whole

    pub row_not : (x : Fault) → r ≡ Err x → read (first_of (drop (i + 1) rows)) s at ≡ W
    row_not x g = ate_not (get_or rows i d).now unexpected s at r a (word_of (get_or rows i d).now unexpected) others x (read others s at) g refl ∙ whole

  pub row_none : (x : Fault) → length rows ≤ i → said (Err x) ≡ refused unexpected at → said (Err x) ≡ W
  unfolding first_of
  row_none x h e = refuses unexpected s at x e ∙ (rw (drop_of_length-le rows h) at inv)

pub ruleset tabled = (row_is, row_not, row_none, rules)

-- words tried in order: one of them is taken, whatever else there is, or what else there is reads on
among : (ss : List String) (w : List ℕ) → ((k : ℕ) × ((q : Reader) → word_among ss q w ≡ ok k)) ⊎ ((q : Reader) → word_among ss q w ≡ q w)
unfolding word_among
among [] w = inr (λ q. refl)
among (x ∷ ss) w = go (starts (ascii x) w) refl (among ss w)
  where
    go : (t : Bool) → starts (ascii x) w ≡ t → ((k : ℕ) × ((q : Reader) → word_among ss q w ≡ ok k)) ⊎ ((q : Reader) → word_among ss q w ≡ q w)
        → ((k : ℕ) × ((q : Reader) → word_among (x ∷ ss) q w ≡ ok k)) ⊎ ((q : Reader) → word_among (x ∷ ss) q w ≡ q w)
    go true e ih = inl (length (ascii x), λ q. unfold on choose word_of in (rw e (rw e)))
    go false e (inl (k, f)) = inl (k, λ q. unfold on choose in (rw e (f q)))
    go false e (inr f) = inr (λ q. unfold on choose in (rw e (f q)))

-- r is what was read where the words stand alone
module _ (ss : List String) (n : Refusal) (q : Reader) (s : List ℕ) (at : ℕ) (r : Answer) (a : said r ≡ read (word_among ss (refuse n)) s at) where
  pub among_yes : (i : ℕ) → r ≡ Ok i → said (Ok i) ≡ read (word_among ss q) s at
  unfolding read said refuse
  among_yes i e = go (among ss (drop at s))
    where
      go : ((k : ℕ) × ((p : Reader) → word_among ss p (drop at s) ≡ ok k)) ⊎ ((p : Reader) → word_among ss p (drop at s) ≡ p (drop at s)) → said (Ok i) ≡ read (word_among ss q) s at
      go (inl (k, f)) = sym (ap said e) ∙ a ∙ (rw (f (refuse n), f q))
      go (inr f) = absurd (passed≢refused (sym (ap said e) ∙ a ∙ ap (placed at) (f (refuse n))))

  pub among_no : (x : Fault) (b : Said) → r ≡ Err x → b ≡ read q s at → b ≡ read (word_among ss q) s at
  unfolding read said refuse
  among_no x b e g = go (among ss (drop at s))
    where
      go : ((k : ℕ) × ((p : Reader) → word_among ss p (drop at s) ≡ ok k)) ⊎ ((p : Reader) → word_among ss p (drop at s) ≡ p (drop at s)) → b ≡ read (word_among ss q) s at
      go (inl (j, f)) = absurd (passed≢refused (sym (ap (placed at) (f (refuse n))) ∙ sym a ∙ ap said e))
      go (inr f) = g ∙ (rw (f q))

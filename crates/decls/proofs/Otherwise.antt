-- What `or_else` comes to: q is r where that went well, and otherwise what was read in its place. Assumes nothing.
use mathlib.Core.Path.{◌≡◌, refl, ap, ◌∙◌}
use mathlib.Core.Bool.{Bool, true, false}
use mathlib.Core.List.{List}
use Prim.Native.Nat.{ℕ}
use Prim.Native.String.{String}
use lib.ListN.{drop}
use Rattle.std.specs.Prelude.{Ok, Err, MatchResult}
use Rattle.spec.specs.Grammar.Languages.{ascii}
use Rattle.spec.specs.Reading.Refusals.{Refusal, unexpected}
use Rattle.spec.specs.Reading.Readers.{Reader, ◌>>◌, refuse, starts, choose, on, word_of}
use Rattle.spec.specs.Reading.Dtd.{word_among, bar_list}
use Rattle.error.specs.Read.{said, read, eaten, Answer}
use Rattle.error.proofs.Laws.{ate_only, ate_not}
use Rattle.decls.proofs.Keywords.{among_yes, among_no}

-- two words, and then the reader B
pub words_else : (k l : List ℕ) (n : Refusal) (B : Reader) (s : List ℕ) (at : ℕ) (r q p : Answer) → said r ≡ eaten k n s at
    → MatchResult r (λ i. q ≡ Ok i) (λ _. said q ≡ eaten l n s at)
    → MatchResult q (λ i. p ≡ Ok i) (λ _. said p ≡ read B s at)
    → said p ≡ read (choose (starts k) (word_of k n) (choose (starts l) (word_of l n) B)) s at
words_else k l n B s at r q p a e f = first r refl e
  where
    second : (x : Answer) → said q ≡ eaten l n s at → q ≡ x → MatchResult x (λ i. p ≡ Ok i) (λ _. said p ≡ read B s at) → said p ≡ read (choose (starts l) (word_of l n) B) s at
    second (Ok i) b h g = ap said g ∙ ate_only l n s at q b B i h
    second (Err x) b h g = ate_not l n s at q b (word_of l n) B x (said p) h g

    first : (x : Answer) → r ≡ x → MatchResult x (λ i. q ≡ Ok i) (λ _. said q ≡ eaten l n s at) → said p ≡ read (choose (starts k) (word_of k n) (choose (starts l) (word_of l n) B)) s at
    first (Ok i) h g = ap said (rw g at f) ∙ ate_only k n s at r a (choose (starts l) (word_of l n) B) i h
    first (Err x) h g = ate_not k n s at r a (word_of k n) (choose (starts l) (word_of l n) B) x (said p) h (second q g refl f)

-- a list with bars begins with its own test
list_opens : (R : Reader) (w : List ℕ) → bar_list R w ≡ on "(" (bar_list R) (refuse unexpected) w
unfolding bar_list on choose refuse word_of ◌>>◌
list_opens R w = go (starts (ascii "(") w) refl
  where
    go : (t : Bool) → starts (ascii "(") w ≡ t → bar_list R w ≡ on "(" (bar_list R) (refuse unexpected) w
    go true e = rw e (rw e)
    go false e = rw e

-- one word of several, and then a list with bars
pub among_else : (ss : List String) (R : Reader) (s : List ℕ) (at : ℕ) (r q : Answer) → said r ≡ read (word_among ss (refuse unexpected)) s at
    → MatchResult r (λ i. q ≡ Ok i) (λ _. said q ≡ read (bar_list R) s at)
    → said q ≡ read (word_among ss (on "(" (bar_list R) (refuse unexpected))) s at
among_else ss R s at r q a e = go r refl e
  where
    listed : said q ≡ read (bar_list R) s at → said q ≡ read (on "(" (bar_list R) (refuse unexpected)) s at
    listed b = b ∙ (unfold read in (rw (list_opens R (drop at s))))

    go : (x : Answer) → r ≡ x → MatchResult x (λ i. q ≡ Ok i) (λ _. said q ≡ read (bar_list R) s at) → said q ≡ read (word_among ss (on "(" (bar_list R) (refuse unexpected))) s at
    go (Ok i) h g = ap said g ∙ among_yes ss unexpected (on "(" (bar_list R) (refuse unexpected)) s at r a i h
    go (Err x) h g = among_no ss unexpected (on "(" (bar_list R) (refuse unexpected)) s at r a x (said q) h (listed g)

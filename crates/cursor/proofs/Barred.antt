-- Items with bars before them, over the reader of an item. Assumes nothing.
use mathlib.Core.Path.{◌≡◌, refl, ap}
use mathlib.Core.Bool.{false}
use mathlib.Core.List.{List, []}
use Prim.Native.Nat.{ℕ}
use native.Mathlib.Nat.{add-zero}
use lib.ListN.{drop}
use native.Mathlib.Omega.{arith}
use Rattle.spec.specs.Grammar.Languages.{ascii}
use Rattle.spec.specs.Reading.Readers.{Result, ok, err, Reader, on_ok, past, ◌>>◌, nothing, starts, word}
use Rattle.spec.specs.Reading.Refusals.{Refusal}
use Rattle.spec.proofs.Base.Loops.{Somes}
use Rattle.spec.proofs.Base.Somes.{some_word, some_then}
use Rattle.search.proofs.Words.{word_then, word_fits}
use Rattle.cursor.proofs.Reading.{reading}
use Rattle.error.specs.Read.{read, placed}
use Rattle.error.proofs.Whiles.{whiles}

-- no bar stands at the text's end, and a turn takes the bar at least
pub bar_ends : starts (ascii "|") [] ≡ false
unfolding starts
bar_ends = refl

pub some_bar : (n : Refusal) (R : Reader) → Somes (word "|" n >> R)
some_bar n R = some_then (word "|" n) R (some_word "|" n (omega arith))

-- nothing after a reader
pub then_nothing : (R : Reader) (s : List ℕ) (at : ℕ) → read (R >> nothing) s at ≡ read R s at
unfolding read ◌>>◌ nothing
then_nothing R s at = ap (placed at) (go (R (drop at s)))
  where
    go : (x : Result) → on_ok x (λ k. past k (ok 0)) ≡ x
    go (ok k) = ap ok (add-zero k)
    go (err n j) = refl

-- what code that passes such items searches
pub ruleset listing = (bar_ends, some_bar, then_nothing, whiles, word_then, word_fits, reading)

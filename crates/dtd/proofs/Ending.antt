-- The DOCTYPE up to what ends it, and then what ends it: the text's end, or the '>' in a document. Assumes nothing.
use mathlib.Core.Path.{◌≡◌, refl, sym, ap, ◌∙◌}
use mathlib.Core.List.{List}
use Prim.Native.Nat.{ℕ}
use native.Mathlib.Nat.{add-zero}
use lib.ListN.{drop}
use Rattle.spec.specs.Grammar.Names.{Dialect}
use Rattle.spec.specs.Reading.Refusals.{too_deep}
use Rattle.spec.specs.Reading.Dtd.{doctype_before}
use Rattle.spec.specs.Reading.Readers.{Result, ok, err, Reader, on_ok, past, ◌>>◌, nothing}
use Rattle.spec.proofs.Base.Sequences.{doctype_then}
use Rattle.error.specs.Read.{Said, Answer, said, read, placed}

-- nothing read after
pub then_nothing : (A : Reader) (w : List ℕ) → A w ≡ (A >> nothing) w
unfolding ◌>>◌ nothing
then_nothing A w = go (A w)
  where
    go : (x : Result) → x ≡ on_ok x (λ k. past k (ok 0))
    go (ok k) = rw add-zero
    go (err n k) = refl

-- at a place, as the code reads: the last reader before the end, and the end
pub read_last : (A : Reader) (s : List ℕ) (at : ℕ) (r : Answer) → said r ≡ read A s at → said r ≡ read (A >> nothing) s at
unfolding read
read_last A s at r a = a ∙ ap (placed at) (then_nothing A (drop at s))

pub read_ended : (D : Dialect) (end : Reader) (s : List ℕ) (at : ℕ) (q : Said) → q ≡ read (doctype_before D too_deep nothing >> end) s at → q ≡ read (doctype_before D too_deep end) s at
unfolding read
read_ended D end s at q a = a ∙ ap (placed at) (sym (doctype_then D end (drop at s)))

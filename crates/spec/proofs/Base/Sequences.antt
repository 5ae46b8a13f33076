-- Readers one after the other: in which order they are put together makes no difference, and what ends a chain can be taken off it.
-- Assumes nothing.
use mathlib.Core.List.{List}
use mathlib.Core.Path.{◌≡◌, refl, sym, ◌∙◌, ap}
use Prim.Native.Nat.{ℕ, ◌+◌}
use native.Mathlib.Nat.{zero-add}
use lib.ListN.{drop}
use lib.Seq.{drop-drop}
use Rattle.spec.specs.Grammar.Names.{Dialect}
use Rattle.spec.specs.Reading.Refusals.{too_deep}
use Rattle.spec.specs.Reading.Dtd.{doctype_before}
use Rattle.spec.specs.Reading.Readers.{Result, ok, err, Reader, on_ok, past, ◌>>◌, nothing}
use Rattle.spec.proofs.Base.Results.{past_past}

pub past_none : (a : Result) → past 0 a ≡ a
past_none (ok k) = ap ok (zero-add k)
past_none (err r k) = ap (err r) (zero-add k)

pub then_then : (a b c : Reader) (w : List ℕ) → ((a >> b) >> c) w ≡ (a >> (b >> c)) w
unfolding ◌>>◌
then_then a b c w = first (a w)
  where
    second : (k : ℕ) (y : Result) → on_ok (past k y) (λ n. past n (c (drop n w))) ≡ past k (on_ok y (λ j. past j (c (drop j (drop k w)))))
    second k (ok j) = ap (λ (z : List ℕ). past (k + j) (c z)) (sym (drop-drop j k w)) ∙ sym (past_past k j (c (drop j (drop k w))))
    second k (err r j) = refl

    first : (x : Result) → on_ok (on_ok x (λ k. past k (b (drop k w)))) (λ n. past n (c (drop n w))) ≡ on_ok x (λ k. past k (on_ok (b (drop k w)) (λ j. past j (c (drop j (drop k w))))))
    first (ok k) = second k (b (drop k w))
    first (err r k) = refl

-- a chain whose last reader is left open: it is the chain that ends with nothing, and then that reader
pub record Open (f : Reader → Reader) : Type 0 where
  pub taken_off : (end : Reader) (w : List ℕ) → f end w ≡ (f nothing >> end) w

pub open_here : Open (λ end. end)
unfolding ◌>>◌ nothing
open_here = record { taken_off = λ end w. sym (past_none (end w)) }

pub open_then : (a : Reader) {f : Reader → Reader} → Open f → Open (λ end. a >> f end)
unfolding ◌>>◌
open_then a {f} o = record { taken_off = λ end w. go end w (a w) ∙ sym (then_then a (f nothing) end w) }
  where
    go : (end : Reader) (w : List ℕ) (x : Result) → on_ok x (λ k. past k (f end (drop k w))) ≡ on_ok x (λ k. past k ((f nothing >> end) (drop k w)))
    go end w (ok k) = ap (past k) (o.taken_off end (drop k w))
    go end w (err r k) = refl

-- so a DOCTYPE's text can be read first, and then what ends it
pub doctype_then : (D : Dialect) (end : Reader) (w : List ℕ) → doctype_before D too_deep end w ≡ (doctype_before D too_deep nothing >> end) w
unfolding doctype_before
doctype_then D = (open_then _ (open_then _ (open_then _ (open_then _ (open_then _ open_here))))).taken_off

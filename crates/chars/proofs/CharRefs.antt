-- A character reference at a place. Assumes nothing.
use mathlib.Core.Path.{◌≡◌, refl, sym, ap, ◌∙◌}
use mathlib.Core.Bool.{Bool, true, false, or-true}
use mathlib.Core.List.{List}
use Prim.Native.Nat.{ℕ, ◌+◌, ◌^◌, ◌<◌}
use native.Mathlib.Nat.{add_assoc, add-zero}
use native.Mathlib.Omega.{arith}
use borrow.Author.Tests.{not-true, not-false}
use mir.Syntax.{w64}
use mir.Val.{Fits}
use lib.ListN.{length, take, drop, length-drop}
use lib.Seq.{drop-drop}
use Rattle.std.specs.Prelude.{Ok, Err}
use Rattle.std.specs.Prelude as Prelude
use Rattle.spec.specs.Grammar.Languages.{ascii}
use Rattle.spec.specs.Grammar.Characters.{xml_char}
use Rattle.spec.specs.Grammar.References.{digit, hex_digit, value_on}
use Rattle.spec.specs.Reading.Refusals.{bad_reference}
use Rattle.spec.specs.Reading.Readers.{Result, ok, err, Reader, starts, run, at_front, as_one}
use Rattle.spec.specs.Reading.Wellformed.{reference, char_ref}
use Rattle.spec.proofs.Base.Tests.{eqb_yes, eqb_no}
use Rattle.spec.proofs.Base.Places.{run_within}
use Rattle.spec.proofs.Wellformed.Digits.{char_stopped}
use Rattle.error.specs.Read.{said, refused, reason, placed, read}
use Rattle.error.specs.declared.Fault.{Fault}
use Rattle.error.specs.declared.refusal.Refusal.{Refusal}
use Rattle.error.specs.declared.refusal.Refusal.TheVariants.{BadReference, IllegalReference}
use Rattle.chars.specs.References.{reference_said}
use Rattle.chars.specs.Digits.{Counted}
use Rattle.error.proofs.Laws.{passed≢refused}
use Rattle.search.proofs.Words.{on_yes, on_no, word_then, word_not, by_words}

abbrev Ref : Type 0
Ref = Prelude.Result ℕ Refusal

-- what follows "&#" or "&#x": n digits of the value v
module _ (base : ℕ) (p : ℕ → Bool) (s : List ℕ) (at n v : ℕ) (d : Counted base p (drop at s) n v) where
  pub ref_empty : n ≡ 0 → reference_said (Err BadReference) at ≡ read (reference base p) s at
  unfolding read reference reference_said
  ref_empty z = rw (eqb_yes (run p (drop at s)) 0 (sym d.count_is ∙ z), add-zero)

  -- a digit stands within the text
  pub ref_fits : length s < 2 ^ 64 → (n ≡ 0 → ⊥) → Fits w64 (at + n)
  ref_fits l z = omega (arith, d.count_is, run_within p (drop at s), length-drop at s)

  module _ (t : Bool) (f : t ≡ starts (ascii ";") (drop (at + n) s)) where
    ends_here : t ≡ starts (ascii ";") (drop (run p (drop at s)) (drop at s))
    ends_here = f ∙ (rw (d.count_is, drop-drop))

    pub ref_open : t ≡ false → reference_said (Err BadReference) at ≡ read (reference base p) s at
    unfolding read reference reference_said
    ref_open g = rw (sym ends_here ∙ g, or-true, add-zero)

    module _ (g : t ≡ true) (z : n ≡ 0 → ⊥) (c : Bool) (x : c ≡ xml_char v) where
      some_digit : run p (drop at s) ≡ 0 → ⊥
      some_digit e = z (d.count_is ∙ e)

      is_char : c ≡ xml_char (value_on base 0 (take (run p (drop at s)) (drop at s)))
      is_char = x ∙ ap xml_char d.value_is ∙ char_stopped _

      pub ref_legal : c ≡ true → reference_said (Ok (at + n + 1)) at ≡ read (reference base p) s at
      unfolding read reference reference_said
      ref_legal y = rw (eqb_no _ _ some_digit, sym ends_here ∙ g, sym is_char ∙ y, d.count_is, add_assoc)

      pub ref_illegal : c ≡ false → reference_said (Err IllegalReference) at ≡ read (reference base p) s at
      unfolding read reference reference_said
      ref_illegal y = rw (eqb_no _ _ some_digit, sym ends_here ∙ g, sym is_char ∙ y, add-zero)

-- r is what the part of a reference from i on came to; a bad one is refused where the whole begins
from_front : (R : Reader) (s : List ℕ) (at i : ℕ) (r : Ref) → reference_said r i ≡ read R s at → reference_said r at ≡ read (as_one R) s at
unfolding read as_one reference_said
from_front R s at i r a = go r (R (drop at s)) a
  where
    go : (r : Ref) (x : Result) → reference_said r i ≡ placed at x → reference_said r at ≡ placed at (at_front x)
    go (Ok e) (ok k) f = f
    go (Ok e) (err m k) f = absurd (passed≢refused f)
    go (Err n) (ok k) f = absurd (passed≢refused (sym f))
    go (Err n) (err m k) f = let z : reason n ≡ m = cc in rw (z, add-zero)

-- where a reference begins: b is whether its sign stands there, and r what its digits come to
module _ (s : List ℕ) (at : ℕ) (b : Bool) (e : b ≡ starts (ascii "&#x") (drop at s)) where
  pub ref_hex : (r : Ref) → b ≡ true → reference_said r (at + 3) ≡ read (reference 16 hex_digit) s (at + 3) → reference_said r at ≡ read char_ref s at
  unfolding char_ref
  ref_hex r f a =
      on_yes "&#x" s at b e _ _ _ f
      (from_front _ s at (at + 3) r (word_then (ascii "&#x") s at b e bad_reference (reference 16 hex_digit) _ f a))

  module _ (c : Bool) (g : c ≡ starts (ascii "&#") (drop at s)) (n : b ≡ false) where
    pub ref_decimal : (r : Ref) → c ≡ true → reference_said r (at + 2) ≡ read (reference 10 digit) s (at + 2) → reference_said r at ≡ read char_ref s at
    unfolding char_ref
    ref_decimal r f a =
        on_no "&#x" s at b e _ _ _ n
        (from_front _ s at (at + 2) r (word_then (ascii "&#") s at c g bad_reference (reference 10 digit) _ f a))

    pub ref_none : c ≡ false → reference_said (Err BadReference) at ≡ read char_ref s at
    unfolding char_ref said reference_said
    ref_none f =
        on_no "&#x" s at b e _ _ _ n
        (from_front _ s at at (Err BadReference) (word_not (ascii "&#") s at c g bad_reference (record { refusal = BadReference; place = at }) (reference 10 digit) f refl))

-- told where it begins, it is what is read there
pub told_end : (s : List ℕ) (at e : ℕ) (r : Ref) → reference_said r at ≡ read char_ref s at → r ≡ Ok e → said (Ok e) ≡ read char_ref s at
unfolding said reference_said
told_end s at e r a f = rw f at a

pub told_bad : (s : List ℕ) (at : ℕ) (n : Refusal) (x : Fault) (r : Ref) → reference_said r at ≡ read char_ref s at → r ≡ Err n → said (Err x) ≡ refused (reason n) at → said (Err x) ≡ read char_ref s at
unfolding reference_said
told_bad s at n x r a f e = e ∙ (rw f at a)

-- what code that reads a reference searches
pub ruleset char_refs = (ref_empty, ref_fits, ref_open, ref_legal, ref_illegal, ref_hex, ref_decimal, ref_none, told_end, told_bad, not-true, not-false, by_words)

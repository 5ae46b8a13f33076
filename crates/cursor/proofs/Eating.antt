-- Fixed words at a place, and the end of a text. Assumes nothing.
use mathlib.Core.Path.{◌≡◌, refl, sym, ◌∙◌}
use mathlib.Core.Bool.{Bool, true, false}
use mathlib.Core.List.{List}
use Prim.Native.Nat.{ℕ, zero, suc, ◌+◌, ◌^◌, ◌<◌, ◌≤◌}
use native.Mathlib.Nat.{add-zero}
use native.Mathlib.Omega.{arith}
use borrow.Author.Rules.{rules}
use mir.Syntax.{w64}
use mir.Val.{Fits}
use lib.ListN.{length, drop}
use Rattle.std.specs.Prelude.{Ok, Err}
use Rattle.spec.specs.Reading.Refusals.{Refusal}
use Rattle.spec.specs.Reading.Readers.{starts, at_end}
use Rattle.spec.proofs.Base.Places.{drop_at, drop_end}
use Rattle.error.specs.Read.{said, read, eaten, refused}
use Rattle.error.specs.declared.Fault.{Fault}
use Rattle.search.proofs.Words.{word_fits}

-- whether the word stands at a place, as b says
module _ (kw s : List ℕ) (at : ℕ) (b : Bool) (e : b ≡ starts kw (drop at s)) where
  pub eat_yes : (n : Refusal) → b ≡ true → said (Ok (at + length kw)) ≡ eaten kw n s at
  unfolding eaten said
  eat_yes n f = rw (sym e ∙ f)

  pub eat_no : (n : Refusal) (x : Fault) → b ≡ false → said (Err x) ≡ refused n at → said (Err x) ≡ eaten kw n s at
  unfolding eaten
  eat_no n x f g = g ∙ (rw (sym e ∙ f))

  -- the empty word stands at any place
  pub eat_fits : b ≡ true → at < 2 ^ 64 → length s < 2 ^ 64 → Fits w64 (at + length kw)
  eat_fits f h g = go (length kw) refl
    where
      go : (n : ℕ) → n ≡ length kw → Fits w64 (at + n)
      go zero l = omega arith
      go (suc n) l = word_fits kw s at (suc n) b e f l (omega arith) g

-- nothing is left, or something
pub end_yes : (n : Refusal) (s : List ℕ) (at : ℕ) → length s ≤ at → said (Ok at) ≡ read (at_end n) s at
unfolding read said at_end
end_yes n s at h = rw (drop_end s at h, add-zero)

pub end_no : (n : Refusal) (s : List ℕ) (at : ℕ) (x : Fault) → at < length s → said (Err x) ≡ refused n at → said (Err x) ≡ read (at_end n) s at
unfolding read at_end
end_no n s at x h e = e ∙ (rw (drop_at s at h, add-zero))

-- what eat_str and at_end search
pub ruleset eating = (eat_yes, eat_no, eat_fits, end_yes, end_no, rules)

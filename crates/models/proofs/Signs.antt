-- Single signs at a place, and what is read after one. Assumes nothing.
use mathlib.Core.Path.{◌≡◌, refl, ap, ◌∙◌}
use mathlib.Core.Bool.{Bool, true, false, ◌||◌, and-true}
use mathlib.Core.List.{List, [], ◌∷◌}
use Prim.Native.Nat.{ℕ, ◌+◌, ◌<◌, ◌≤◌}
use native.Mathlib.Omega.{arith}
use borrow.Author.Rules.{rules}
use borrow.Author.Tests.{not-true, not-false}
use lib.Dec.{eqb}
use lib.ListN.{length, get_or, drop}
use denote.Ref.{Bor}
use Rattle.std.specs.Prelude.{Option, Some, None, Ok, Err}
use Rattle.std.specs.Option.{option_eq}
use Rattle.std.specs.Slice.{IsItemAt}
use Rattle.spec.specs.Basics.{pick}
use Rattle.spec.specs.Grammar.Characters.{space}
use Rattle.spec.specs.Reading.Refusals.{Refusal, unexpected}
use Rattle.spec.specs.Reading.Readers.{ok, err, Reader, ◌>>◌, starts, word_of, run}
use Rattle.spec.specs.Reading.Dtd.{skip_s, connector}
use Rattle.spec.proofs.Base.Loops.{Somes}
use Rattle.spec.proofs.Base.Results.{err_ok, ok_inj}
use Rattle.spec.proofs.Base.Places.{drop_at, drop_end}
use Rattle.spec.proofs.Base.Somes.{some_then}
use Rattle.error.specs.Read.{Said, said, read, Answer}
use Rattle.error.specs.declared.Fault.{Fault}
use Rattle.error.proofs.Laws.{seq_no, seq_at, took_nothing}
use Rattle.cursor.proofs.Reading.{skip_then, skip_only}
use Rattle.search.proofs.Words.{on_yes, on_no, word_yes, word_then, word_no, word_not, word_fits}

-- the sign c stands at a place or not, by the byte there
sign_in : (c : ℕ) (s : List ℕ) (at : ℕ) → at < length s → eqb (get_or s at 0) c ≡ starts (c ∷ []) (drop at s)
unfolding starts
sign_in c s at h = rw (drop_at s at h, and-true)

sign_past : (c : ℕ) (s : List ℕ) (at : ℕ) → length s ≤ at → false ≡ starts (c ∷ []) (drop at s)
unfolding starts
sign_past c s at h = rw (drop_end s at h)

-- r is what `get` lends at a place, and z holds the sign
pub sign_get : (c : ℕ) (s : List ℕ) (at : ℕ) (E : Bor ℕ → Bor ℕ → Bool) (r : Option (Bor ℕ)) (z : Bor ℕ) → IsItemAt s at r → ((x : Bor ℕ) → E x z ≡ eqb x.now c) → option_eq E r (Some z) ≡ starts (c ∷ []) (drop at s)
sign_get c s at E (Some x) z g f =
    let v : x.now ≡ get_or s at 0 = g.4 (omega arith) 0 in
    f x ∙ ap (λ (b : ℕ). eqb b c) v ∙ sign_in c s at g.3.0
sign_get c s at E None z g f = sign_past c s at g.3

-- either connector, by two tests
pub connector_is : (a b : Bool) (w : List ℕ) → a ≡ starts (124 ∷ []) w → b ≡ starts (44 ∷ []) w → (a || b) ≡ connector w
unfolding connector
connector_is a b w e f = rw (e, f)

-- no sign stands at the end
pub sign_ends : (c : ℕ) → starts (c ∷ []) [] ≡ false
unfolding starts
sign_ends c = refl

pub connector_ends : connector [] ≡ false
unfolding connector starts
connector_ends = refl

-- what begins with a sign takes a byte or more
pub some_sign : (c : ℕ) (n : Refusal) (R : Reader) → Somes (word_of (c ∷ []) n >> R)
unfolding word_of
some_sign c n R = some_then (word_of (c ∷ []) n) R (record { some = λ b w. go (starts (c ∷ []) (b ∷ w)) })
  where
    go : (t : Bool) (j : ℕ) → pick t (ok 1) (err n 0) ≡ ok j → 0 < j
    go true j e = let z : 1 ≡ j = ok_inj 1 j e in omega arith
    go false j e = absurd (err_ok n j e)

-- the sign c stands at a place, as b says
module _ (c : ℕ) (s : List ℕ) (at : ℕ) (b : Bool) (e : b ≡ starts (c ∷ []) (drop at s)) (y : b ≡ true) (n : Refusal) where
  pub sign_yes : said (Ok (at + 1)) ≡ read (word_of (c ∷ []) n) s at
  sign_yes = word_yes (c ∷ []) s at b e n y

  pub sign_then : (B : Reader) (q : Said) → q ≡ read B s (at + 1) → q ≡ read (word_of (c ∷ []) n >> B) s at
  sign_then B q a = word_then (c ∷ []) s at b e n B q y a

-- a sign, what R reads, and white space around it: i is where the white space after the sign ends, and r R's answer there
abbrev pub after_sign : ℕ → Reader → Reader
after_sign c R = word_of (c ∷ []) unexpected >> skip_s >> R >> skip_s

module _ (c : ℕ) (R : Reader) (s : List ℕ) (at : ℕ) (b : Bool) (e : b ≡ starts (c ∷ []) (drop at s)) (y : b ≡ true) (i : ℕ) (r : Answer) (hi : i ≡ at + 1 + run space (drop (at + 1) s)) (hr : said r ≡ read R s i) where
  pub after_no : (x : Fault) → r ≡ Err x → said (Err x) ≡ read (after_sign c R) s at
  after_no x f = sign_then c s at b e y unexpected (skip_s >> R >> skip_s) (said (Err x)) (skip_then s (at + 1) i hi (R >> skip_s) (said (Err x)) (seq_no R skip_s s i x r hr f))

  pub after_at : (d j : ℕ) → r ≡ Ok d → j ≡ d + run space (drop d s) → said (Ok j) ≡ read (after_sign c R) s at
  after_at d j f hj = sign_then c s at b e y unexpected (skip_s >> R >> skip_s) (said (Ok j)) (skip_then s (at + 1) i hi (R >> skip_s) (said (Ok j)) (seq_at R skip_s s i d r (said (Ok j)) hr f (skip_only s d j hj)))

-- what code that reads signs, words and white space one after the other searches
pub ruleset steps = (sign_yes, sign_then, word_no, word_not, word_fits, skip_then, skip_only, on_yes, on_no, took_nothing, not-true, not-false, rules)

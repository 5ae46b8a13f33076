-- Everything up to the first place of a word, for any word and any check of what stands before it. Assumes nothing.
use mathlib.Core.Path.{◌≡◌, sym, ap, ◌∙◌}
use mathlib.Core.List.{List}
use Prim.Native.Nat.{ℕ, ◌+◌, ◌-◌}
use Prim.Native.String.{String}
use native.Mathlib.Nat.{add_assoc, add-zero}
use native.Mathlib.Omega.{arith}
use borrow.Author.Rules.{rules}
use lib.ListN.{length, take, drop}
use Rattle.std.specs.Prelude.{Option, Some, None, Ok, Err}
use Rattle.std.specs.Result.{result_ok}
use Rattle.spec.specs.Grammar.Languages.{ascii}
use Rattle.spec.specs.Reading.Refusals.{Refusal}
use Rattle.spec.specs.Reading.Readers.{Result, ok, err, on_ok, refuse, before, up_to}
use Rattle.error.specs.Read.{said, placed, read, Answer, refused}
use Rattle.error.specs.declared.Fault.{Fault}
use Rattle.error.proofs.Laws.{was_ok, was_err}
use Rattle.search.specs.FirstPlace.{first_place}
use Rattle.search.specs.Places.{found}
use Rattle.search.proofs.Finding.{was_nowhere, was_here, places_found}
use Rattle.cursor.proofs.Reading.{left_of}

-- the word k, whose bytes are p, was looked for from a place on, which gave r
module _ (p : List ℕ) (k : String) (d : p ≡ ascii k) (n : Refusal) (check : List ℕ → Result) (s : List ℕ) (at : ℕ) (r : Option ℕ) (a : found r ≡ first_place p s at) where
  sought : found r ≡ first_place (ascii k) s at
  sought = a ∙ ap (λ (x : List ℕ). first_place x s at) d

  pub up_to_nowhere : (x : Fault) → r ≡ None → said (Err x) ≡ refused n at → said (Err x) ≡ read (up_to k n check) s at
  unfolding read up_to refuse
  up_to_nowhere x b e = e ∙ (rw (was_nowhere (ascii k) s at r sought b, add-zero))

  -- q is what the check answers where what stands before it is all there is
  module _ (j : ℕ) (q : Answer) (b : r ≡ Some j) (c : said q ≡ read check (take (j - 0) (drop 0 s)) at) where
    up_to_here : (x : Result) → check (drop at (take (j - 0) (drop 0 s))) ≡ x → read (up_to k n check) s at ≡ placed at (on_ok x (λ _. ok (before (ascii k) (drop at s) + length (ascii k))))
    unfolding read up_to
    up_to_here x f =
        let (g, h) = was_here (ascii k) s at r sought j b in
        let z : j - at ≡ before (ascii k) (drop at s) = omega arith in
        rw (g, ← z, ← left_of at j s, f)

    pub up_to_taken : (o : ℕ) → q ≡ Ok o → said (Ok (j + length p)) ≡ read (up_to k n check) s at
    unfolding said
    up_to_taken o e =
        let (i, (f, _)) = was_ok check (take (j - 0) (drop 0 s)) at o q c e in
        let (g, h) = was_here (ascii k) s at r sought j b in
        rw (up_to_here (ok i) f, d, h, add_assoc)

    pub up_to_refused : (x : Fault) → q ≡ Err x → said (Err x) ≡ read (up_to k n check) s at
    up_to_refused x e =
        let (y, (i, (f, g))) = was_err check (take (j - 0) (drop 0 s)) at x q c e in
        g ∙ sym (up_to_here (err y i) f)

-- where code goes on behind `ok_or`, there was something
pub some_on : (r : Option ℕ) (q : Answer) (j : ℕ) → r ≡ result_ok q → q ≡ Ok j → r ≡ Some j
some_on r q j e f = e ∙ ap result_ok f

-- what reads up to a word searches
pub ruleset upwards = (some_on, up_to_nowhere, up_to_taken, up_to_refused, places_found, rules)

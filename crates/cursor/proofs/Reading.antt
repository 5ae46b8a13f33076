-- White space inside a chain of readers, and all that a chain searches. Assumes nothing.
use mathlib.Core.Path.{◌≡◌}
use mathlib.Core.List.{List}
use Prim.Native.Nat.{ℕ, ◌+◌, ◌-◌}
use native.Mathlib.Omega.{arith}
use borrow.Author.Rules.{rules}
use lib.ListN.{take, drop}
use Rattle.std.specs.Prelude.{Ok, Err}
use Rattle.spec.specs.Grammar.Characters.{space}
use Rattle.spec.specs.Reading.Refusals.{Refusal}
use Rattle.spec.specs.Reading.Readers.{Reader, ◌>>◌, word_of, run}
use Rattle.spec.specs.Reading.Dtd.{skip_s}
use Rattle.spec.proofs.Base.Places.{drop_take}
use Rattle.error.specs.Read.{Said, said, read, eaten, Answer}
use Rattle.error.specs.declared.Fault.{Fault}
use Rattle.error.proofs.Laws.{seq_no, seq_at, seq_take, choose_yes, choose_no, refuses, took_nothing, ate, ate_then, ate_only, ate_not}
use Rattle.cursor.proofs.Spaces.{skip_takes}

-- what is left at a place of the front part of a text, as code cuts it
pub left_of : (i n : ℕ) (s : List ℕ) → drop i (take (n - 0) (drop 0 s)) ≡ take (n - i) (drop i s)
left_of i n s = let z : n - 0 ≡ n = omega arith in rw z (drop_take i n s)

-- e is what skip_s gave at a place
module _ (s : List ℕ) (at e : ℕ) (h : e ≡ at + run space (drop at s)) where
  pub skip_then : (B : Reader) (q : Said) → q ≡ read B s e → q ≡ read (skip_s >> B) s at
  skip_then B q a = seq_take (run space) skip_s B s at e q skip_takes h a

  pub skip_only : said (Ok e) ≡ read skip_s s at
  unfolding read said skip_s
  skip_only = rw h

-- r is what eat_str gave at a place, inside a chain
module _ (kw : List ℕ) (s : List ℕ) (at : ℕ) (r : Answer) (n : Refusal) (a : said r ≡ eaten kw n s at) where
  pub ate_next : (B : Reader) (i : ℕ) (q : Said) → r ≡ Ok i → q ≡ read B s i → q ≡ read (word_of kw n >> B) s at
  ate_next B i q e b = seq_at (word_of kw n) B s at i r q (ate kw n s at r a) e b

  pub ate_stop : (B : Reader) (x : Fault) → r ≡ Err x → said (Err x) ≡ read (word_of kw n >> B) s at
  ate_stop B x e = seq_no (word_of kw n) B s at x r (ate kw n s at r a) e

-- What code that reads one thing after another searches: of laws with as many premises the first is tried first. Six readers are found.
pub ruleset reading =
    (skip_then, skip_only, ate_stop, ate_next, seq_at, seq_no, ate, ate_not, ate_then, ate_only, choose_yes, choose_no, refuses, took_nothing, rules)

-- Laws of counting the unread declarations, and of where the walk begins. Assumes nothing.
use mathlib.Core.Path.{◌≡◌, refl, sym, ◌∙◌, ap}
use mathlib.Core.Bool.{Bool, false}
use mathlib.Core.List.{List, [], ◌∷◌}
use Prim.Native.Nat.{ℕ, suc, ◌+◌, ◌^◌, ◌<◌}
use native.Mathlib.Omega.{arith}
use borrow.Author.Rules.{rules}
use mir.Syntax.{w64}
use mir.Val.{Fits}
use lib.ListN.{length, drop}
use Rattle.std.specs.Prelude.{Option, Some, None}
use Rattle.std.specs.Iterator.{Drains}
use Rattle.spec.specs.Grammar.Division.{Entry}
use Rattle.spec.specs.Grammar.Languages.{one_of}
use Rattle.spec.specs.Grammar.Names.{Dialect}
use Rattle.spec.specs.Reading.Entries.{entries_from, from_open, declarations}
use Rattle.spec.specs.Reading.Places.{Place, at, nowhere}
use Rattle.spec.specs.Reading.Readers.{contains}
use Rattle.spec.specs.Reading.Scan.{subset_open}
use Rattle.spec.specs.Unread.{unread_entries}
use Rattle.spec.proofs.Base.Outside.{outside_within}
use Rattle.spec.proofs.Base.Places.{drop_end}
use Rattle.spec.proofs.Division.Delimited.{from_end}
use Rattle.spec.proofs.Division.Unread.{none_unread}
use Rattle.search.specs.Places.{found, place_from}
use Rattle.search.proofs.Placing.{from_nowhere, from_here}
use Rattle.entries.specs.Walk.{walk_start, after_open, unread_from}
use Rattle.entries.specs.Left.{unread_left, GivesUnread}
use Rattle.entries.specs.declared.walk.Unread.{Unread}
use Rattle.entries.specs.declared.count.UnreadEntries.{UnreadEntries}

-- Where the walk begins: o is what subset_open answered.
module _ (s : List ℕ) (o : Option ℕ) (a : found o ≡ place_from subset_open s 0) where
  pub start_none : o ≡ None → length s ≡ walk_start s
  unfolding walk_start
  start_none b = rw (from_nowhere subset_open s 0 o a b)

  module _ (i : ℕ) (b : o ≡ Some i) where
    open_at : subset_open s ≡ at i
    open_at = let (n, e, f) = from_here subset_open s 0 o a i b in let z : n ≡ i = omega arith in e ∙ ap at z

    pub start_after : i + 1 ≡ walk_start s
    unfolding walk_start
    start_after = rw open_at

    pub start_fits : length s < 2 ^ 64 → Fits w64 (i + 1)
    start_fits h = omega (arith, outside_within (one_of "[") 0 s i open_at)

-- from there on stand the entries of the text
pub start_declares : (D : Dialect) (s : List ℕ) → declarations D s ≡ entries_from D (walk_start s) (drop (walk_start s) s)
unfolding declarations walk_start
start_declares D s = go (subset_open s)
  where
    go : (p : Place) → from_open D s p ≡ entries_from D (after_open s p) (drop (after_open s p) s)
    go (at i) = refl
    go nowhere = sym (ap (entries_from D (length s)) (drop_end s (length s) (omega arith)) ∙ from_end D (length s))

-- calls of the iterator until it gives none give as many as it had left
drained : (us : List Unread) (walk : UnreadEntries) → Drains GivesUnread walk us → length us ≡ length (unread_left walk)
drained [] walk d = sym (ap length (ap unread_left d.1.1 ∙ d.1.2.step.0))
drained (u ∷ us) walk d = ap suc (drained us d.1.1.0 (d.0, (d.1.0, d.1.1.2, d.1.2))) ∙ sym (ap length d.1.1.1.step)

-- the whole text: without '%' none, else what is counted from its first entry on
pub count_none : (D : Dialect) (s : List ℕ) (t : Bool) → t ≡ contains (37 ∷ []) s → t ≡ false → 0 ≡ length (unread_entries D s false (declarations D s))
count_none D s t e f = sym (ap length (none_unread D s (sym e ∙ f)))

pub count_all : (D : Dialect) (s : List ℕ) (n : ℕ) (walk : UnreadEntries)
    → unread_left walk ≡ unread_from D s false (walk_start s)
    → (us : List Unread) × Drains GivesUnread walk us × (n ≡ length us)
    → n ≡ length (unread_entries D s false (declarations D s))
unfolding unread_from
count_all D s n walk e (us, d, f) = f ∙ drained us walk d ∙ ap length e ∙ sym (ap (λ (es : List Entry). length (unread_entries D s false es)) (start_declares D s))

pub ruleset starting = (start_none, start_after, start_fits, rules)

-- What stands where the root is due: by whether something is left. Assumes nothing.
use mathlib.Core.Path.{◌≡◌, refl, sym, ◌∙◌}
use mathlib.Core.Bool.{Bool, true, false}
use mathlib.Core.List.{List, [], ◌∷◌}
use Prim.Native.Nat.{ℕ, ◌<◌, ◌≤◌}
use lib.ListN.{length, drop}
use Rattle.std.specs.Prelude.{Option, Some, None}
use Rattle.std.specs.Option.{is_some}
use Rattle.spec.specs.Reading.Readers.{Reader, some_left, choose, contains}
use Rattle.spec.proofs.Base.Places.{drop_at, drop_end}
use Rattle.error.specs.Read.{Said, read}
use Rattle.error.proofs.Laws.{choose_yes, choose_no}
use Rattle.search.specs.FirstPlace.{first_place}
use Rattle.search.specs.Places.{found}
use Rattle.search.proofs.Finding.{was_nowhere, was_here}
use Rattle.search.proofs.Words.{on_yes, on_no}
use Rattle.cursor.proofs.Reading.{reading}

module _ (A B : Reader) (s : List ℕ) (at : ℕ) (q : Said) where
  pub some_here : at < length s → q ≡ read A s at → q ≡ read (choose some_left A B) s at
  some_here h a = choose_yes some_left A B s at true q (unfold some_left in rw (drop_at s at h)) refl a

  pub none_here : length s ≤ at → q ≡ read B s at → q ≡ read (choose some_left A B) s at
  none_here h a = choose_no some_left A B s at false q (unfold some_left in rw (drop_end s at h)) refl a

-- whether a byte is left: f says where it next stands
pub left_byte : (c : ℕ) (s : List ℕ) (at : ℕ) (f : Option ℕ) (b : Bool) → found f ≡ first_place (c ∷ []) s at → b ≡ is_some f → b ≡ contains (c ∷ []) (drop at s)
left_byte c s at f b a e = e ∙ go f refl
  where
    go : (o : Option ℕ) → f ≡ o → is_some o ≡ contains (c ∷ []) (drop at s)
    go (Some j) g = sym (was_here (c ∷ []) s at f a j g).0
    go None g = sym (was_nowhere (c ∷ []) s at f a g)

-- what the root's readers search
pub ruleset tags = (some_here, none_here, left_byte, on_yes, on_no, reading)

-- What stands at a cursor, as `peek` and `parse_name` read it. Assumes nothing.
use mathlib.Core.Path.{◌≡◌, ap, ◌∙◌}
use mathlib.Core.List.{List}
use Prim.Native.Nat.{ℕ, ◌<◌, ◌≤◌}
use native.Mathlib.Omega.{arith}
use lib.ListN.{length, get_or, take, drop}
use Rattle.std.specs.Prelude.{Option, Some, None, option_copied}
use Rattle.std.specs.Borrow.{Bor}
use Rattle.std.specs.Slice.{IsItemAt}
use Rattle.spec.specs.Grammar.AppendixB.{appendix_b}
use Rattle.spec.proofs.Base.Places.{drop_at, drop_end}
use Rattle.classes.specs.Classes.{dialect}
use Rattle.names.specs.NamePart.{NamePart}
use Rattle.classes.specs.declared.Names.TheVariants.{AppendixB}
use Rattle.lent.specs.Places.{next}

-- a byte stands there, or the text ends
next_byte : (s : List ℕ) (i : ℕ) → i < length s → next (Some (get_or s i 0)) ≡ take 1 (drop i s)
unfolding next
next_byte s i h = rw (drop_at s i h)

next_end : (s : List ℕ) (i : ℕ) → length s ≤ i → next None ≡ take 1 (drop i s)
unfolding next
next_end s i h = rw (drop_end s i h)

-- as the code asks for it
pub next_get : (s : List ℕ) (i : ℕ) (r : Option (Bor ℕ)) (o : Option ℕ) → IsItemAt s i r → o ≡ option_copied r → next o ≡ take 1 (drop i s)
next_get s i (Some x) o h e =
    let v : x.now ≡ get_or s i 0 = h.4 (omega arith) 0 in
    ap next (e ∙ ap Some v) ∙ next_byte s i h.3.0
next_get s i None o h e = ap next e ∙ next_end s i h.3

-- the dialect is the one of appendix B
pub in_appendix_b : (w p : List ℕ) → NamePart (dialect AppendixB) w p → NamePart appendix_b w p
unfolding dialect
in_appendix_b w p n = n

-- Comments and instructions around the DOCTYPE: which begins at a place, and the loop over them. Assumes nothing.
use mathlib.Core.Path.{◌≡◌, refl, sym, ap}
use mathlib.Core.Bool.{Bool, false, ◌||◌}
use mathlib.Core.List.{List, []}
use Prim.Native.Nat.{ℕ, ◌+◌}
use native.Mathlib.Omega.{arith}
use lib.ListN.{drop}
use Rattle.spec.specs.Grammar.Characters.{space}
use Rattle.spec.specs.Grammar.Languages.{ascii}
use Rattle.spec.specs.Grammar.Names.{Dialect}
use Rattle.spec.specs.Reading.Document.{item_here, read_item, read_misc}
use Rattle.spec.specs.Reading.Dtd.{skip_s, parse_comment, parse_pi}
use Rattle.spec.specs.Reading.Readers.{◌>>◌, nothing, starts, while, run}
use Rattle.spec.specs.Reading.Refusals.{unexpected, out_of_order}
use Rattle.spec.proofs.Base.Loops.{Somes}
use Rattle.spec.proofs.Base.Somes.{some_refuse, some_choose, some_on, some_word, some_then}
use Rattle.error.specs.Read.{read, placed}
use Rattle.error.proofs.Whiles.{whiles}
use Rattle.search.proofs.Words.{by_words}
use Rattle.cursor.proofs.Reading.{skip_then, skip_only, reading}
use Rattle.dtd.proofs.Ending.{then_nothing}

-- either, by two tests
pub item_is : (a b : Bool) (w : List ℕ) → a ≡ starts (ascii "<!--") w → b ≡ starts (ascii "<?") w → (a || b) ≡ item_here w
unfolding item_here
item_is a b w e f = rw (e, f)

-- none begins at the end
pub item_ends : item_here [] ≡ false
unfolding item_here starts
item_ends = refl

-- and each takes a byte or more
pub some_item : (D : Dialect) → Somes (read_item D >> skip_s)
unfolding read_item parse_comment parse_pi
some_item D =
    some_then (read_item D) skip_s
    (some_on "<!--" _ _ (some_then _ _ (some_word "<!--" unexpected (omega arith)))
    (some_choose _ _ _ (some_refuse out_of_order) (some_then _ _ (some_word "<?" unexpected (omega arith)))))

-- the loop of read_misc begins behind white space, e
pub misc_starts : (D : Dialect) (s : List ℕ) (at e : ℕ) → e ≡ at + run space (drop at s) → read (while item_here (read_item D >> skip_s) >> nothing) s e ≡ read (read_misc D) s at
unfolding read_misc
misc_starts D s at e h =
    skip_then s at e h (while item_here (read_item D >> skip_s)) _
    (unfold read in ap (placed e) (sym (then_nothing (while item_here (read_item D >> skip_s)) (drop e s))))

-- what an item searches, and the loop
pub ruleset items = (item_is, by_words)

pub ruleset miscs = (misc_starts, item_ends, some_item, skip_only, whiles, reading)

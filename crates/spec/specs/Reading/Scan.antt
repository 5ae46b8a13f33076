-- The quick scan of checks.rs: subset_open and internal_subset_end, as a rule on bytes. Assumes nothing.
use Rattle.std.specs.Prelude.{List, [], ◌∷◌, ℕ, zero, suc, ◌+◌, eqb, drop}
use Rattle.spec.specs.Basics.{pick}
use Rattle.spec.specs.Grammar.Languages.{ascii, one_of}
use Rattle.spec.specs.Reading.Places.{Place, at, nowhere, later, outside}
use Rattle.spec.specs.Reading.Readers.{starts, contains, before}

-- subset_open: the first '[' outside quotes
abbrev pub subset_open : List ℕ → Place
subset_open = outside (one_of "[") 0

-- internal_subset_end: the first ']' outside quotes and comments; skip counts the bytes of a comment still to pass
unfoldable pub subset_end : ℕ → ℕ → List ℕ → Place
subset_end skip quote [] = nowhere
subset_end (suc skip) quote (b ∷ w) = later 1 (subset_end skip quote w)
subset_end zero (suc quote) (b ∷ w) = later 1 (subset_end 0 (pick (eqb b (suc quote)) 0 (suc quote)) w)
subset_end zero zero (b ∷ w) =
    pick (one_of "]" b) (at 0)
    (pick (starts (ascii "<!--") (b ∷ w))
    (pick (contains (ascii "-->") (drop 3 w)) (later 1 (subset_end (before (ascii "-->") (drop 3 w) + 6) 0 w)) nowhere)
    (later 1 (subset_end 0 (pick (one_of "\"'" b) b 0) w)))

-- what the scan says
pub data Scan : Type 0 where
  not_opened not_closed : Scan
  closed : ℕ → Scan

abbrev pub scan_after : ℕ → Place → Scan
scan_after k (at j) = closed (k + j)
scan_after k nowhere = not_closed

abbrev pub scan_from : List ℕ → Place → Scan
scan_from w (at i) = scan_after (suc i) (subset_end 0 0 (drop (suc i) w))
scan_from w nowhere = not_opened

unfoldable pub scan : List ℕ → Scan
scan w = scan_from w (subset_open w)

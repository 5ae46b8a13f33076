-- source.rs: whether bytes are UTF-8; and the two numbers in front of every public call. Assumes nothing.
use Rattle.std.specs.Prelude.{List, ℕ, ltb, length}
use Rattle.spec.specs.Basics.{pick, limit}
use Rattle.spec.specs.Grammar.Languages.{any}
use Rattle.spec.specs.Reading.Refusals.{too_long, not_utf8}
use Rattle.spec.specs.Reading.Readers.{err, Reader, number_of, stop_of, on_ok, char, throughout}

-- code points from the first byte to the last
unfoldable pub utf8 : Reader
utf8 = throughout (char any not_utf8)

-- 1 before 2
unfoldable pub admit : Reader
admit w = pick (ltb limit (length w)) (err too_long 0) (utf8 w)

-- 2 before the rest
abbrev pub admitted : Reader → Reader
admitted rule w = on_ok (admit w) (λ k. rule w)

-- the number that a public call gives, and the place where it stops
unfoldable pub checked : Reader → List ℕ → ℕ
checked rule w = number_of (admitted rule w)

unfoldable pub checked_at : Reader → List ℕ → ℕ
checked_at rule w = stop_of (admitted rule w)

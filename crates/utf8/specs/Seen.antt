-- The code's answer for a code point in the rule's words, and whether a reader accepts. Assumes nothing.
use Rattle.std.specs.Prelude.{Bool, true, false, Option, Some, None}
use Rattle.spec.specs.Reading.Utf8 as Utf8
use Rattle.spec.specs.Reading.Utf8.{point, no_point}
use Rattle.spec.specs.Reading.Readers.{Result, ok, err}
use Rattle.utf8.specs.declared.Point.{Point}

unfoldable pub seen : Option Point → Utf8.Point
seen (Some p) = point p.code p.width
seen None = no_point

abbrev pub accepts : Result → Bool
accepts (ok k) = true
accepts (err r k) = false

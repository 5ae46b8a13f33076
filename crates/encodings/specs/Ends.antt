-- What stands at the end of the part that is read, as a piece of end_refusal. Assumes nothing: this is a definition.
use Rattle.std.specs.Prelude.{List, ℕ, drop}
use Rattle.spec.specs.Grammar.Encodings.{Coding}
use Rattle.spec.specs.Reading.Readers.{of_point}
use Rattle.spec.specs.Reading.Refusals.{Refusal, not_utf8}
use Rattle.spec.specs.Reading.Utf8.{decode1}
use Rattle.spec.specs.Reading.Verdict.{stranger}

unfoldable pub strange_at : Coding → ℕ → List ℕ → Refusal
strange_at c at w = of_point (decode1 (drop at w)) (λ n k. stranger c n) not_utf8

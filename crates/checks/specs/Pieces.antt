-- Pieces of check_declaration that functions of their own read. Assumes nothing.
use Rattle.std.specs.Prelude.{Bool, List, ℕ, ◌+◌, ◌-◌, drop, Result, Ok, Err}
use Rattle.spec.specs.Grammar.Characters.{space}
use Rattle.spec.specs.Reading.Checks.{is_enc_name, is_yes_or_no, parse_eq_quoted, pseudo_attr}
use Rattle.spec.specs.Reading.Dtd.{skip_s, require_s, parse_quoted}
use Rattle.spec.specs.Reading.Readers.{Reader, ◌>>◌, nothing, at_end, starts, choose, word, word_of, run}
use Rattle.spec.specs.Reading.Refusals.{Refusal, unexpected, trailing}
use Rattle.error.specs.Read.{Said, passed, refused, reason, read}
use Rattle.error.specs.declared.Fault.{Fault}
use Rattle.source.specs.declared.Span.{Span}

-- what is said of a value: its two ends; or a refusal, and the place where it is met
pub data ValueSaid : Type 0 where
  spans : ℕ → ℕ → ValueSaid
  stops : Refusal → ℕ → ValueSaid

-- what parse_eq_quoted answers says
unfoldable pub quoted_said : Result Span Fault → ValueSaid
quoted_said (Ok v) = spans v.start v.end
quoted_said (Err x) = stops (reason x.refusal) x.place

-- the text between the quotes of a literal, from its opening quote and what was read of it
abbrev pub between : ℕ → Said → ValueSaid
between opening (passed rest) = spans (opening + 1) (rest - 1)
between opening (refused n k) = stops n k

-- what is next after '=', from what was read of that
abbrev pub after_eq : List ℕ → Said → ValueSaid
after_eq s (passed i) = let opening = i + run space (drop i s) in between opening (read (parse_quoted nothing) s opening)
after_eq s (refused n k) = stops n k

-- what parse_eq_quoted finds at a place: white space, '=', white space, a literal
unfoldable pub eq_quoted : List ℕ → ℕ → ValueSaid
eq_quoted s at = after_eq s (read (word "=" unexpected) s (at + run space (drop at s)))

-- pseudo_attr for any bytes as the name
unfoldable pub pseudo_attr_of : List ℕ → (List ℕ → Bool) → Reader
pseudo_attr_of name test =
    choose (λ w. starts name (drop (run space w) w)) (require_s >> word_of name unexpected >> parse_eq_quoted test) nothing

-- what may follow the version, up to the end
abbrev pub after_version : Reader
after_version = pseudo_attr "encoding" is_enc_name >> pseudo_attr "standalone" is_yes_or_no >> skip_s >> at_end trailing

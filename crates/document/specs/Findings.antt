-- A verdict as far as the code tells it: a refusal with its place, and where what does not end was opened. Assumes nothing.
use Rattle.std.specs.Prelude.{ℕ, Result, Ok, Err}
use Rattle.spec.specs.Grammar.Prolog.{DoctypeText}
use Rattle.spec.specs.Reading.Refusals.{Refusal}
use Rattle.spec.specs.Reading.Verdict.{Verdict, accepted, refused, ended, rootless}
use Rattle.error.specs.Read.{reason}
use Rattle.document.specs.Prologs.{text_of}
use Rattle.document.specs.declared.finding.Lost.{Lost}
use Rattle.document.specs.declared.opening.Opening.{Opening}

-- where the root begins, and the DOCTYPE's text; or the refusal, where what does not end was opened, and the place
pub data Found : Type 0 where
  reads : ℕ → DoctypeText → Found
  loses : Refusal → ℕ → ℕ → Found

abbrev pub found : Verdict → Found
found (accepted k t) = reads k t
found (refused r k) = loses r k k
found (ended r i j) = loses r i j
found (rootless r k) = loses r k k

-- what the code's answer says
unfoldable pub finds : Result Opening Lost → Found
finds (Ok o) = reads o.end (text_of o.doctype)
finds (Err l) = loses (reason l.fault.refusal) l.opened l.fault.place

-- What is said of a prolog: how its reader comes out, and where the DOCTYPE's text is found. Assumes nothing.
use Rattle.std.specs.Prelude.{List, ℕ, ◌+◌, drop, Option, Some, None, Result, Ok, Err}
use Rattle.spec.specs.Grammar.Names.{Dialect}
use Rattle.spec.specs.Grammar.Prolog.{DoctypeText, no_doctype, from_to}
use Rattle.spec.specs.Reading.Document.{read_ending, read_prolog, read_after, find_doctype}
use Rattle.spec.specs.Reading.Readers as Readers
use Rattle.spec.specs.Reading.Readers.{ok, err}
use Rattle.spec.specs.Reading.Refusals.{Refusal}
use Rattle.spec.specs.Reading.Verdict.{moved_text}
use Rattle.error.specs.Read.{reason}
use Rattle.error.specs.declared.Fault.{Fault}
use Rattle.source.specs.declared.Span.{Span}
use Rattle.document.specs.declared.opening.Opening.{Opening}

-- a prolog up to a place, with the DOCTYPE's text in it; or a refusal, and its place
pub data Prolog : Type 0 where
  up_to : ℕ → DoctypeText → Prolog
  refuses : Refusal → ℕ → Prolog

-- what the code's answer says
abbrev pub text_of : Option Span → DoctypeText
text_of None = no_doctype
text_of (Some t) = from_to t.start t.end

unfoldable pub opens : Result Opening Fault → Prolog
opens (Ok o) = up_to o.end (text_of o.doctype)
opens (Err f) = refuses (reason f.refusal) f.place

-- a reader's result and the DOCTYPE's text, as places of the whole text
abbrev pub placed_prolog : ℕ → Readers.Result → DoctypeText → Prolog
placed_prolog at (ok k) t = up_to (at + k) (moved_text at t)
placed_prolog at (err r k) t = refuses r (at + k)

-- the whole of it, in s at a place; and what follows the comments and instructions that stand first
unfoldable pub prolog_read : Dialect → List ℕ → ℕ → Prolog
prolog_read D s at = placed_prolog at (read_prolog D (drop at s)) (find_doctype D (drop at s))

unfoldable pub ending_read : Dialect → List ℕ → ℕ → Prolog
ending_read D s at = placed_prolog at (read_ending D (drop at s)) (read_after D 0 (drop at s))

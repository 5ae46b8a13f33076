-- The verdict on the part x of a document that is read, as far as x alone decides it: `verdict_of` without what stands at the end of x.
-- Assumes nothing.
use Rattle.std.specs.Prelude.{Bool, List, ℕ, eqb, length, Result, Ok, Err}
use Rattle.spec.specs.Basics.{pick}
use Rattle.spec.specs.Grammar.Names.{Dialect}
use Rattle.spec.specs.Grammar.Prolog.{DoctypeText}
use Rattle.spec.specs.Reading.Document.{read_prolog, read_beginning, find_doctype}
use Rattle.spec.specs.Reading.Readers as Readers
use Rattle.spec.specs.Reading.Readers.{ok, err, taken}
use Rattle.spec.specs.Reading.Refusals.{Refusal}
use Rattle.spec.specs.Reading.Verdict.{Verdict, accepted, refused, ended, rootless, unended, sign_at}
use Rattle.error.specs.Read.{reason}
use Rattle.document.specs.Prologs.{text_of}
use Rattle.document.specs.declared.opening.Opening.{Opening}
use Rattle.document.specs.declared.verdict.Stopped.{Stopped}
use Rattle.document.specs.declared.verdict.Stopped.TheVariants.{Refused, Ended, Rootless}

-- the four verdicts; what x ends at is not said
pub data Judgement : Type 0 where
  accepts : ℕ → DoctypeText → Judgement
  refuses : Refusal → ℕ → Judgement
  ends : ℕ → Judgement
  lacks_root : Judgement

module _ (D : Dialect) (x : List ℕ) where
  abbrev pub judged_end : Readers.Result → ℕ → Judgement
  judged_end (ok j) k = pick (eqb j (length x)) lacks_root (ends (sign_at k x))
  judged_end (err r j) k = ends (sign_at k x)

  abbrev pub judged_of : Readers.Result → Judgement
  judged_of (ok k) = accepts (taken (read_prolog D x)) (find_doctype D x)
  judged_of (err r k) = pick (unended r k x) (judged_end (read_prolog D x) k) (refuses r k)

  unfoldable pub judged : Judgement
  judged = judged_of (read_beginning D x)

-- the whole verdict, from what x ends at and where
abbrev pub in_full : Refusal → ℕ → Judgement → Verdict
in_full r n (accepts k t) = accepted k t
in_full r n (refuses q k) = refused q k
in_full r n (ends k) = ended r k n
in_full r n lacks_root = rootless r n

-- what the code's answer says
unfoldable pub told : Result Opening Stopped → Judgement
told (Ok o) = accepts o.end (text_of o.doctype)
told (Err (Refused f)) = refuses (reason f.refusal) f.place
told (Err (Ended k)) = ends k
told (Err Rootless) = lacks_root

-- what a refusal in x comes to, whole where the prolog is read to the end of x
unfoldable pub stopped_by : Bool → Refusal → ℕ → List ℕ → Judgement
stopped_by whole r k x = pick (unended r k x) (pick whole lacks_root (ends (sign_at k x))) (refuses r k)

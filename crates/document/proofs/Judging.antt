-- The verdict on the part of a document that is read, branch by branch. Assumes nothing.
use mathlib.Core.Path.{◌≡◌, refl, sym, ap, ◌∙◌}
use mathlib.Core.Bool.{Bool, true, false}
use mathlib.Core.List.{List}
use Prim.Native.Nat.{ℕ, ◌+◌}
use native.Mathlib.Nat.{zero-add}
use native.Mathlib.Omega.{arith}
use borrow.Author.Rules.{rules}
use borrow.Author.Tests.{not-true, not-false}
use lib.Dec.{eqb}
use lib.ListN.{length}
use Rattle.std.specs.Prelude as Std
use Rattle.std.specs.Prelude.{Ok, Err}
use Rattle.std.specs.Result.{MatchResult, IsErrAnd}
use Rattle.spec.specs.Basics.{pick}
use Rattle.spec.specs.Grammar.Encodings.{Coding}
use Rattle.spec.specs.Grammar.Names.{Dialect}
use Rattle.spec.specs.Grammar.Prolog.{DoctypeText, no_doctype, from_to}
use Rattle.spec.specs.Reading.Document.{read_prolog, read_tag, read_beginning, find_doctype}
use Rattle.spec.specs.Reading.Readers.{Result, ok, err, ◌>>◌}
use Rattle.spec.specs.Reading.Refusals.{Refusal}
use Rattle.spec.specs.Reading.Verdict.{refused, ended, rootless, unended, sign_at, end_refusal, readable, ended_at, verdict_of, verdict_in}
use Rattle.error.specs.Read.{Answer, reason, said, read}
use Rattle.error.specs.declared.Fault.{Fault}
use Rattle.error.proofs.Laws.{was_ok, was_err}
use Rattle.document.specs.Prologs.{up_to, refuses as refuses_at, text_of, opens, placed_prolog, prolog_read}
use Rattle.document.specs.Judgements.{Judgement, accepts, refuses, ends, lacks_root, judged_end, judged_of, judged, in_full, told, stopped_by}
use Rattle.document.specs.declared.opening.Opening.{Opening}
use Rattle.document.specs.declared.verdict.Stopped.TheVariants.{Refused, Ended, Rootless}

-- what `map_err` gives, q, is no fault only where what it was given, r, was none
pub mapped_ok : {A E F : Type 0} (P : E → F → Type 0) (r : Std.Result A E) (q : Std.Result A F) (a : A) → MatchResult r (λ x. q ≡ Ok x) (λ e. IsErrAnd q (P e)) → q ≡ Ok a → r ≡ Ok a
mapped_ok P (Ok x) q a m e = let z : x ≡ a = cc in ap Ok z
mapped_ok P (Err x) (Ok b) a m e = absurd m
mapped_ok P (Err x) (Err y) a m e = let z : ◌≡◌ {A = ℕ} 0 1 = cc in absurd (omega arith)

-- what a fault comes to: t whether something does not end
module _ (whole : Bool) (f : Fault) (x : List ℕ) (t : Bool) (a : t ≡ unended (reason f.refusal) f.place x) where
  pub stopped_there : t ≡ false → told (Err (Refused f)) ≡ stopped_by whole (reason f.refusal) f.place x
  unfolding stopped_by told
  stopped_there e = rw (sym a ∙ e)

  pub stopped_rootless : t ≡ true → whole ≡ true → told (Err Rootless) ≡ stopped_by whole (reason f.refusal) f.place x
  unfolding stopped_by told
  stopped_rootless e g = rw (sym a ∙ e, g)

  pub stopped_open : (i : ℕ) → t ≡ true → whole ≡ false → i ≡ sign_at f.place x → told (Err (Ended i)) ≡ stopped_by whole (reason f.refusal) f.place x
  unfolding stopped_by told
  stopped_open i e g h = rw (sym a ∙ e, g, h)

-- The verdict by what was read of the prolog, p.
module _ (D : Dialect) (x : List ℕ) (p : Std.Result Opening Fault) (a : opens p ≡ prolog_read D x 0) where
  pub judge_no : (f : Fault) (q : Judgement) → p ≡ Err f → q ≡ stopped_by false (reason f.refusal) f.place x → q ≡ judged D x
  unfolding opens prolog_read judged read_beginning ◌>>◌ stopped_by
  judge_no f q e b = go (read_prolog D x) (find_doctype D x) refl (sym (ap opens e) ∙ a)
    where
      go : (y : Result) (t : DoctypeText) → read_prolog D x ≡ y → refuses_at (reason f.refusal) f.place ≡ placed_prolog 0 y t → q ≡ judged D x
      go (ok m) t g h = let z : ◌≡◌ {A = ℕ} 0 1 = cc in absurd (omega arith)
      go (err r j) t g h =
          let u : reason f.refusal ≡ r = cc in
          let v : f.place ≡ 0 + j = cc in
          let w : stopped_by false r j x ≡ judged D x = rw (g, g) in
          b ∙ (rw (u, v ∙ zero-add j)) ∙ w

  module _ (o : Opening) (h : p ≡ Ok o) (r : Answer) (c : said r ≡ read (read_tag D) x o.end) where
    -- the prolog is read up to its end
    up_to_end : (read_prolog D x ≡ ok o.end) × (accepts o.end (text_of o.doctype) ≡ accepts o.end (find_doctype D x))
    unfolding opens prolog_read
    up_to_end = go (read_prolog D x) (find_doctype D x) (sym (ap opens h) ∙ a)
      where
        go : (y : Result) (t : DoctypeText) → up_to o.end (text_of o.doctype) ≡ placed_prolog 0 y t → (y ≡ ok o.end) × (accepts o.end (text_of o.doctype) ≡ accepts o.end t)
        go (ok m) no_doctype g = let u : o.end ≡ 0 + m = cc in let v : text_of o.doctype ≡ no_doctype = cc in (ap ok (sym (u ∙ zero-add m)), rw v)
        go (ok m) (from_to k l) g =
            let u : o.end ≡ 0 + m = cc in
            let v : text_of o.doctype ≡ from_to (0 + k) (0 + l) = cc in
            (ap ok (sym (u ∙ zero-add m)), rw (v, zero-add k, zero-add l))
        go (err m k) t g = let z : ◌≡◌ {A = ℕ} 0 1 = cc in absurd (omega arith)

    pub judge_accepted : (i : ℕ) → r ≡ Ok i → told (Ok o) ≡ judged D x
    unfolding judged read_beginning ◌>>◌ told
    judge_accepted i f =
        let (g, l) = up_to_end in
        let (k, (m, _)) = was_ok (read_tag D) x o.end i r c f in
        l ∙ (rw (g, m, g))

    pub judge_tag : (f : Fault) (q : Judgement) → r ≡ Err f → q ≡ stopped_by (eqb o.end (length x)) (reason f.refusal) f.place x → q ≡ judged D x
    unfolding judged read_beginning ◌>>◌ said stopped_by
    judge_tag f q e b =
        let (g, l) = up_to_end in
        let (m, (n, (u, v))) = was_err (read_tag D) x o.end f r (unfold said in c) e in
        let y : reason f.refusal ≡ m = cc in
        let z : f.place ≡ o.end + n = cc in
        let w : stopped_by (eqb o.end (length x)) m (o.end + n) x ≡ judged D x = rw (g, u, g) in
        b ∙ ap (λ (i : Refusal). stopped_by (eqb o.end (length x)) i f.place x) y ∙ ap (λ (i : ℕ). stopped_by (eqb o.end (length x)) m i x) z ∙ w

-- The verdict in a coding is this, with what the part that is read ends at.
module _ (D : Dialect) (c : Coding) (whole : Bool) (w : List ℕ) where
  abbrev part : List ℕ
  part = readable D c whole w

  ended_judged : (y : Result) (k : ℕ) → ended_at D c whole w y k ≡ in_full (end_refusal c whole w) (length part) (judged_end D part y k)
  ended_judged (err r j) k = refl
  ended_judged (ok j) k = go (eqb j (length part))
    where
      go : (t : Bool) → pick t (rootless (end_refusal c whole w) (length part)) (ended (end_refusal c whole w) (sign_at k part) (length part))
          ≡ in_full (end_refusal c whole w) (length part) (pick t lacks_root (ends (sign_at k part)))
      go true = refl
      go false = refl

  of_judged : (y : Result) → verdict_of D c whole w y ≡ in_full (end_refusal c whole w) (length part) (judged_of D part y)
  of_judged (ok k) = refl
  of_judged (err r k) = go (unended r k part)
    where
      go : (t : Bool) → pick t (ended_at D c whole w (read_prolog D part) k) (refused r k)
          ≡ in_full (end_refusal c whole w) (length part) (pick t (judged_end D part (read_prolog D part) k) (refuses r k))
      go true = ended_judged (read_prolog D part) k
      go false = refl

  pub verdict_judged : verdict_in D c whole w ≡ in_full (end_refusal c whole w) (length part) (judged D part)
  unfolding verdict_in judged
  verdict_judged = of_judged (read_beginning D part)

-- what the verdict searches
pub ruleset judging = (stopped_there, stopped_rootless, stopped_open, judge_no, judge_accepted, judge_tag, not-true, not-false, rules)

-- The verdict in a coding: accepted exactly where the document begins as the grammar says, in characters of the coding's class. Assumes
-- nothing.
use mathlib.Core.Bool.{Bool, true, false}
use mathlib.Core.List.{List}
use mathlib.Core.Logic.{◌↔◌}
use mathlib.Core.Path.{◌≡◌, refl, ap, ◌∙◌}
use Prim.Native.Nat.{ℕ}
use native.Mathlib.Omega.{arith}
use lib.Dec.{eqb}
use lib.ListN.{length}
use Rattle.spec.specs.Basics.{pick}
use Rattle.spec.specs.Grammar.Encodings.{Coding, class_of}
use Rattle.spec.specs.Grammar.Names.{Dialect, AsciiNames}
use Rattle.spec.specs.Grammar.Prolog.{Begins, doctype_of}
use Rattle.spec.specs.Reading.Document.{read_prolog, read_beginning}
use Rattle.spec.specs.Reading.Readers.{Result, ok, err, taken}
use Rattle.spec.specs.Reading.Refusals.{Refusal, number}
use Rattle.spec.specs.Reading.Verdict.{accepted, refused, ended, rootless, number_in, unended, sign_at, end_refusal, readable, ended_at, verdict_of, verdict_in}
use Rattle.spec.proofs.Base.Results.{number_pos}
use Rattle.spec.proofs.Document.Agrees.{document_agrees, prolog_size, doctype_read}

module _ (D : Dialect) (c : Coding) (whole : Bool) (w : List ℕ) where
  -- what does not end has the number of what the part that is read ends at
  pub ended_number : (a : Result) (k : ℕ) → number_in (ended_at D c whole w a k) ≡ number (end_refusal c whole w)
  ended_number (err r j) k = refl
  ended_number (ok j) k = go (eqb j (length (readable D c whole w)))
    where
      go : (t : Bool) → number_in (pick t (rootless (end_refusal c whole w) (length (readable D c whole w))) (ended (end_refusal c whole w) (sign_at k (readable D c whole w)) (length (readable D c whole w)))) ≡ number (end_refusal c whole w)
      go true = refl
      go false = refl

  -- so what is refused in reading is not accepted
  refused_number : (r : Refusal) (k : ℕ) → number_in (verdict_of D c whole w (err r k)) ≡ 0 → ⊥
  refused_number r k = go (unended r k (readable D c whole w))
    where
      go : (t : Bool) → number_in (pick t (ended_at D c whole w (read_prolog D (readable D c whole w)) k) (refused r k)) ≡ 0 → ⊥
      go true e = let n = ended_number (read_prolog D (readable D c whole w)) k in let h = number_pos (end_refusal c whole w) in omega arith
      go false e = let h = number_pos r in omega arith

  module _ (A : AsciiNames D) where
    -- The theorem: what begins as the grammar says is accepted, with the grammar's prolog and DOCTYPE; nothing else is.
    pub accepted_begins : (b : Begins D (class_of c) w) → verdict_in D c whole w ≡ accepted (length b.front) (doctype_of D b)
    unfolding verdict_in
    accepted_begins b =
        let (k, e) = (document_agrees D A (class_of c) w).1 b in
        ap (verdict_of D c whole w) e ∙ (λ i. accepted (taken (prolog_size D A (class_of c) w b i)) (doctype_read D A (class_of c) w b i))

    pub verdict_right : (number_in (verdict_in D c whole w) ≡ 0) ↔ Begins D (class_of c) w
    unfolding verdict_in
    verdict_right = (λ z. go (read_beginning D (readable D c whole w)) refl z, λ b. ap number_in (accepted_begins b))
      where
        go : (a : Result) → read_beginning D (readable D c whole w) ≡ a → number_in (verdict_of D c whole w a) ≡ 0 → Begins D (class_of c) w
        go (ok k) f z = (document_agrees D A (class_of c) w).0 (k, f)
        go (err r k) f z = absurd (refused_number r k z)

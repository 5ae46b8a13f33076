-- What check_doctype and the scan promise of the division, from the theorems on it. Assumes nothing.
use mathlib.Core.List.{List}
use mathlib.Core.Path.{◌≡◌, subst}
use Prim.Native.Nat.{ℕ}
use lib.ListN.{take}
use Rattle.spec.specs.Grammar.Characters.{Text}
use Rattle.spec.specs.Grammar.Doctype.{doctypedecl}
use Rattle.spec.specs.Grammar.Names.{Dialect, AsciiNames}
use Rattle.spec.specs.Promises.{Accepted, Checks, ChecksDoctype, Covered, no_subset, has_subset, expected, Cuts}
use Rattle.spec.specs.Reading.Dtd.{check_doctype}
use Rattle.spec.specs.Reading.Scan.{Scan, scan}
use Rattle.spec.proofs.Division.Places.{divided, apart, one_division, cuts}
use Rattle.spec.proofs.Division.Scans.{cuts_without}

module _ (D : Dialect) (A : AsciiNames D) where
  -- a check of the DOCTYPE keeps the promise of the division
  pub doctype_promise : (w : List ℕ) (n : ℕ) → Checks (check_doctype D) (doctypedecl D) w n → ChecksDoctype D w n
  doctype_promise w n p = record {
    number = p.number;
    grammar = p.grammar;
    division = record {
      parted = (λ z. let (h, l) = p.grammar.0 z in (h, (divided D A w).0 l), λ (h, l). p.grammar.1 (h, (divided D A w).1 l));
      not_both = apart D A w;
      only_one = one_division D A w;
    };
  }

  -- of every front part the rule says what it must
  pub cuts_covered : (t : List ℕ) (c : Covered D t) (cut : ℕ) → scan (take cut t) ≡ expected D c cut
  cuts_covered t (no_subset f) cut = cuts_without D A t f cut
  cuts_covered t (has_subset d p) cut = cuts D A t d p cut

  -- whoever says what the rule says keeps the promise of the cuts
  pub cuts_promise : (w : List ℕ) (Says : Scan → Type 0) → (Accepted Text w → Says (scan w)) → Cuts D w Says
  cuts_promise w Says says t cut e a c = subst Says (rw e (cuts_covered t c cut)) (says a)

-- The XML declaration by its parts: up to its version, and after it; and how it begins. Assumes nothing.
use mathlib.Core.Path.{◌≡◌, refl, sym, ap, ◌∙◌}
use mathlib.Core.Bool.{Bool, true, false, ◌||◌, or-false, or_assoc}
use mathlib.Core.List.{List}
use Prim.Native.Nat.{ℕ, ◌+◌}
use borrow.Author.Rules.{rules}
use lib.Dec.{eqb}
use lib.ListN.{drop}
use lib.Seq.{drop-drop}
use Rattle.std.specs.Prelude.{Option, Some, None, MatchOption, Ok, Err}
use Rattle.spec.specs.Grammar.Languages.{ascii, one_of}
use Rattle.spec.specs.Reading.Checks.{is_version_num, parse_eq_quoted, check_declaration}
use Rattle.spec.specs.Reading.Document.{is_declaration}
use Rattle.spec.specs.Reading.Dtd.{require_s}
use Rattle.spec.specs.Reading.Readers.{Result, ok, err, Reader, on_ok, past, ◌>>◌, starts, word, begins}
use Rattle.spec.specs.Reading.Refusals.{unexpected}
use Rattle.spec.specs.Reading.Utf8.{decode1}
use Rattle.spec.specs.Reading.Verdict.{read_version}
use Rattle.spec.proofs.Base.Sequences.{then_then}
use Rattle.spec.proofs.Base.Tests.{not-true, not-false}
use Rattle.error.specs.Read.{Said, said, read, placed, Answer}
use Rattle.error.specs.declared.Fault.{Fault}
use Rattle.error.proofs.Laws.{seq_no, seq_at}
use Rattle.search.proofs.Words.{word_fits}
use Rattle.utf8.specs.Seen.{seen}
use Rattle.utf8.specs.declared.Point.{Point}
use Rattle.utf8.proofs.Points.{begins_point, begins_none}
use Rattle.checks.specs.Pieces.{after_version}

then_alike : (A B C : Reader) → ((w : List ℕ) → B w ≡ C w) → (w : List ℕ) → (A >> B) w ≡ (A >> C) w
unfolding ◌>>◌
then_alike A B C f w = go (A w)
  where
    go : (x : Result) → on_ok x (λ k. past k (B (drop k w))) ≡ on_ok x (λ k. past k (C (drop k w)))
    go (ok k) = ap (past k) (f (drop k w))
    go (err n j) = refl

by_version : (w : List ℕ) → (read_version >> after_version) w ≡ check_declaration w
unfolding read_version check_declaration
by_version w =
    then_then (word "xml" unexpected) _ after_version w
    ∙ then_alike (word "xml" unexpected) _ _
    (λ x. then_then require_s _ after_version x
    ∙ then_alike require_s _ _ (λ y. then_then (word "version" unexpected) (parse_eq_quoted is_version_num) after_version y) x) w

module _ (s : List ℕ) (at : ℕ) (r : Answer) (a : said r ≡ read read_version s at) where
  whole : read (read_version >> after_version) s at ≡ read check_declaration s at
  unfolding read
  whole = ap (placed at) (by_version (drop at s))

  pub version_no : (x : Fault) → r ≡ Err x → said (Err x) ≡ read check_declaration s at
  version_no x e = seq_no read_version after_version s at x r a e ∙ whole

  pub version_at : (i : ℕ) (q : Said) → r ≡ Ok i → q ≡ read after_version s i → q ≡ read check_declaration s at
  version_at i q e b = seq_at read_version after_version s at i r q a e b ∙ whole

-- `among` ends with a test that always fails
pub target_signs : (c : ℕ) → eqb c 32 || eqb c 9 || eqb c 13 || eqb c 10 || eqb c 63 ≡ one_of " \t\r\n?" c
target_signs c = simp (or-false, or_assoc)

-- a declaration begins: t whether "<?xml" stands there, p the code point after it
module _ (s : List ℕ) (at : ℕ) (t : Bool) (a : t ≡ starts (ascii "<?xml") (drop at s)) where
  pub declared_no : t ≡ false → false ≡ is_declaration (drop at s)
  unfolding is_declaration
  declared_no f = rw (sym a ∙ f)

  -- x is what the closure answers of the code point after it, or false where there is none
  pub declared_is : (r : Option Point) (P : Point → Type 0) (x : Bool) → t ≡ true → seen r ≡ decode1 (drop (at + 5) s) → MatchOption r (x ≡ false) P → ((p : Point) → P p → x ≡ one_of " \t\r\n?" p.code) → x ≡ is_declaration (drop at s)
  unfolding is_declaration
  declared_is r P x f b m g = go r refl m ∙ (rw (sym a ∙ f, drop-drop))
    where
      go : (o : Option Point) → r ≡ o → MatchOption o (x ≡ false) P → x ≡ begins (one_of " \t\r\n?") (drop (at + 5) s)
      go None e n = n ∙ begins_none s (at + 5) r b e (one_of " \t\r\n?")
      go (Some p) e q = begins_point s (at + 5) r p b e (one_of " \t\r\n?") x (g p q)

-- what the functions search
pub ruleset versions = (version_no, version_at, rules)

pub ruleset beginning = (target_signs, declared_no, word_fits, not-true, not-false, rules)

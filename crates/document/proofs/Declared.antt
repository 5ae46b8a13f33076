-- Where an XML declaration begins, its first two signs are read before its text. Assumes nothing.
use mathlib.Core.Path.{◌≡◌, refl, sym, ap, ◌∙◌}
use mathlib.Core.Bool.{Bool, true}
use mathlib.Core.List.{List, ◌++◌}
use Prim.Native.Nat.{ℕ, ◌+◌, ◌^◌, ◌<◌}
use native.Mathlib.Omega.{arith}
use borrow.Author.Tests.{not-true, not-false}
use mir.Syntax.{w64}
use mir.Val.{Fits}
use lib.ListN.{length, drop, length-drop}
use Rattle.spec.specs.Grammar.Languages.{ascii, one_of}
use Rattle.spec.specs.Reading.Document.{is_declaration}
use Rattle.spec.specs.Reading.Readers.{Reader, ◌>>◌, starts, choose, begins, word_of}
use Rattle.spec.specs.Reading.Refusals.{Refusal}
use Rattle.spec.proofs.Agreement.Words.{starts_split}
use Rattle.spec.proofs.Base.Tests.{and_left}
use Rattle.error.specs.Read.{Said, read}
use Rattle.error.proofs.Laws.{choose_yes}
use Rattle.search.proofs.Words.{word_then, by_words}

-- where one begins, "<?" stands, and what B reads comes after it
module _ (s : List ℕ) (at : ℕ) (b : Bool) (e : b ≡ is_declaration (drop at s)) (f : b ≡ true) where
  named : (v : List ℕ) × (drop at s ≡ ascii "<?xml" ++ v)
  unfolding is_declaration
  named = starts_split (ascii "<?xml") (drop at s) (and_left (starts (ascii "<?xml") (drop at s)) (begins (one_of " \t\r\n?") (drop 5 (drop at s))) (sym e ∙ f))

  pub declared_fits : length s < 2 ^ 64 → Fits w64 (at + 2)
  declared_fits h = let (v, g) = named in omega (arith, ap length g, length-drop at s)

  pub declared_then : (B C : Reader) (n : Refusal) (q : Said) → q ≡ read B s (at + 2) → q ≡ read (choose is_declaration (word_of (ascii "<?") n >> B) C) s at
  unfolding starts
  declared_then B C n q a =
      let (v, g) = named in
      choose_yes is_declaration (word_of (ascii "<?") n >> B) C s at b q e f (word_then (ascii "<?") s at true (rw g) n B q refl a)

-- what the declaration's readers search
pub ruleset declaring = (declared_fits, declared_then, not-true, not-false, by_words)

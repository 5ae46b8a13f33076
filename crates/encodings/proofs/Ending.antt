-- What the part that is read ends at. Assumes nothing.
use mathlib.Core.Path.{◌≡◌, refl, sym, ◌∙◌}
use mathlib.Core.Bool.{Bool, true, false, ◌&&◌, ◌||◌, or-true}
use mathlib.Core.List.{List}
use Prim.Native.Nat.{ℕ, suc, ◌+◌, ◌-◌, ◌<◌, ◌≤◌}
use native.Mathlib.Omega.{arith}
use borrow.Author.Rules.{rules}
use lib.Dec.{leb, ltb}
use lib.ListN.{length, drop}
use Rattle.std.specs.Prelude.{Option, Some, None}
use Rattle.spec.specs.Basics.{pick}
use Rattle.spec.specs.Grammar.Encodings.{class_of}
use Rattle.spec.specs.Reading.Document.{legal_length}
use Rattle.spec.specs.Reading.Refusals.{Refusal, too_long, not_utf8, unterminated, illegal_char}
use Rattle.spec.specs.Reading.Utf8.{decode1}
use Rattle.spec.specs.Reading.Verdict.{end_refusal}
use Rattle.spec.proofs.Base.Tests.{leb_yes, leb_no}
use Rattle.utf8.specs.Seen.{seen}
use Rattle.utf8.specs.declared.Point.{Point}
use Rattle.utf8.proofs.Points.{code_at, none_at}
use Rattle.encodings.specs.Codings.{of}
use Rattle.encodings.specs.Ends.{strange_at}
use Rattle.encodings.specs.declared.codings.Coding.{Coding}
use Rattle.encodings.specs.declared.codings.Coding.TheVariants.{Utf8, Bytes, Foreign}

-- what stands at a place: r is the code point there, if one does
module _ (w : List ℕ) (at : ℕ) (coding : Coding) (r : Option Point) (a : seen r ≡ decode1 (drop at w)) where
  pub strange_none : r ≡ None → not_utf8 ≡ strange_at (of coding) at w
  unfolding strange_at
  strange_none b = rw (none_at w at r a b)

  module _ (p : Point) (b : r ≡ Some p) where
    pub strange_utf8 : coding ≡ Utf8 → illegal_char ≡ strange_at (of coding) at w
    unfolding strange_at of
    strange_utf8 e = rw (code_at w at r p a b, e)

    pub strange_ascii : coding ≡ Bytes → p.code < 128 → illegal_char ≡ strange_at (of coding) at w
    unfolding strange_at of
    strange_ascii e h = rw (code_at w at r p a b, e, leb_yes (suc p.code) 128 h)

    pub strange_bytes : coding ≡ Bytes → 128 ≤ p.code → not_utf8 ≡ strange_at (of coding) at w
    unfolding strange_at of
    strange_bytes e h = rw (code_at w at r p a b, e, leb_no (suc p.code) 128 (omega arith))

    pub strange_foreign : coding ≡ Foreign → not_utf8 ≡ strange_at (of coding) at w
    unfolding strange_at of
    strange_foreign e = rw (code_at w at r p a b, e)

pub cut_yes : (whole : Bool) → whole ≡ true → unterminated ≡ pick whole unterminated too_long
cut_yes whole e = rw e

pub cut_no : (whole : Bool) → whole ≡ false → too_long ≡ pick whole unterminated too_long
cut_no whole e = rw e

-- at the end of the part that is read, as the code asks: n is the refusal
module _ (w : List ℕ) (at : ℕ) (coding : Coding) (whole : Bool) (n : Refusal) where
  -- the two tests of end_refusal
  judged : (x y : Bool) → ltb at (length w) ≡ x → leb (at + 4) (length w) ≡ y → at ≡ legal_length (class_of (of coding)) w
      → end_refusal (of coding) whole w ≡ pick (x && (whole || y)) (strange_at (of coding) at w) (pick whole unterminated too_long)
  unfolding end_refusal strange_at
  judged x y f g e = rw (← e, f, g)

  pub end_through : length w ≤ at → n ≡ pick whole unterminated too_long → at ≡ legal_length (class_of (of coding)) w → n ≡ end_refusal (of coding) whole w
  end_through h a e = a ∙ (sym (judged false false (leb_no (suc at) (length w) (omega arith)) (leb_no (at + 4) (length w) (omega arith)) e))

  pub end_cut : at < length w → whole ≡ false → length w - at < 4 → n ≡ pick whole unterminated too_long → at ≡ legal_length (class_of (of coding)) w → n ≡ end_refusal (of coding) whole w
  end_cut h f g a e = let y = leb_no (at + 4) (length w) (omega arith) in rw (judged true false (leb_yes (suc at) (length w) h) y e, f) (rw f at a)

  pub end_strange : at < length w → n ≡ strange_at (of coding) at w → whole ≡ true → at ≡ legal_length (class_of (of coding)) w → n ≡ end_refusal (of coding) whole w
  end_strange h a f e = rw (judged true (leb (at + 4) (length w)) (leb_yes (suc at) (length w) h) refl e, f) a

  pub end_inside : at < length w → 4 ≤ length w - at → n ≡ strange_at (of coding) at w → at ≡ legal_length (class_of (of coding)) w → n ≡ end_refusal (of coding) whole w
  end_inside h g a e = let y = leb_yes (at + 4) (length w) (omega arith) in rw (judged true true (leb_yes (suc at) (length w) h) y e, or-true whole) a

-- what the functions search
pub ruleset strange = (strange_none, strange_utf8, strange_ascii, strange_bytes, strange_foreign, rules)

pub ruleset ending = (cut_yes, cut_no, end_through, end_cut, end_strange, end_inside, rules)

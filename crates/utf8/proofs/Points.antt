-- Laws of a code point at a place, for callers: what the code's answer says, and whether a character of a class begins there. Assumes
-- nothing.
use mathlib.Core.Path.{◌≡◌, sym, ap, ◌∙◌}
use mathlib.Core.Bool.{Bool, false}
use mathlib.Core.List.{List}
use Prim.Native.Nat.{ℕ, ◌+◌, ◌-◌, ◌^◌, ◌<◌, ◌≤◌}
use native.Mathlib.Omega.{arith}
use Rattle.std.proofs.Common.{Option, Some, None}
use mir.Syntax.{w64}
use mir.Val.{Fits}
use lib.ListN.{length, drop, length-drop}
use Rattle.spec.specs.Reading.Utf8.{point, no_point, decode1}
use Rattle.spec.specs.Reading.Readers.{begins}
use Rattle.spec.proofs.Characters.Utf8.{point_size}
use Rattle.utf8.specs.Seen.{seen}
use Rattle.utf8.specs.declared.Point.{Point}

module _ (s : List ℕ) (i : ℕ) (o : Option Point) (p : Point) (a : seen o ≡ decode1 (drop i s)) (b : o ≡ Some p) where
  pub code_at : decode1 (drop i s) ≡ point p.code p.width
  unfolding seen
  code_at = sym a ∙ ap seen b

  -- its bytes, one or more, stand in the text
  pub point_in : (1 ≤ p.width) × (p.width ≤ length s - i)
  point_in = simp length-drop at (point_size p.code p.width (drop i s) code_at)

  pub point_end : i + p.width ≤ length s
  point_end = let v = point_in in omega arith

  pub point_fits : length s < 2 ^ 64 → Fits w64 (i + p.width)
  point_fits g = let v = point_end in omega arith

  pub point_less : length s - (i + p.width) < length s - i
  point_less = let v = point_in in omega arith

  -- whether a character of a class begins there
  pub begins_point : (P : ℕ → Bool) (t : Bool) → t ≡ P p.code → t ≡ begins P (drop i s)
  unfolding begins
  begins_point P t e = rw code_at e

module _ (s : List ℕ) (i : ℕ) (o : Option Point) (a : seen o ≡ decode1 (drop i s)) (b : o ≡ None) where
  pub none_at : decode1 (drop i s) ≡ no_point
  unfolding seen
  none_at = sym a ∙ ap seen b

  pub begins_none : (P : ℕ → Bool) → false ≡ begins P (drop i s)
  unfolding begins
  begins_none P = rw none_at

-- what a walk over code points searches
pub ruleset points = (point_end, point_fits, point_less, begins_point, begins_none)

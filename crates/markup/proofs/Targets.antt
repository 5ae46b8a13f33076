-- The target of a processing instruction, by the part that the name reader gives. Assumes nothing.
use mathlib.Core.Path.{◌≡◌, refl, sym, ap, ◌∙◌}
use mathlib.Core.Bool.{Bool, true, false, cond, ◌&&◌, ◌||◌, true≢false, or-true}
use mathlib.Core.List.{List, [], ◌∷◌, map}
use Prim.Native.Nat.{ℕ, suc, ◌+◌, ◌<◌, ◌≤◌}
use native.Mathlib.Nat.{add-zero}
use native.Mathlib.Omega.{arith}
use lib.Dec.{eqb, ltb}
use lib.ListN.{length, get_or, drop}
use lib.Seq.{drop-drop}
use denote.Ref.{Bor}
use Rattle.std.specs.Prelude.{Option, Some, None, Ok, Err, IsTrue, MatchOption, ◌↔◌}
use Rattle.std.specs.Char.{to_ascii_lowercase}
use Rattle.std.specs.Slice.{IsItemAt}
use Rattle.spec.specs.Grammar.Characters.{space}
use Rattle.spec.specs.Grammar.Languages.{ascii, one_of, none_of}
use Rattle.spec.specs.Reading.Refusals.{bad_name, has_colon, reserved_target}
use Rattle.spec.specs.Reading.Readers.{run, before}
use Rattle.spec.specs.Reading.Wellformed.{name_length}
use Rattle.spec.specs.Reading.Dtd.{reserved, check_pi}
use Rattle.spec.proofs.Base.Places.{drop_at, drop_end}
use Rattle.spec.proofs.Base.Tests.{eqb-true, eqb_yes, and_left, and_right}
use Rattle.spec.proofs.Dtd.Targets.{judged, pi_unnamed, pi_broken, pi_named}
use Rattle.error.specs.Read.{said, read, refused}
use Rattle.error.specs.declared.Fault.{Fault}
use Rattle.classes.specs.Classes.{dialect}
use Rattle.classes.specs.declared.Names.{Names}
use Rattle.classes.proofs.ClassLaws.{dialect_ascii}
use Rattle.search.specs.FirstPlace.{first_place}
use Rattle.search.specs.Places.{found}
use Rattle.search.proofs.Finding.{was_nowhere, was_here}
use Rattle.names.specs.NamePart.{NamePart}
use Rattle.names.proofs.PlaceLaws.{part_length}
use Rattle.cursor.proofs.Parts.{name_fits, colon_fits}
use Rattle.markup.specs.Targets.{target_ends}

-- whether a target ends at a place
ends_over : (w : List ℕ) (at : ℕ) → length w ≤ at → true ≡ target_ends (drop at w)
unfolding target_ends
ends_over w at h = rw (drop_end w at h)

ends_by : (w : List ℕ) (at : ℕ) (b : Bool) → at < length w → b ≡ space (get_or w at 0) → b ≡ target_ends (drop at w)
unfolding target_ends
ends_by w at b h e = e ∙ (rw (drop_at w at h))

-- r is what `get` lends there, and P what is said of the byte
pub ends_get : (w : List ℕ) (at : ℕ) (r : Option (Bor ℕ)) (P : Bor ℕ → Type 0) (b : Bool) → IsItemAt w at r → MatchOption r (IsTrue b) P → ((x : Bor ℕ) → P x → b ≡ space x.now) → b ≡ target_ends (drop at w)
ends_get w at (Some x) P b g m f =
    let v : x.now ≡ get_or w at 0 = g.4 (omega arith) 0 in
    ends_by w at b g.3.0 (f x m ∙ ap space v)
ends_get w at None P b g m f = m ∙ ends_over w at g.3

-- and how many bytes are no white space there
ended : (w : List ℕ) → target_ends w ≡ true → run (none_of " \t\r\n") w ≡ 0
unfolding target_ends run
ended [] e = refl
ended (b ∷ w) e = rw e

unended : (w : List ℕ) → target_ends w ≡ false → run (none_of " \t\r\n") w ≡ 0 → ⊥
unfolding target_ends run
unended [] e z = true≢false e
unended (b ∷ w) e z = let f : suc (run (none_of " \t\r\n") w) ≡ 0 = (rw e at z) in omega arith

-- p is the part that the name reader gives at a place
module _ (names : Names) (s p : List ℕ) (at : ℕ) (n : NamePart (dialect names) (drop at s) p) where
  size : length p ≡ name_length (dialect names) (drop at s)
  size = part_length (dialect names) s at p n.part

  pub target_unnamed : (x : Fault) → length p ≡ 0 → said (Err x) ≡ refused bad_name at → said (Err x) ≡ read (check_pi (dialect names)) s at
  unfolding read
  target_unnamed x z e = e ∙ (rw (pi_unnamed (dialect names) (dialect_ascii names) (drop at s) (sym size ∙ z), add-zero))

  -- it is a name; b says whether the target ends with it
  module _ (b : Bool) (e : b ≡ target_ends (drop (at + length p) s)) (z : length p ≡ 0 → ⊥) where
    after : drop (name_length (dialect names) (drop at s)) (drop at s) ≡ drop (at + length p) s
    after = ap (λ (k : ℕ). drop k (drop at s)) (sym size) ∙ drop-drop (length p) at s

    pub target_broken : (x : Fault) → b ≡ false → said (Err x) ≡ refused bad_name (at + length p) → said (Err x) ≡ read (check_pi (dialect names)) s at
    unfolding read
    target_broken x f g =
        g ∙ (rw (pi_broken (dialect names) (dialect_ascii names) (drop at s) (λ y. z (size ∙ y)) (λ y. unended (drop (at + length p) s) (sym e ∙ f) (ap (run (none_of " \t\r\n")) (sym after) ∙ y)), size))

    -- c is where a colon stands in it
    module _ (t : b ≡ true) (c : Option ℕ) (d : found c ≡ first_place (ascii ":") p 0) where
      whole : check_pi (dialect names) (drop at s) ≡ judged p
      whole =
          pi_named (dialect names) (dialect_ascii names) (drop at s) (λ y. z (size ∙ y)) (ap (run (none_of " \t\r\n")) after ∙ ended (drop (at + length p) s) (sym e ∙ t))
          ∙ ap judged (sym n.part)

      pub target_colon : (j : ℕ) (x : Fault) → c ≡ Some j → said (Err x) ≡ refused has_colon (at + j) → said (Err x) ≡ read (check_pi (dialect names)) s at
      unfolding read
      target_colon j x y f =
          let (i, l) = was_here (ascii ":") p 0 c d j y in
          let k : j ≡ before (ascii ":") p = omega arith in
          f ∙ (rw (whole, i, k))

      -- x says whether it is "xml"
      module _ (y : c ≡ None) (x : Bool) (i : x ≡ reserved p) where
        pub target_reserved : (e : Fault) → x ≡ true → said (Err e) ≡ refused reserved_target at → said (Err e) ≡ read (check_pi (dialect names)) s at
        unfolding read
        target_reserved e f g = g ∙ (rw (whole, was_nowhere (ascii ":") p 0 c d y, sym i ∙ f, add-zero))

        pub target_taken : x ≡ false → said (Ok at) ≡ read (check_pi (dialect names)) s at
        unfolding read said
        target_taken f = rw (whole, was_nowhere (ascii ":") p 0 c d y, sym i ∙ f, add-zero)

-- a letter in either case, by its small one
small_of : (u l b : ℕ) → to_ascii_lowercase u ≡ l → to_ascii_lowercase l ≡ l → eqb b u || (eqb b l || false) ≡ true → to_ascii_lowercase b ≡ l
small_of u l b e f g = go (eqb b u) refl (eqb b l) refl g
  where
    go : (x : Bool) → eqb b u ≡ x → (y : Bool) → eqb b l ≡ y → x || (y || false) ≡ true → to_ascii_lowercase b ≡ l
    go true d y c h = ap to_ascii_lowercase (eqb-true b u d) ∙ e
    go false d true c h = ap to_ascii_lowercase (eqb-true b l c) ∙ f
    go false d false c h = absurd (true≢false (sym h))

either_of : (u l b : ℕ) → u + 32 ≡ l → to_ascii_lowercase b ≡ l → eqb b u || (eqb b l || false) ≡ true
either_of u l b e f = by_low (ltb b 65) (ltb b 91) f
  where
    itself : b ≡ l → eqb b u || (eqb b l || false) ≡ true
    itself z = rw (eqb_yes b l z) (or-true (eqb b u))

    by_low : (x y : Bool) → cond x b (cond y (b + 32) b) ≡ l → eqb b u || (eqb b l || false) ≡ true
    by_low true y z = itself z
    by_low false true z = let c : b ≡ u = omega arith in rw (eqb_yes b u c)
    by_low false false z = itself z

-- the target "xml", as eq_ignore_ascii_case says it
small_xml : (w : List ℕ) → reserved w ≡ true → map to_ascii_lowercase w ≡ ascii "xml"
unfolding reserved
small_xml (x ∷ m ∷ l ∷ []) e =
    let f = and_left (one_of "Xx" x && one_of "Mm" m) (one_of "Ll" l) e in
    rw (small_of 0x58 0x78 x refl refl (and_left (one_of "Xx" x) (one_of "Mm" m) f), small_of 0x4D 0x6D m refl refl (and_right (one_of "Xx" x) (one_of "Mm" m) f), small_of 0x4C 0x6C l refl refl (and_right (one_of "Xx" x && one_of "Mm" m) (one_of "Ll" l) e))
small_xml [] e = absurd (true≢false (sym e))
small_xml (x ∷ []) e = absurd (true≢false (sym e))
small_xml (x ∷ m ∷ []) e = absurd (true≢false (sym e))
small_xml (x ∷ m ∷ l ∷ y ∷ ys) e = absurd (true≢false (sym e))

xml_small : (w : List ℕ) → map to_ascii_lowercase w ≡ ascii "xml" → reserved w ≡ true
unfolding reserved
xml_small (x ∷ m ∷ l ∷ []) e =
    let at : (i : ℕ) → get_or (map to_ascii_lowercase (x ∷ m ∷ l ∷ [])) i 0 ≡ get_or (ascii "xml") i 0 = λ i. ap (λ (v : List ℕ). get_or v i 0) e in
    rw (either_of 0x58 0x78 x refl (at 0), either_of 0x4D 0x6D m refl (at 1), either_of 0x4C 0x6C l refl (at 2))
xml_small [] e = absurd (omega (arith, ap length e))
xml_small (x ∷ []) e = absurd (omega (arith, ap length e))
xml_small (x ∷ m ∷ []) e = absurd (omega (arith, ap length e))
xml_small (x ∷ m ∷ l ∷ y ∷ ys) e = absurd (omega (arith, ap length e))

pub reserved_is : (w : List ℕ) (r : Bool) → IsTrue r ↔ (map to_ascii_lowercase w ≡ map to_ascii_lowercase (ascii "xml")) → r ≡ reserved w
reserved_is w true g = sym (xml_small w (g.0 refl))
reserved_is w false g = go (reserved w) refl
  where
    go : (t : Bool) → reserved w ≡ t → false ≡ t
    go false e = refl
    go true e = g.1 (small_xml w e)

-- what code over targets searches
pub ruleset targets = (target_unnamed, target_broken, target_colon, target_reserved, target_taken, name_fits, colon_fits)

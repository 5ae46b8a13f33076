-- Names at a place, by the part of the text that the call for a name gives. Assumes nothing.
use mathlib.Core.Path.{◌≡◌, sym, ap, ◌∙◌}
use mathlib.Core.List.{List}
use Prim.Native.Nat.{ℕ, ◌+◌, ◌-◌, ◌^◌, ◌<◌, ◌≤◌}
use native.Mathlib.Nat.{add-zero}
use native.Mathlib.Omega.{arith}
use borrow.Author.Rules.{rules}
use mir.Syntax.{w64}
use mir.Val.{Fits}
use lib.ListN.{length, take, drop, length-drop}
use lib.Seq.{length-take-le}
use Rattle.std.specs.Prelude.{Option, Some, None, Ok, Err}
use Rattle.spec.specs.Grammar.Languages.{ascii}
use Rattle.spec.specs.Grammar.Names.{Dialect}
use Rattle.spec.specs.Reading.Refusals.{bad_name, has_colon}
use Rattle.spec.specs.Reading.Readers.{ok, err, before}
use Rattle.spec.specs.Reading.Wellformed.{name, name_length}
use Rattle.spec.specs.Reading.Dtd.{ncname}
use Rattle.spec.proofs.Base.Results.{err_ok}
use Rattle.spec.proofs.Wellformed.LongestName.{name_within, name_read, name_unread, parts_ok}
use Rattle.error.specs.Read.{said, read, passed, refused, Answer}
use Rattle.error.specs.declared.Fault.{Fault}
use Rattle.error.proofs.Laws.{was_ok, was_err}
use Rattle.search.specs.FirstPlace.{first_place}
use Rattle.search.specs.Places.{found}
use Rattle.search.proofs.Finding.{was_nowhere, was_here, here_within, places_found}
use Rattle.names.specs.NamePart.{NamePart}
use Rattle.names.proofs.PlaceLaws.{part_length}
use Rattle.cursor.proofs.Spaces.{required_none, required_some}

-- p is the part at a place
module _ (D : Dialect) (s p : List ℕ) (at : ℕ) (n : NamePart D (drop at s) p) where
  size : length p ≡ name_length D (drop at s)
  size = part_length D s at p n.part

  -- it is empty where the reader refuses
  module _ (z : length p ≡ 0) where
    no_part : name D (drop at s) ≡ err bad_name 0
    no_part = name_unread D (drop at s) (sym size ∙ z)

    pub name_no : (x : Fault) → said (Err x) ≡ refused bad_name at → said (Err x) ≡ read (name D) s at
    unfolding read
    name_no x e = e ∙ (rw (no_part, add-zero))

  -- and else what the reader takes
  module _ (z : length p ≡ 0 → ⊥) where
    a_part : name D (drop at s) ≡ ok (length p)
    a_part = name_read D (drop at s) (λ y. z (size ∙ y)) ∙ ap ok (sym size)

    pub name_yes : said (Ok (at + length p)) ≡ read (name D) s at
    unfolding read said
    name_yes = rw a_part

    pub name_fits : length s < 2 ^ 64 → Fits w64 (at + length p)
    name_fits h = let v = simp length-drop at (name_within D (drop at s)) in let l = size in omega arith

    -- the place of the first colon in it, as r says, fits too (check_pi of markup goes by this)
    pub colon_fits : (r : Option ℕ) → found r ≡ first_place (ascii ":") p 0 → (j : ℕ) → r ≡ Some j → length s < 2 ^ 64 → Fits w64 (at + j)
    colon_fits r e j y h =
        let v = simp length-drop at (name_within D (drop at s)) in
        let l = size in
        omega (arith, here_within (ascii ":") p 0 r e j y)

-- a name stands at a place up to `end`, as r says
module _ (D : Dialect) (s : List ℕ) (at end : ℕ) (r : Answer) (a : said r ≡ read (name D) s at) (y : r ≡ Ok end) where
  a_name : (name D (drop at s) ≡ ok (end - at)) × ((at ≤ end) × (end ≤ length s))
  a_name =
      let (k, (f, g)) = was_ok (name D) s at end r a y in
      let l : name_length D (drop at s) ≡ k = (unfold name_length in (rw f)) in
      let z : k ≡ 0 → ⊥ = λ (z : k ≡ 0). err_ok bad_name k (sym (name_unread D (drop at s) (l ∙ z)) ∙ f) in
      let v = name_within D (drop at s) in
      let m : k ≡ end - at = omega arith in
      (f ∙ ap ok m, (omega arith, omega (arith, length-drop at s)))

  pub name_start : at ≤ end
  name_start = a_name.1.0

  pub name_inside : end ≤ length s
  name_inside = a_name.1.1

  -- the first colon in it, as c says
  module _ (c : Option ℕ) (e : found c ≡ first_place (ascii ":") (take (end - at) (drop at s)) 0) where
    module _ (j : ℕ) (h : c ≡ Some j) where
      pub colon_no : (x : Fault) → said (Err x) ≡ refused has_colon (at + j) → said (Err x) ≡ read (ncname D) s at
      unfolding read ncname
      colon_no x f =
          let (d, l) = was_here (ascii ":") (take (end - at) (drop at s)) 0 c e j h in
          let z : j ≡ before (ascii ":") (take (end - at) (drop at s)) = omega arith in
          f ∙ (rw (a_name.0, d, z))

      pub colon_inside : length s < 2 ^ 64 → Fits w64 (at + j)
      colon_inside f = omega (arith, name_start, name_inside, here_within (ascii ":") (take (end - at) (drop at s)) 0 c e j h, length-take-le {A = ℕ}, length-drop at s)

    pub colon_none : c ≡ None → said (Ok end) ≡ read (ncname D) s at
    unfolding read said ncname
    colon_none h =
        let l : end ≡ at + (end - at) = omega (arith, name_start) in
        ap passed l ∙ (rw (a_name.0, was_nowhere (ascii ":") (take (end - at) (drop at s)) 0 c e h))

-- and where none stands, there is none without a colon
pub no_ncname : (D : Dialect) (s : List ℕ) (at : ℕ) (x : Fault) (r : Answer) → said r ≡ read (name D) s at → r ≡ Err x → said (Err x) ≡ read (ncname D) s at
unfolding read ncname
no_ncname D s at x r a e = let (m, (j, (f, g))) = was_err (name D) s at x r a e in g ∙ (rw f)

-- what code over names searches
pub ruleset parted = (name_no, name_yes, name_fits, parts_ok, required_none, required_some, rules)

pub ruleset uncoloned = (name_start, name_inside, colon_no, colon_inside, colon_none, no_ncname, places_found, rules)

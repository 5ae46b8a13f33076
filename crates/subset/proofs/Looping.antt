-- The loop over the internal subset: an item by its first sign, and the items after it. Assumes nothing.
use mathlib.Core.Path.{◌≡◌, refl, sym, ap, ◌∙◌}
use mathlib.Core.Bool.{Bool, true, false, and-true}
use mathlib.Core.List.{List, [], ◌∷◌}
use Prim.Native.Nat.{ℕ, ◌+◌, ◌-◌, ◌<◌, ◌≤◌}
use native.Mathlib.Nat.{add-zero}
use native.Mathlib.Omega.{arith}
use borrow.Author.Rules.{rules}
use borrow.Author.Tests.{eq-eqb, ne_eqb}
use lib.Dec.{eqb}
use lib.ListN.{length, get_or, drop}
use Rattle.std.specs.Prelude.{Ok, Err}
use Rattle.spec.specs.Grammar.Characters.{space}
use Rattle.spec.specs.Grammar.Names.{Dialect}
use Rattle.spec.specs.Reading.Refusals.{unexpected, unterminated, too_deep}
use Rattle.spec.specs.Reading.Readers.{Reader, ◌>>◌, refuse, at_end, starts, choose, on, word_of, run}
use Rattle.spec.specs.Reading.Dtd.{skip_s, parse_pe_reference, parse_markup_decl, parse_internal_subset}
use Rattle.spec.proofs.Base.Loops.{Somes}
use Rattle.spec.proofs.Base.Places.{drop_at, drop_end}
use Rattle.spec.proofs.Dtd.Items.{item, items, items_turn, subset_items, some_reference, some_markup}
use Rattle.error.specs.Read.{Said, said, placed, read, Answer, refused}
use Rattle.error.specs.declared.Fault.{Fault}
use Rattle.error.proofs.Laws.{seq_no, seq_at, read_on, walk_less}

-- a sign stands at a place as the byte there says
sign_at : (a : ℕ) (s : List ℕ) (i b : ℕ) → i < length s → b ≡ get_or s i 0 → starts (a ∷ []) (drop i s) ≡ eqb b a
unfolding starts
sign_at a s i b l e = rw (drop_at s i l, e, and-true)

-- i is the place after white space at i₀
module _ (D : Dialect) (pe : Bool) (s : List ℕ) (i₀ i : ℕ) (W : Said) (inv : read (items D pe) s i₀ ≡ W) (h : i ≡ i₀ + run space (drop i₀ s)) where
  -- the item that stands there decides
  here : read (item D (items D) pe) s i ≡ W
  unfolding ◌>>◌ skip_s
  here =
      ap (read (item D (items D) pe) s) h ∙ read_on (item D (items D) pe) s i₀ (run space (drop i₀ s))
      ∙ ap (placed i₀) (sym (items_turn D pe (drop i₀ s))) ∙ (unfold read in inv)

  -- what R reads there takes a byte or more
  onward : (R : Reader) → Somes R → i < length s → (r : Answer) → said r ≡ read R s i → (j : ℕ) → r ≡ Ok j → length s - j < length s - i₀
  onward R some k r a j g = let l = walk_less R s i j r some k a g in omega arith

  -- where none of the three signs stands
  by_rest : starts (93 ∷ []) (drop i s) ≡ false → starts (37 ∷ []) (drop i s) ≡ false → starts (60 ∷ []) (drop i s) ≡ false → read (at_end unexpected >> refuse unterminated) s i ≡ W
  unfolding read item on choose
  by_rest n m f = (rw (n, m, f)) ∙ here

  -- no sign stands at the text's end
  ended : (a : ℕ) → length s ≤ i → starts (a ∷ []) (drop i s) ≡ false
  unfolding starts
  ended a l = rw (drop_end s i l)

  -- the byte b stands there
  module _ (b : ℕ) (k : i < length s) (e : b ≡ get_or s i 0) where
    is : (a : ℕ) → b ≡ a → starts (a ∷ []) (drop i s) ≡ true
    is a f = sign_at a s i b k e ∙ eq-eqb b a f

    isn't : (a : ℕ) → (b ≡ a → ⊥) → starts (a ∷ []) (drop i s) ≡ false
    isn't a f = sign_at a s i b k e ∙ ne_eqb b a f

    -- ']' closes the subset
    pub item_close : b ≡ 93 → said (Ok (i + 1)) ≡ W
    unfolding read said item on choose word_of
    item_close f = let y = is 93 f in (rw (y, y)) ∙ here

    -- a parameter-entity reference
    module _ (f : b ≡ 37) (r : Answer) (a : said r ≡ read (parse_pe_reference D) s i) where
      by_reference : read (parse_pe_reference D >> items D true) s i ≡ W
      unfolding read item on choose
      by_reference = (rw (isn't 93 (λ (z : b ≡ 93). omega arith), is 37 f)) ∙ here

      pub item_reference_no : (x : Fault) → r ≡ Err x → said (Err x) ≡ W
      item_reference_no x g = seq_no (parse_pe_reference D) (items D true) s i x r a g ∙ by_reference

      pub item_reference : (j : ℕ) → r ≡ Ok j → read (items D true) s j ≡ W
      item_reference j g = seq_at (parse_pe_reference D) (items D true) s i j r _ a g refl ∙ by_reference

      pub reference_less : (j : ℕ) → r ≡ Ok j → length s - j < length s - i₀
      reference_less j g = onward (parse_pe_reference D) (some_reference D) k r a j g

    -- a declaration, an instruction or a comment
    module _ (f : b ≡ 60) (r : Answer) (a : said r ≡ read (parse_markup_decl D too_deep pe) s i) where
      by_markup : read (parse_markup_decl D too_deep pe >> items D pe) s i ≡ W
      unfolding read item on choose
      by_markup = (rw (isn't 93 (λ (z : b ≡ 93). omega arith), isn't 37 (λ (z : b ≡ 37). omega arith), is 60 f)) ∙ here

      pub item_markup_no : (x : Fault) → r ≡ Err x → said (Err x) ≡ W
      item_markup_no x g = seq_no (parse_markup_decl D too_deep pe) (items D pe) s i x r a g ∙ by_markup

      pub item_markup : (j : ℕ) → r ≡ Ok j → read (items D pe) s j ≡ W
      item_markup j g = seq_at (parse_markup_decl D too_deep pe) (items D pe) s i j r _ a g refl ∙ by_markup

      pub markup_less : (j : ℕ) → r ≡ Ok j → length s - j < length s - i₀
      markup_less j g = onward (parse_markup_decl D too_deep pe) (some_markup D pe) k r a j g

    -- anything else
    pub item_other : (b ≡ 93 → ⊥) → (b ≡ 37 → ⊥) → (b ≡ 60 → ⊥) → (x : Fault) → said (Err x) ≡ refused unexpected i → said (Err x) ≡ W
    unfolding read ◌>>◌ at_end
    item_other n m f x g = g ∙ (rw (drop_at s i k, add-zero)) ∙ by_rest (isn't 93 n) (isn't 37 m) (isn't 60 f)

  -- the text's end
  pub item_none : length s ≤ i → (x : Fault) → said (Err x) ≡ refused unterminated i → said (Err x) ≡ W
  unfolding read ◌>>◌ at_end refuse
  item_none l x g = g ∙ (rw (drop_end s i l, add-zero)) ∙ by_rest (ended 93 l) (ended 37 l) (ended 60 l)

-- the subset is the items from its '[' on
pub subset_starts : (D : Dialect) (s : List ℕ) (at : ℕ) → read (items D false) s at ≡ read (parse_internal_subset D too_deep) s at
unfolding read
subset_starts D s at = ap (placed at) (sym (subset_items D (drop at s)))

pub ruleset looping = (item_close, item_none, subset_starts, rules)

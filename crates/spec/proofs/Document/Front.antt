-- What stands first in a text: a byte order mark, or the signs of UTF-16 and UTF-32. Assumes nothing.
use mathlib.Core.Bool.{Bool, true, false, true≢false}
use mathlib.Core.List.{List, [], ◌∷◌, ◌++◌}
use mathlib.Core.Path.{◌≡◌, refl, sym, ◌∙◌, ap}
use Prim.Native.Nat.{ℕ}
use lib.Dec.{eqb}
use Rattle.spec.specs.Grammar.Characters.{xml_char}
use Rattle.spec.specs.Grammar.Encodings.{goes_on, anything, narrow, looks_like}
use Rattle.spec.specs.Reading.Readers.{starts, begins}
use Rattle.spec.specs.Reading.Utf8.{decode4, decode1}
use Rattle.spec.specs.Reading.Verdict.{mark_length}
use Rattle.spec.proofs.Agreement.Words.{starts_split}
use Rattle.spec.proofs.Base.Tests.{T→true, no→false, and_left, and_right, eqb-true}

-- a byte order mark stands first, or none does
abbrev pub mark : List ℕ
mark = 0xEF ∷ 0xBB ∷ 0xBF ∷ []

pub data Marked (w : List ℕ) : Type 0 where
  marked : (x : List ℕ) → w ≡ mark ++ x → Marked w
  bare : starts mark w ≡ false → Marked w

pub mark_there : (w : List ℕ) → Marked w
mark_there w = go (starts mark w) refl
  where
    go : (t : Bool) → starts mark w ≡ t → Marked w
    go true e = let (x, f) = starts_split mark w e in marked x f
    go false e = bare e

pub no_mark : (w : List ℕ) → starts mark w ≡ false → mark_length w ≡ 0
unfolding mark_length
no_mark w e = rw e

-- a text begins with a character, and not with '<' and a byte 0
pub record Opens (w : List ℕ) : Type 0 where
  pub lead : begins xml_char w ≡ true
  pub second : (v : List ℕ) → w ≡ 0x3C ∷ 0 ∷ v → ⊥

-- so it does not look like UTF-16 or UTF-32
pub goes_split : (s w : List ℕ) → goes_on s anything w ≡ true → (v : List ℕ) × (w ≡ s ++ v)
goes_split [] w e = (w, refl)
goes_split (p ∷ s) [] e = absurd (true≢false (sym e))
goes_split (p ∷ s) (b ∷ w) e =
    let (v, f) = goes_split s w (and_right (eqb b p) (goes_on s anything w) e) in
    let g : b ≡ p = eqb-true b p (and_left (eqb b p) (goes_on s anything w) e) in
    (v, λ i. g i ∷ f i)

module _ (w : List ℕ) (o : Opens w) where
  not_so : (s : List ℕ) → ((v : List ℕ) → w ≡ s ++ v → ⊥) → goes_on s anything w ≡ false
  not_so s h = no→false (goes_on s anything w) (λ t. let (v, e) = goes_split s w (T→true (goes_on s anything w) t) in h v e)

  no_lead : (s : List ℕ) → ((v : List ℕ) → begins xml_char (s ++ v) ≡ false) → goes_on s anything w ≡ false
  no_lead s h = not_so s (λ v e. true≢false (sym o.lead ∙ ap (begins xml_char) e ∙ h v))

  pub opens_narrow : looks_like w ≡ narrow
  unfolding looks_like begins decode1 decode4 xml_char
  opens_narrow =
      rw (
        no_lead (0 ∷ 0 ∷ 0xFE ∷ 0xFF ∷ []) (λ v. refl),
        no_lead (0 ∷ 0 ∷ 0 ∷ 0x3C ∷ []) (λ v. refl),
        no_lead (0xFF ∷ 0xFE ∷ 0 ∷ 0 ∷ []) (λ v. refl),
        not_so (0x3C ∷ 0 ∷ 0 ∷ 0 ∷ []) (λ v e. o.second (0 ∷ 0 ∷ v) e),
        no_lead (0xFE ∷ 0xFF ∷ []) (λ v. refl),
        no_lead (0 ∷ 0x3C ∷ []) (λ v. refl),
        no_lead (0xFF ∷ 0xFE ∷ []) (λ v. refl),
        not_so (0x3C ∷ 0 ∷ []) o.second,
      )

-- and a byte order mark is not cut in it
pub uncut : (w v : List ℕ) → begins xml_char w ≡ true → starts mark w ≡ false → starts mark (w ++ v) ≡ false
unfolding starts begins decode1 decode4
uncut [] v l n = absurd (true≢false (sym l))
uncut (a ∷ []) v l n = no→false (starts mark (a ∷ v)) (λ t. cut (starts_split mark (a ∷ v) (T→true (starts mark (a ∷ v)) t)))
  where
    cut : (x : List ℕ) × (a ∷ v ≡ mark ++ x) → ⊥
    cut (x, e) =
        let f : a ≡ 0xEF = cc in
        true≢false (sym l ∙ (λ i. begins xml_char (f i ∷ [])))
uncut (a ∷ b ∷ []) v l n = no→false (starts mark (a ∷ b ∷ v)) (λ t. cut (starts_split mark (a ∷ b ∷ v) (T→true (starts mark (a ∷ b ∷ v)) t)))
  where
    cut : (x : List ℕ) × (a ∷ b ∷ v ≡ mark ++ x) → ⊥
    cut (x, e) =
        let f : a ≡ 0xEF = cc in
        let g : b ≡ 0xBB = cc in
        true≢false (sym l ∙ (λ i. begins xml_char (f i ∷ g i ∷ [])))
uncut (a ∷ b ∷ c ∷ w) v l n = n

-- A character of an ASCII class comes first just where its byte does. Assumes nothing.
use mathlib.Core.Logic
use mathlib.Core.Bool.{Bool, true, false}
use mathlib.Core.List.{List, [], ◌∷◌}
use mathlib.Core.Logic.{◌⊎◌}
use mathlib.Core.Path.{◌≡◌, refl, sym, ◌∙◌, ap}
use Prim.Native.Nat.{ℕ, suc, ◌<◌, ◌≤◌}
use Prim.Native.String.{String}
use native.Mathlib.Omega.{arith}
use lib.Dec.{T, ltb}
use lib.ListN.{get_or}
use Rattle.spec.specs.Basics.{pick}
use Rattle.spec.specs.Grammar.Languages.{ascii, one_of}
use Rattle.spec.specs.Reading.Readers.{of_point, begins}
use Rattle.spec.specs.Reading.Utf8.{Point, point, no_point, decode1}
use Rattle.spec.proofs.Agreement.Chars.{sign, kind_encode}
use Rattle.spec.proofs.Agreement.Runs.{among_ascii}
use Rattle.spec.proofs.Agreement.Signs.{kind}
use Rattle.spec.proofs.Base.Tests.{no→false, decide, leb_true, leb_false}
use Rattle.spec.proofs.Characters.Text.{all_ascii}
use Rattle.spec.proofs.Characters.Utf8.{decode_1, decode_read, Read}

module _ (s : String) (small : T (all_ascii (ascii s))) (none : one_of s 0 ≡ false) where
  high_not : (c : ℕ) → 128 ≤ c → one_of s c ≡ false
  high_not c h = no→false (one_of s c) (λ t. let l : c < 128 = among_ascii (ascii s) small c t in omega arith)

  pub begins_sign : (w : List ℕ) → begins (one_of s) w ≡ one_of s (get_or w 0 0)
  unfolding begins decode1
  begins_sign [] = sym none
  begins_sign (b ∷ w) = go (decide (ltb b 128))
    where
      high_point : (p : Point) → decode1 (b ∷ w) ≡ p → ltb b 128 ≡ false → of_point p (λ c k. one_of s c) false ≡ false
      high_point no_point e h = refl
      high_point (point c k) e h =
          let r : Read c k (b ∷ w) = decode_read c k (b ∷ w) e in
          let f : 128 ≡ sign c = (unfold kind in (sym (ap (λ (t : Bool). pick t b 128) h) ∙ ap kind r.split ∙ kind_encode c r.rest)) in
          high_not c (by (ltb c 128) refl f)
        where
          by : (t : Bool) → ltb c 128 ≡ t → 128 ≡ pick t c 128 → 128 ≤ c
          by true g f = omega arith
          by false g f = let l : 128 < suc c = leb_false (suc c) 128 g in omega arith

      go : (ltb b 128 ≡ true) ⊎ (ltb b 128 ≡ false) → begins (one_of s) (b ∷ w) ≡ one_of s b
      go (Logic.inl e) = rw (decode_1 b w (leb_true (suc b) 128 e))
      go (Logic.inr e) = let l : 128 < suc b = leb_false (suc b) 128 e in high_point (decode1 (b ∷ w)) refl e ∙ sym (high_not b (omega arith))

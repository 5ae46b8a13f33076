-- The suspect bytes: on a character's bytes the test of check_suspect_byte says whether it is a Char (production 2). Assumes nothing.
use mathlib.Core.Logic
use mathlib.Core.Bool.{true, false, ◌&&◌, ◌||◌, not, true≢false, or-true}
use mathlib.Core.List.{List, [], ◌∷◌, ◌++◌}
use mathlib.Core.Logic.{◌⊎◌, ⊎_elim}
use mathlib.Core.Path.{◌≡◌, refl, sym, ◌∙◌, ap}
use Prim.Native.Nat.{ℕ, suc, ◌+◌, ◌/◌, ◌%◌, ◌≤◌, ◌<◌}
use native.Mathlib.Omega.{arith}
use lib.Dec.{leb, eqb}
use Rattle.spec.specs.Basics.{within}
use Rattle.spec.specs.Grammar.Characters.{xml_char}
use Rattle.spec.specs.Grammar.Languages.{one_of}
use Rattle.spec.specs.Grammar.Utf8.{scalar, encode}
use Rattle.spec.specs.Reading.Readers.{starts}
use Rattle.spec.specs.Reading.Utf8.{tail}
use Rattle.spec.specs.Reading.Wellformed.{illegal_here}
use Rattle.spec.proofs.Agreement.Signs.{below, below_at}
use Rattle.spec.proofs.Base.Tests.{alike, alike_same, decide, leb_no, leb_true, leb_false, eqb_yes, eqb_no, eqb-true, within_yes, within_low, within_high, within_lo, within_hi}
use Rattle.spec.proofs.Characters.Utf8.{encode_1, encode_2, encode_3, encode_4, scalar_cases, Row, row_1, row_2, row_3, row_4, row_of}

-- the same, where no byte below 128 comes first: only U+FFFE and U+FFFF are left
high_here : (b : ℕ) (w : List ℕ) → 128 ≤ b → (b ≡ 0xEF → ⊥) → illegal_here (b ∷ w) ≡ false
unfolding illegal_here starts
high_here b w h n = rw (leb_no (suc b) 0x20 (omega arith), eqb_no b 0xEF n)

pub tail_legal : (b : ℕ) (w : List ℕ) → tail b ≡ true → illegal_here (b ∷ w) ≡ false
tail_legal b w h = let l = within_lo 0x80 0xBF b h in let g = within_hi 0x80 0xBF b h in high_here b w (omega arith) (λ e. omega arith)

-- production 2, by its ranges
low_char : (c : ℕ) → 0x20 ≤ c → c ≤ 0xD7FF → xml_char c ≡ true
unfolding xml_char
low_char c h g = rw (within_yes 0x20 0xD7FF c h g, or-true (one_of "\t\n\r" c))

mid_char : (c : ℕ) → 0xE000 ≤ c → c ≤ 0xFFFD → xml_char c ≡ true
unfolding xml_char
mid_char c h g = rw (within_yes 0xE000 0xFFFD c h g, or-true (one_of "\t\n\r" c || within 0x20 0xD7FF c))

high_char : (c : ℕ) → 0x10000 ≤ c → c ≤ 0x10FFFF → xml_char c ≡ true
unfolding xml_char
high_char c h g = rw (within_yes 0x10000 0x10FFFF c h g, or-true (one_of "\t\n\r" c || within 0x20 0xD7FF c || within 0xE000 0xFFFD c))

no_char : (c : ℕ) → 0xFFFE ≤ c → c ≤ 0xFFFF → xml_char c ≡ false
unfolding xml_char
no_char c h g =
    rw (eqb_no c 9 (λ e. omega arith), eqb_no c 10 (λ e. omega arith), eqb_no c 13 (λ e. omega arith), within_high 0x20 0xD7FF c (omega arith), within_high 0xE000 0xFFFD c (omega arith), within_low 0x10000 0x10FFFF c (omega arith))

-- below 128: a computed test of each sign
ascii_alike : below 128 (λ c. alike (illegal_here (c ∷ [])) (not (xml_char c))) ≡ true
unfolding illegal_here starts xml_char
ascii_alike = refl

ascii_here : (c : ℕ) (v : List ℕ) → c < 128 → illegal_here (c ∷ v) ≡ illegal_here (c ∷ [])
unfolding illegal_here starts
ascii_here c v h = rw (eqb_no c 0xEF (λ e. omega arith))

-- three bytes: EF BF BE and EF BF BF are those of U+FFFE and U+FFFF
three_here : (c : ℕ) (v : List ℕ) → 0x800 ≤ c → c < 0x10000 → scalar c ≡ true
    → illegal_here ((0xE0 + c / 4096) ∷ (0x80 + c / 64 % 64) ∷ (0x80 + c % 64) ∷ v) ≡ not (xml_char c)
unfolding illegal_here starts
three_here c v h g s = by_range (decide (leb 0xFFFE c))
  where
    a : ℕ
    a = 0xE0 + c / 4096

    b : ℕ
    b = 0x80 + c / 64 % 64

    d : ℕ
    d = 0x80 + c % 64

    legal : c < 0xFFFE → xml_char c ≡ true
    legal k = ⊎_elim (λ l. low_char c (omega arith) l) (λ l. mid_char c l.0 (omega arith)) (scalar_cases c s)

    not_here : (t : ℕ) → 0xBE ≤ t → c < 0xFFFE → (eqb a 0xEF && (eqb b 0xBF && (eqb d t && true))) ≡ false
    not_here t m k = go (decide (eqb a 0xEF)) (decide (eqb b 0xBF))
      where
        go : (eqb a 0xEF ≡ true) ⊎ (eqb a 0xEF ≡ false) → (eqb b 0xBF ≡ true) ⊎ (eqb b 0xBF ≡ false) → (eqb a 0xEF && (eqb b 0xBF && (eqb d t && true))) ≡ false
        go (Logic.inr x) y = rw x
        go (Logic.inl x) (Logic.inr y) = rw (x, y)
        go (Logic.inl x) (Logic.inl y) =
            let p : 0xE0 + c / 4096 ≡ 0xEF = eqb-true a 0xEF x in
            let q : 0x80 + c / 64 % 64 ≡ 0xBF = eqb-true b 0xBF y in
            rw (x, y, eqb_no d t (λ e. omega arith))

    by_range : (leb 0xFFFE c ≡ true) ⊎ (leb 0xFFFE c ≡ false) → illegal_here (a ∷ b ∷ d ∷ v) ≡ not (xml_char c)
    by_range (Logic.inr e) = let k = leb_false 0xFFFE c e in rw (leb_no (suc a) 0x20 (omega arith), not_here 0xBE (omega arith) k, not_here 0xBF (omega arith) k, legal k)
    by_range (Logic.inl e) =
        let k : 0xFFFE ≤ c = leb_true 0xFFFE c e in
        let f : illegal_here (a ∷ b ∷ d ∷ v) ≡ (eqb d 0xBE && true || eqb d 0xBF && true) = rw (leb_no (suc a) 0x20 (omega arith), eqb_yes a 0xEF (omega arith), eqb_yes b 0xBF (omega arith)) in
        f ∙ last (decide (eqb d 0xBE)) k ∙ ap not (sym (no_char c k (omega arith)))
      where
        last : (eqb d 0xBE ≡ true) ⊎ (eqb d 0xBE ≡ false) → 0xFFFE ≤ c → (eqb d 0xBE && true || eqb d 0xBF && true) ≡ true
        last (Logic.inl x) k = rw x
        last (Logic.inr x) k = let n : d ≡ 0xBE → ⊥ = λ y. true≢false (sym (eqb_yes d 0xBE y) ∙ x) in rw (x, eqb_yes d 0xBF (omega arith))

-- on a character's bytes the test says whether it is a Char
pub legal_here : (c : ℕ) (v : List ℕ) → scalar c ≡ true → illegal_here (encode c ++ v) ≡ not (xml_char c)
legal_here c v s = go (row_of c)
  where
    go : Row c → illegal_here (encode c ++ v) ≡ not (xml_char c)
    go (row_1 g) =
        rw (encode_1 c g) (ascii_here c v g ∙ alike_same (illegal_here (c ∷ [])) (not (xml_char c)) (below_at 128 (λ c. alike (illegal_here (c ∷ [])) (not (xml_char c))) ascii_alike c g))
    go (row_2 h g) = rw (encode_2 c h g) (high_here (0xC0 + c / 64) _ (omega arith) (λ e. omega arith) ∙ ap not (sym (low_char c (omega arith) (omega arith))))
    go (row_3 h g) = rw (encode_3 c h g) (three_here c v h g s)
    go (row_4 h) =
        let m : c ≤ 0x10FFFF = ⊎_elim (λ l. omega arith) (λ l. l.1) (scalar_cases c s) in
        rw (encode_4 c h) (high_here (0xF0 + c / 262144) _ (omega arith) (λ e. omega arith) ∙ ap not (sym (high_char c h m)))

-- The three values of an XML declaration: each test holds of just the texts that its production derives. Assumes nothing.
use mathlib.Core.Bool.{Bool, true, false, ◌&&◌, ◌||◌, true≢false}
use mathlib.Core.List.{List, [], ◌∷◌, ◌++◌, append-nil}
use mathlib.Core.Logic.{⊎_elim}
use mathlib.Core.Path.{◌≡◌, refl, sym, ◌∙◌, ap, subst}
use Prim.Native.Nat.{ℕ, ◌+◌, ◌<◌}
use native.Mathlib.Omega.{arith}
use lib.Dec.{T, eqb, ltb}
use lib.ListN.{length, drop, length-append, drop_of_length-le}
use Rattle.spec.specs.Basics.{within}
use Rattle.spec.specs.Grammar.Characters.{Text, latin_letter}
use Rattle.spec.specs.Grammar.Languages.{Lang, lit, ascii, Ch, ◌·◌, ◌∣◌, inl, inr, Star, Plus, any, one_of}
use Rattle.spec.specs.Grammar.References.{digit}
use Rattle.spec.specs.Grammar.XmlDecl.{VersionNum, enc_char, EncName}
use Rattle.spec.specs.Reading.Checks.{all_of, is_version_num, is_enc_name, is_yes_or_no}
use Rattle.spec.specs.Reading.Readers.{starts, run}
use Rattle.spec.proofs.Agreement.Accepts.{Decides}
use Rattle.spec.proofs.Agreement.Chars.{ch_some}
use Rattle.spec.proofs.Agreement.Runs.{among_ascii, whole_run, run_whole, star_plus, Small, small_or, small_within}
use Rattle.spec.proofs.Agreement.Texts.{texts_cat, texts_star, texts_lit, texts_ch, texts_either, texts_plus}
use Rattle.spec.proofs.Agreement.Words.{starts_split}
use Rattle.spec.proofs.Base.Tests.{T→true, true→T, leb_yes, leb_true, eqb-true, eqb_yes, and_left, and_right, or_cases}
use Rattle.spec.proofs.Characters.Bytes.{avoids, class_avoids}
use Rattle.spec.proofs.Characters.Text.{ascii_char, ascii_text, star_one, text_rest, cat_size, plus_star}
use Rattle.spec.proofs.Characters.Utf8.{encode_1}
use Rattle.spec.proofs.Wellformed.References.{Avoiding, avoiding_cat, avoiding_lit, plus_avoiding, digit_ascii}

-- what may stand between the quote marks: a test that decides a language, and neither mark stands in it, so that the first mark
-- after the opening one is the closing one
pub record Value (test : List ℕ → Bool) (L : Lang) : Type 0 where
  pub decides : Decides test L
  pub no_double : Avoiding 34 L
  pub no_single : Avoiding 39 L

letter_ascii : Small latin_letter
letter_ascii = small_or (within 0x41 0x5A) (within 0x61 0x7A) (small_within 0x41 0x5A (omega arith)) (small_within 0x61 0x7A (omega arith))

enc_ascii : Small enc_char
enc_ascii = small_or (λ c. latin_letter c || digit c) (one_of "._-") (small_or latin_letter digit letter_ascii digit_ascii) (among_ascii (ascii "._-") tt)

-- a text of one class
all_star : (p : ℕ → Bool) → Small p → (w : List ℕ) → Text w → all_of p w ≡ true → Star (Ch p) w
unfolding all_of
all_star p small w t e = whole_run p small w t (eqb-true (run p w) (length w) e)

star_all : (p : ℕ → Bool) → Small p → p 129 ≡ false → {w : List ℕ} → Star (Ch p) w → all_of p w ≡ true
unfolding all_of
star_all p small n {w} s = eqb_yes (run p w) (length w) (run_whole p small n s)

plus_all : (p : ℕ → Bool) → Small p → p 129 ≡ false → {w : List ℕ} → Plus (Ch p) w → (ltb 0 (length w) && all_of p w) ≡ true
plus_all p small n {w} c =
    let z : 0 < length c.left = ch_some c.left c.first in
    let l : length w ≡ length c.left + length c.right = cat_size c in
    rw (leb_yes 1 (length w) (omega arith)) (star_all p small n (plus_star c))

-- VersionNum
version_decides : Decides is_version_num VersionNum
unfolding is_version_num VersionNum Text starts
version_decides = record { answer = λ w t. (yes w t, no w); text = texts_cat (texts_lit "1." tt) (texts_plus digit) }
  where
    rest : List ℕ → Bool
    rest v = ltb 0 (length v) && all_of digit v

    yes : (w : List ℕ) → Text w → (starts (ascii "1.") w && rest (drop 2 w)) ≡ true → VersionNum w
    yes w t e =
        let (v, f) = starts_split (ascii "1.") w (and_left (starts (ascii "1.") w) (rest (drop 2 w)) e) in
        let g : rest v ≡ true = ap (λ (x : List ℕ). rest (drop 2 x)) (sym f) ∙ and_right (starts (ascii "1.") w) (rest (drop 2 w)) e in
        let tv : Text v = text_rest v (ascii_text (ascii "1.") tt) (subst Text f t) in
        record {
          left = ascii "1.";
          right = v;
          split = f;
          first = refl;
          second = star_plus (all_star digit digit_ascii v tv (and_right (ltb 0 (length v)) (all_of digit v) g)) (leb_true 1 (length v) (and_left (ltb 0 (length v)) (all_of digit v) g));
        }

    no : (w : List ℕ) → VersionNum w → (starts (ascii "1.") w && rest (drop 2 w)) ≡ true
    no w c = ap (λ (x : List ℕ). starts (ascii "1.") x && rest (drop 2 x)) (c.split ∙ ap (λ (x : List ℕ). x ++ c.right) c.first) ∙ plus_all digit digit_ascii refl c.second

pub version_value : Value is_version_num VersionNum
unfolding VersionNum
version_value = record { decides = version_decides; no_double = free 34 (omega arith) refl refl; no_single = free 39 (omega arith) refl refl }
  where
    free : (a : ℕ) → a < 128 → avoids a (ascii "1.") ≡ true → digit a ≡ false → Avoiding a (lit "1." · Plus (Ch digit))
    free a l h n = avoiding_cat a (avoiding_lit a "1." h) (plus_avoiding a digit l n)

-- EncName
enc_decides : Decides is_enc_name EncName
unfolding is_enc_name EncName Text
enc_decides = record { answer = λ w t. (yes w t, no w); text = texts_cat (texts_ch latin_letter) (texts_star (texts_ch enc_char)) }
  where
    yes : (w : List ℕ) → Text w → is_enc_name w ≡ true → EncName w
    yes [] t e = absurd (true≢false (sym e))
    yes (b ∷ w) t e =
        let l : T (latin_letter b) = true→T (latin_letter b) (and_left (latin_letter b) (all_of enc_char w) e) in
        let h : b < 128 = letter_ascii b l in
        record {
          left = b ∷ [];
          right = w;
          split = refl;
          first = ascii_char latin_letter b h l;
          second = all_star enc_char enc_ascii w (text_rest w (star_one (ascii_char any b h tt)) t) (and_right (latin_letter b) (all_of enc_char w) e);
        }

    no : (w : List ℕ) → EncName w → is_enc_name w ≡ true
    no w c =
        let b : Ch latin_letter c.left = c.first in
        let e : c.left ≡ b.char ∷ [] = b.bytes ∙ encode_1 b.char (letter_ascii b.char b.in_class) in
        ap is_enc_name (c.split ∙ ap (λ (x : List ℕ). x ++ c.right) e) ∙ rw (T→true (latin_letter b.char) b.in_class) (star_all enc_char enc_ascii refl c.second)

pub enc_value : Value is_enc_name EncName
unfolding EncName
enc_value = record { decides = enc_decides; no_double = free 34 (omega arith) refl refl; no_single = free 39 (omega arith) refl refl }
  where
    free : (a : ℕ) → a < 128 → latin_letter a ≡ false → enc_char a ≡ false → Avoiding a (Ch latin_letter · Star (Ch enc_char))
    free a l n m = avoiding_cat a (λ u c. class_avoids latin_letter a l n (star_one c)) (λ u s. class_avoids enc_char a l m s)

-- a word and no more
is_word : (s w : List ℕ) → (starts s w && eqb (length w) (length s)) ≡ true → w ≡ s
is_word s w e =
    let (v, f) = starts_split s w (and_left (starts s w) (eqb (length w) (length s)) e) in
    let l : length w ≡ length s = eqb-true (length w) (length s) (and_right (starts s w) (eqb (length w) (length s)) e) in
    let m : length w ≡ length s + length v = ap length f ∙ length-append s v in
    f ∙ ap (λ (x : List ℕ). s ++ x) (drop_of_length-le v {i = 0} (omega arith)) ∙ append-nil s

-- 'yes' | 'no'
abbrev pub YesNo : Lang
YesNo = lit "yes" ∣ lit "no"

yes_no_decides : Decides is_yes_or_no YesNo
unfolding is_yes_or_no starts Text
yes_no_decides = record { answer = λ w t. (yes w, no w); text = texts_either (texts_lit "yes" tt) (texts_lit "no" tt) }
  where
    is_yes : List ℕ → Bool
    is_yes w = starts (ascii "yes") w && eqb (length w) 3

    is_no : List ℕ → Bool
    is_no w = starts (ascii "no") w && eqb (length w) 2

    yes : (w : List ℕ) → is_yes_or_no w ≡ true → YesNo w
    yes w e = ⊎_elim (λ f. inl (is_word (ascii "yes") w f)) (λ f. inr (is_word (ascii "no") w f)) (or_cases (is_yes w) (is_no w) e)

    no : (w : List ℕ) → YesNo w → is_yes_or_no w ≡ true
    no w (inl e) = ap is_yes_or_no e
    no w (inr e) = ap is_yes_or_no e

pub yes_no_value : Value is_yes_or_no YesNo
yes_no_value = record { decides = yes_no_decides; no_double = free 34 refl refl; no_single = free 39 refl refl }
  where
    free : (a : ℕ) → avoids a (ascii "yes") ≡ true → avoids a (ascii "no") ≡ true → Avoiding a YesNo
    free a h g u (inl e) = avoiding_lit a "yes" h u e
    free a h g u (inr e) = avoiding_lit a "no" g u e

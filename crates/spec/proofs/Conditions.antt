-- The limit of length and the ASCII name characters, from both sides: each row by a test. (The premise and what may stand before a DOCTYPE
-- are in `Rows`, which computes all tables whose tests read a text.) Assumes nothing.
use mathlib.Core.Bool.{Bool}
use mathlib.Core.List.{[], ◌∷◌}
use mathlib.Core.Path.{◌≡◌, refl, sym, ap, ◌∙◌}
use Prim.Native.Nat.{ℕ, zero, suc}
use mathlib.Core.Bool.{true}
use lib.Dec.{leb}
use lib.ListN.{length}
use Rattle.spec.specs.Basics.{limit}
use Rattle.spec.specs.Conditions.{letters, Size, Limited, sizes, Alphabet, Ascii, alphabets}
use Rattle.spec.specs.Grammar.AppendixB.{start_char, part_char, appendix_b}
use Rattle.spec.specs.Grammar.Characters.{xml_char, Chars}
use Rattle.spec.specs.Grammar.FifthEdition.{name_start_char, name_char}
use Rattle.spec.specs.Grammar.Languages.{end, more}
use Rattle.spec.specs.Grammar.Names.{Dialect, with_classes}
use Rattle.spec.specs.Grammar.Ranges.{in_table}
use Rattle.spec.specs.Grammar.Utf8.{encode}
use Rattle.spec.specs.Rows.{All}
use Rattle.spec.proofs.Base.Tables.{by_test}
use Rattle.spec.proofs.Base.Tests.{alike, alike_same, leb_true, leb_yes}
use Rattle.spec.proofs.Characters.AsciiNames.{ascii_test, ascii_names, ascii_passes}

-- lengths
length_letters : (n : ℕ) → length (letters n) ≡ n
unfolding letters
length_letters zero = refl
length_letters (suc n) = ap suc (length_letters n)

letters_chars : (n : ℕ) → Chars (letters n)
unfolding letters Chars xml_char encode
letters_chars zero = end refl
letters_chars (suc n) = more (0x61 ∷ []) (letters n) refl (record { char = 0x61; is_scalar = tt; in_class = tt; bytes = refl }) (letters_chars n)

abbrev fits : Size → Bool
fits s = alike (leb s.size limit) s.looked_at

limited : (s : Size) → fits s ≡ true → Limited s
limited s t =
    let e : leb s.size limit ≡ s.looked_at = alike_same (leb s.size limit) s.looked_at t in (
      λ z. (rw (length_letters s.size) (leb_true s.size limit (e ∙ z)), letters_chars s.size),
      λ (h, l). sym e ∙ leb_yes s.size limit (rw (length_letters s.size) at h),
    )

pub sizes_limited : All Limited sizes
sizes_limited = by_test fits limited sizes refl

-- name classes
abbrev spelled : Alphabet → Bool
spelled a = alike (ascii_test a.start a.part) a.has_ascii

spells : (a : Alphabet) → spelled a ≡ true → Ascii a
spells a t =
    let D : Dialect = with_classes appendix_b a.start a.part in
    let e : ascii_test a.start a.part ≡ a.has_ascii = alike_same (ascii_test a.start a.part) a.has_ascii t in
    (λ z. ascii_names D (e ∙ z), λ A. sym e ∙ ascii_passes D A)

pub alphabets_spelled : All Ascii alphabets
unfolding in_table start_char part_char name_start_char name_char
alphabets_spelled = by_test spelled spells alphabets refl

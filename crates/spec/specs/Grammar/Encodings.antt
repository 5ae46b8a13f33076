-- Which encodings a document may name: W3C XML 1.0, section 4.3.3 and appendix F. This is ours: what is read is read as UTF-8, so no
-- document is accepted that whoever follows would read otherwise. Assumes nothing.
use Rattle.std.specs.Prelude.{Bool, true, false, ◌&&◌, ◌||◌, List, [], ◌∷◌, ℕ, ◌+◌, eqb, ltb, length}
use Rattle.spec.specs.Basics.{pick, within}
use Rattle.spec.specs.Grammar.Characters.{xml_char}
use Rattle.spec.specs.Grammar.Languages.{lit, ascii, ◌·◌, inl, inr, Opt}
use Rattle.spec.specs.Grammar.Literals.{Quoted}
use Rattle.spec.specs.Grammar.XmlDecl.{EncName, EncodingDecl, XMLDecl}

-- the name of an encoding, and how many bytes stand before it; or none is named
pub data Encoding : Type 0 where
  unnamed : Encoding
  named : ℕ → List ℕ → Encoding

-- UTF-8 or a part of it; one that has ASCII's bytes for ASCII's characters, and others for others; any other
pub data Coding : Type 0 where
  in_utf8 in_bytes foreign : Coding

-- in small letters
abbrev pub small : List ℕ → List ℕ
small [] = []
small (b ∷ w) = pick (within 0x41 0x5A b) (b + 32) b ∷ small w

-- what stands after these bytes passes the test
abbrev pub goes_on : List ℕ → (List ℕ → Bool) → List ℕ → Bool
goes_on [] test w = test w
goes_on (p ∷ ps) test [] = false
goes_on (p ∷ ps) test (b ∷ w) = eqb b p && goes_on ps test w

abbrev pub no_more : List ℕ → Bool
no_more [] = true
no_more (b ∷ w) = false

-- the n of ISO-8859-n, 1 to 16, and that of windows-125n, 0 to 8
abbrev pub iso_part : List ℕ → Bool
iso_part [] = false
iso_part (d ∷ []) = within 0x31 0x39 d
iso_part (d ∷ e ∷ []) = eqb d 0x31 && within 0x30 0x36 e
iso_part (d ∷ e ∷ f ∷ w) = false

abbrev pub windows_part : List ℕ → Bool
windows_part [] = false
windows_part (d ∷ []) = within 0x30 0x38 d
windows_part (d ∷ e ∷ w) = false

-- the coding that a name stands for, in any case of letters
unfoldable pub coding_of : List ℕ → Coding
coding_of n =
    pick (goes_on (ascii "utf-8") no_more (small n) || goes_on (ascii "us-ascii") no_more (small n)) in_utf8
    (pick (goes_on (ascii "iso-8859-") iso_part (small n) || goes_on (ascii "windows-125") windows_part (small n)) in_bytes foreign)

abbrev pub coding_in : Encoding → Coding
coding_in unnamed = in_utf8
coding_in (named k n) = coding_of n

-- the characters that are read: all Chars; the Chars of ASCII; none
abbrev pub class_of : Coding → ℕ → Bool
class_of in_utf8 c = xml_char c
class_of in_bytes c = xml_char c && ltb c 0x80
class_of foreign c = false

-- the encoding that a derivation has, k bytes standing before the part of it that is given: [80], [23], and XMLDecl? between its marks
abbrev pub quoted_text : {w : List ℕ} → Quoted EncName EncName w → List ℕ
quoted_text (inl l) = l.second.left
quoted_text (inr l) = l.second.left

unfoldable pub encoding_decl : ℕ → {u : List ℕ} → Opt EncodingDecl u → Encoding
unfolding EncodingDecl
encoding_decl k (inl e) =
    named (k + (length e.left + (length e.second.left + length e.second.second.left)) + 1) (quoted_text e.second.second.second)
encoding_decl k (inr e) = unnamed

unfoldable pub encoding_xml : ℕ → (t : List ℕ) → XMLDecl t → Encoding
unfolding XMLDecl
encoding_xml k t x = encoding_decl (k + (length x.left + length x.second.left)) x.second.second.first

abbrev pub encoding_marked : {u : List ℕ} → Opt (lit "<?" · XMLDecl · lit "?>") u → Encoding
encoding_marked (inl l) = encoding_xml 2 l.second.left l.second.first
encoding_marked (inr e) = unnamed

-- Appendix F: UTF-16 and UTF-32 by their byte order mark, or by how they spell '<'
pub data Wide : Type 0 where
  narrow utf_16_be utf_16_le utf_32_be utf_32_le : Wide

abbrev pub anything : List ℕ → Bool
anything w = true

unfoldable pub looks_like : List ℕ → Wide
looks_like w =
    pick (goes_on (0 ∷ 0 ∷ 0xFE ∷ 0xFF ∷ []) anything w || goes_on (0 ∷ 0 ∷ 0 ∷ 0x3C ∷ []) anything w) utf_32_be
    (pick (goes_on (0xFF ∷ 0xFE ∷ 0 ∷ 0 ∷ []) anything w || goes_on (0x3C ∷ 0 ∷ 0 ∷ 0 ∷ []) anything w) utf_32_le
    (pick (goes_on (0xFE ∷ 0xFF ∷ []) anything w || goes_on (0 ∷ 0x3C ∷ []) anything w) utf_16_be
    (pick (goes_on (0xFF ∷ 0xFE ∷ []) anything w || goes_on (0x3C ∷ 0 ∷ []) anything w) utf_16_le narrow)))

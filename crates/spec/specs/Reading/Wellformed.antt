-- wellformed.rs, function by function: characters, character references and names. Assumes nothing.
use Rattle.std.specs.Prelude.{Bool, false, ◌&&◌, ◌||◌, not, List, [], ◌∷◌, ℕ, ◌+◌, ◌*◌, min, eqb, ltb, take, drop}
use Rattle.spec.specs.Basics.{pick}
use Rattle.spec.specs.Grammar.Languages.{ascii, none_of}
use Rattle.spec.specs.Grammar.Characters.{xml_char}
use Rattle.spec.specs.Grammar.References.{digit, hex_digit, digit_value, value_on}
use Rattle.spec.specs.Grammar.Names.{Dialect}
use Rattle.spec.specs.Reading.Refusals.{bad_name, less_than, bad_reference, illegal_reference, illegal_char, section_end}
use Rattle.spec.specs.Reading.Readers.{ok, err, Reader, taken, ◌>>◌, refuse, at_end, starts, choose, on, word, run, while, throughout, a_byte, begins, char, as_one}

-- CHAR_SUSPECT, check_suspect_byte: a control but tab, line feed and carriage return, or the bytes of U+FFFE or U+FFFF
unfoldable pub illegal_here : List ℕ → Bool
illegal_here [] = false
illegal_here (b ∷ w) =
    ltb b 0x20 && none_of "\t\n\r" b || starts (0xEF ∷ 0xBF ∷ 0xBE ∷ []) (b ∷ w) || starts (0xEF ∷ 0xBF ∷ 0xBF ∷ []) (b ∷ w)

unfoldable pub legal_byte : Reader
legal_byte = choose illegal_here (refuse illegal_char) a_byte

-- check_chars
unfoldable pub check_chars : Reader
check_chars = throughout legal_byte

-- Request 2: the value of digits in one pass, after those that stand for n. It stops at a number: after each digit it is the lesser of value_on's
-- next value and that number, so that it wraps at no number of digits.
unfoldable pub stopped_on : ℕ → ℕ → ℕ → List ℕ → ℕ
stopped_on most base n [] = n
stopped_on most base n (d ∷ ds) = stopped_on most base (min (n * base + digit_value d) most) ds

-- where a reference's value stops: 1,114,112, the first number past the last Char, #x10FFFF of [2]
abbrev pub past_points : ℕ
past_points = 0x110000

-- check_char_ref_at: digits of a base, at least one, and ";", where the digits' value is a Char
unfoldable pub reference : ℕ → (ℕ → Bool) → Reader
reference base d w =
    pick (eqb (run d w) 0 || not (starts (ascii ";") (drop (run d w) w))) (err bad_reference 0)
    (pick (xml_char (value_on base 0 (take (run d w) w))) (ok (run d w + 1)) (err illegal_reference 0))

-- after its opening sign; a bad reference is refused where it begins
unfoldable pub char_ref : Reader
char_ref = on "&#x" (as_one (word "&#x" bad_reference >> reference 16 hex_digit)) (as_one (word "&#" bad_reference >> reference 10 digit))

-- check_char_refs
unfoldable pub ref_or_byte : Reader
ref_or_byte = on "&#" char_ref a_byte

unfoldable pub check_char_refs : Reader
check_char_refs = throughout ref_or_byte

-- check_text; the Rust goes on inside a reference that it has checked, where it finds nothing to refuse
unfoldable pub text_step : Reader
text_step = on "]]>" (refuse section_end) (on "&#" char_ref legal_byte)

unfoldable pub check_text : Reader
check_text = throughout text_step

-- check_attr_value
unfoldable pub attr_step : Reader
attr_step = on "<" (refuse less_than) (on "&#" char_ref legal_byte)

unfoldable pub check_attr_value : Reader
check_attr_value = throughout attr_step

module _ (D : Dialect) where
  -- parse_name, parse_nmtoken's loop
  unfoldable pub parts : Reader
  parts = while (begins D.part) (char D.part bad_name)

  unfoldable pub name : Reader
  name = char D.start bad_name >> parts

  -- the part that parse_name gives: how many bytes of it, none where no name begins
  unfoldable pub name_length : List ℕ → ℕ
  name_length w = taken (name w)

  -- check_name
  unfoldable pub check_name : Reader
  check_name = name >> at_end bad_name

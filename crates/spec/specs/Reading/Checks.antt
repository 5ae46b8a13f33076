-- checks.rs: the XML declaration, and the yes-or-no tests. The quick scan of the same file is in Scan.antt, the two calls that keep a
-- record are in Gate.antt. Assumes nothing.
use Rattle.std.specs.Prelude.{Bool, false, ◌&&◌, ◌||◌, not, List, [], ◌∷◌, ℕ, eqb, ltb, length, drop}
use Prim.Native.String.{String}
use Rattle.spec.specs.Grammar.Languages.{ascii}
use Rattle.spec.specs.Grammar.Characters.{space, latin_letter}
use Rattle.spec.specs.Grammar.Names.{Dialect}
use Rattle.spec.specs.Grammar.References.{digit}
use Rattle.spec.specs.Grammar.XmlDecl.{enc_char}
use Rattle.spec.specs.Reading.Refusals.{unexpected, trailing, bad_value}
use Rattle.spec.specs.Reading.Readers.{Result, Reader, number_of, ◌>>◌, nothing, refuse, at_end, starts, choose, word, run, contains}
use Rattle.spec.specs.Reading.Wellformed.{check_name}
use Rattle.spec.specs.Reading.Dtd.{skip_s, require_s, parse_quoted}

-- every byte is of the class
unfoldable pub all_of : (ℕ → Bool) → List ℕ → Bool
all_of p w = eqb (run p w) (length w)

-- is_version_num
unfoldable pub is_version_num : List ℕ → Bool
is_version_num w = starts (ascii "1.") w && (ltb 0 (length (drop 2 w)) && all_of digit (drop 2 w))

-- is_enc_name
unfoldable pub is_enc_name : List ℕ → Bool
is_enc_name [] = false
is_enc_name (b ∷ w) = latin_letter b && all_of enc_char w

-- "yes" or "no"
unfoldable pub is_yes_or_no : List ℕ → Bool
is_yes_or_no w = starts (ascii "yes") w && eqb (length w) 3 || starts (ascii "no") w && eqb (length w) 2

-- a value that must pass a test
unfoldable pub valued : (List ℕ → Bool) → List ℕ → Result
valued test = choose test nothing (refuse bad_value)

-- parse_eq_quoted, and the test of the value that its caller makes
unfoldable pub parse_eq_quoted : (List ℕ → Bool) → Reader
parse_eq_quoted test = skip_s >> word "=" unexpected >> skip_s >> parse_quoted (valued test)

-- pseudo_attr: nothing, where the name is not next after white space; white space is required before it
unfoldable pub pseudo_attr : String → (List ℕ → Bool) → Reader
pseudo_attr name test =
    choose (λ w. starts (ascii name) (drop (run space w) w)) (require_s >> word name unexpected >> parse_eq_quoted test) nothing

-- check_declaration; require_leading_s is require_s
unfoldable pub check_declaration : Reader
check_declaration =
    word "xml" unexpected >> require_s >> word "version" unexpected >> parse_eq_quoted is_version_num
    >> pseudo_attr "encoding" is_enc_name >> pseudo_attr "standalone" is_yes_or_no
    >> skip_s >> at_end trailing

-- is_ncname: a name, and no colon in it. (The Rust tests each character for both; to a yes or no the order makes no difference.)
unfoldable pub is_ncname : Dialect → List ℕ → Bool
is_ncname D w = eqb (number_of (check_name D w)) 0 && not (contains (ascii ":") w)

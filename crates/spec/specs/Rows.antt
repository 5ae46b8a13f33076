-- Tables of texts, with what is said of each row: the sixteen texts of docs/SCOPE.md and their numbers, texts with the places at which they are
-- refused, and documents with their verdicts. That it holds of every row is a theorem on the page of demands. Assumes nothing.
use Rattle.std.specs.Prelude.{List, [], ◌∷◌, ◌++◌, true, ◌↔◌, ◌≡◌, ℕ, ◌+◌, T, length}
use Prim.Native.String.{String}
use Rattle.spec.specs.Grammar.AppendixB.{appendix_b}
use Rattle.spec.specs.Grammar.Doctype.{doctypedecl}
use Rattle.spec.specs.Grammar.Languages.{Lang, ascii}
use Rattle.spec.specs.Grammar.XmlDecl.{XMLDecl}
use Rattle.spec.specs.Promises.{Accepted, Stops}
use Rattle.spec.specs.Reading.Checks.{check_declaration}
use Rattle.spec.specs.Reading.Dtd.{check_doctype}
use Rattle.spec.specs.Reading.Readers.{Reader}
use Rattle.spec.specs.Reading.Source.{checked}
use Rattle.spec.specs.Reading.Verdict.{Verdict, number_in, place_in, opened_in, check_document}

-- it holds of every row
abbrev pub All : {A : Type 0} → (A → Type 0) → List A → Type 0
All P [] = T true
All P (r ∷ rs) = P r × All P rs

-- what a text is read as: the order of reading, and the grammar
pub data Subject : Type 0 where
  doctype declaration : Subject

abbrev pub rule_of : Subject → Reader
rule_of doctype = check_doctype appendix_b
rule_of declaration = check_declaration

abbrev pub grammar_of : Subject → Lang
grammar_of doctype = doctypedecl appendix_b
grammar_of declaration = XMLDecl

pub record Row : Type 0 where
  pub subject : Subject
  pub text : String
  pub answer : ℕ

abbrev pub row : Subject → String → ℕ → Row
row x s n = record { subject = x; text = s; answer = n }

-- the order of reading gives the number, and the grammar derives the text, which may be looked at, exactly when that is 0
pub record Numbered (r : Row) : Type 0 where
  pub number : checked (rule_of r.subject) (ascii r.text) ≡ r.answer
  pub grammar : (r.answer ≡ 0) ↔ Accepted (grammar_of r.subject) (ascii r.text)

abbrev pub rows : List Row
rows =
    row doctype "" 4
    ∷ row doctype "a" 0
    ∷ row doctype "a SYSTEM" 3
    ∷ row doctype "a PUBLIC \"^\" \"s\"" 10
    ∷ row doctype "a[]b" 9
    ∷ row doctype "a[<!ELEMENT b (#PCDATA|c)>]" 13
    ∷ row doctype "a[<!ELEMENT b (#PCDATA)*>]" 0
    ∷ row doctype "a[<!ELEMENT b (c,d|e)>]" 13
    ∷ row doctype "a[<!ENTITY e \"&#x;\">]" 15
    ∷ row doctype "a[<!ENTITY e \"&#4294967361;\">]" 16
    ∷ row doctype "a[<!ELEMENT !! %p>]" 0
    ∷ row doctype "a[%p;<!ELEMENT>]" 0
    ∷ row doctype "a[<!--x--->]" 0
    ∷ row doctype "a[<?Xml?>]" 11
    ∷ row declaration "xml version=\"1.\"" 17
    ∷ row declaration "xml version=\"1.0\"encoding=\"u\"" 3
    ∷ []

-- A text in two pieces.
pub record Spot : Type 0 where
  pub subject : Subject
  pub read_well : String
  pub from_there : String
  pub answer : ℕ

abbrev pub spot : Subject → String → String → ℕ → Spot
spot x s t n = record { subject = x; read_well = s; from_there = t; answer = n }

-- it is refused with its number where the second begins
abbrev pub Met : Spot → Type 0
Met s = Stops (rule_of s.subject) (ascii s.read_well ++ ascii s.from_there) s.answer (length (ascii s.read_well))

abbrev pub spots : List Spot
spots =
    -- something missing: where it was expected
    spot doctype "" "" 4
    ∷ spot doctype "a SYSTEM" "" 3
    ∷ spot doctype "a SYSTEM " "s" 6
    ∷ spot doctype "a[]" "b" 9
    ∷ spot doctype "a[" "b]" 8
    ∷ spot doctype "a[<!ELEMENT b" "(c)>]" 3
    ∷ spot doctype "a[<!ELEMENT b (#PCDATA|c)" ">]" 13
    ∷ spot doctype "a[<!ENTITY e " "d>]" 8
    ∷ spot doctype "a[<!ATTLIST b\n c CDATA #IMPLIED\n d CDATA" "\"e\"\n f ID #REQUIRED>]" 3
    ∷ spot declaration "xml version=\"1.0\"" "encoding=\"u\"" 3
    -- something wrong: where it stands
    ∷ spot doctype "a[<!ENTITY e \"" "&#x;\">]" 15
    ∷ spot doctype "a[<!ENTITY e \"d" "&#4294967361;\">]" 16
    ∷ spot doctype "a[<!ATTLIST b c CDATA \"&#60;" "<\">]" 14
    ∷ spot doctype "a PUBLIC \"p" "^\" \"s\"" 10
    ∷ spot doctype "a[<!--b" "--c-->]" 12
    ∷ spot doctype "a[<!ENTITY b" ":c \"\">]" 5
    ∷ spot doctype "a[<?b" ":c?>]" 5
    ∷ spot doctype "a[<?" "Xml?>]" 11
    ∷ spot doctype "a[<!ELEMENT b (c,d" "|e)>]" 13
    ∷ spot doctype "a[<!ELEMENT b ((((((((((((((((((((((((((((((((((((((((((((((((((((((((((((((((" "(c)>]" 20
    ∷ spot doctype "a[%p;" "<![IGNORE[]]>]" 8
    ∷ spot declaration "xml version=\"" "1.\"" 17
    -- something unterminated: directly behind the sign that opened it; a subset: at the text's end
    ∷ spot doctype "a SYSTEM \"" "s" 7
    ∷ spot doctype "a[<!ELEMENT" " b (c)" 7
    ∷ spot doctype "a[<!--" "b--" 7
    ∷ spot doctype "a[<?" "b" 7
    ∷ spot doctype "a[%p; " "" 7
    ∷ []

-- A document in three pieces. What does not end was opened where the second begins (which is empty, where nothing was), and it is refused
-- where the third begins; or, accepted, has its root there.
pub record Case : Type 0 where
  pub read_well : List ℕ
  pub unclosed : List ℕ
  pub from_there : List ℕ
  pub answer : ℕ

abbrev pub case : List ℕ → List ℕ → List ℕ → ℕ → Case
case s t u n = record { read_well = s; unclosed = t; from_there = u; answer = n }

abbrev pub verdict_on : Case → Verdict
verdict_on c = check_document appendix_b true (c.read_well ++ c.unclosed ++ c.from_there)

pub record Judged (c : Case) : Type 0 where
  pub number : number_in (verdict_on c) ≡ c.answer
  pub opened : opened_in (verdict_on c) ≡ length c.read_well
  pub place : place_in (verdict_on c) ≡ length c.read_well + length c.unclosed

abbrev pub cases : List Case
cases =
    -- accepted: the root begins where the last piece does
    case [] [] (ascii "<a") 0
    ∷ case (ascii "<?xml version='1.0' encoding='Utf-8'?>\n<!--b--><?c d?>\n<!DOCTYPE a [<!ELEMENT a ANY>]>\n") [] (ascii "<a/>") 0
    ∷ case (ascii "<!DOCTYPE a[<?b ]?>]>") [] (ascii "<a>") 0
    ∷ case (ascii "<!DOCTYPE a[<?b it's?>]>") [] (ascii "<a>") 0
    ∷ case (ascii "<!DOCTYPE a[<!ENTITY b '>]>'>]>") [] (ascii "<a>") 0
    ∷ case (0xEF ∷ 0xBB ∷ 0xBF ∷ []) [] (ascii "<a>") 0
    ∷ case (ascii "<?xml version='1.0' encoding='ISO-8859-1'?>") [] (ascii "<a>" ++ (0xFC ∷ [])) 0
    -- the text ends before the root
    ∷ case [] [] [] 7
    ∷ case (ascii " \t\n") [] [] 7
    ∷ case (ascii "<?xml version='1.0'?>\n") [] [] 7
    ∷ case (ascii "<!DOCTYPE a>\n") [] [] 7
    -- the text ends inside something
    ∷ case [] (ascii "<") [] 7
    ∷ case [] (ascii "<!DOC") [] 7
    ∷ case (ascii "<!--b-->") (ascii "<!--c--") [] 7
    ∷ case [] (ascii "<?b") [] 7
    ∷ case [] (ascii "<?xml version='1.0'") [] 7
    ∷ case [] (ascii "<!DOCTYPE a SYST") [] 7
    ∷ case [] (ascii "<!DOCTYPE a [<!ELEMENT a ANY>") [] 7
    ∷ case (ascii "<!DOCTYPE a SYSTEM ") (ascii "'b") [] 7
    ∷ case (ascii "<!DOCTYPE a [") (ascii "<!ENTITY b 'c>]><a/>") [] 7
    -- the first thing that can't be read on
    ∷ case [] [] (ascii "a") 8
    ∷ case (ascii "<") [] (ascii "1>") 4
    ∷ case [] [] (ascii "<!doctype a><a/>") 8
    ∷ case [] [] (ascii "<![CDATA[]]>") 8
    ∷ case (ascii "<?xmlversion") [] (ascii "='1.0'?><a/>") 4
    ∷ case (ascii "<?") [] (ascii "XML version='1.0'?><a/>") 11
    ∷ case (ascii "<?") [] (ascii "?><a/>") 4
    ∷ case (ascii "<?xml version=") [] (ascii "1.0?><a/>") 6
    ∷ case (ascii "<?xml version='") [] (ascii "1.0?><a/>") 7
    ∷ case (ascii "<!--b") [] (ascii "--c--><a/>") 12
    ∷ case (ascii "<!DOCTYPE a [<!ELEMENT b") [] (ascii "(c)>]><a/>") 3
    ∷ case (ascii " ") [] (ascii "<?xml version='1.0'?><a/>") 21
    ∷ case (ascii "<!DOCTYPE a>") [] (ascii "<!DOCTYPE a><a/>") 21
    -- what is no character, before it
    ∷ case [] (ascii "<!--b") (1 ∷ ascii "--><a/>") 18
    ∷ case [] (ascii "<!--b") (0xFF ∷ ascii "--><a/>") 2
    ∷ case (ascii "<!DOCTYPE a [") (ascii "<!ENTITY b '") (1 ∷ ascii "'>]><a/>") 18
    ∷ case (ascii " ") [] (0x80 ∷ ascii "<a/>") 2
    -- another encoding
    ∷ case (ascii "<?xml version='1.0' encoding='") [] (ascii "UTF-7'?><a/>") 2
    ∷ case (ascii "<?xml version='1.0' encoding='") [] (ascii "UTF-16'?><a/>") 2
    ∷ case (ascii "<?xml version='1.0' encoding='") [] (ascii "windows-1259'?><a/>") 2
    ∷ case (ascii "<?xml version='1.0' encoding='windows-1252'?>") (ascii "<!--") (0xC3 ∷ 0xBC ∷ ascii "--><a/>") 2
    ∷ case [] [] (0xFF ∷ 0xFE ∷ 0x3C ∷ 0 ∷ []) 2
    ∷ case [] [] (0x3C ∷ 0 ∷ 0x61 ∷ 0 ∷ []) 2
    ∷ []

-- The conditions of promises and theorems, from both sides: what each lets in and what it keeps out, shown by examples. A condition that
-- kept out too much would make a promise say less, and nothing else would notice. That each table holds is a theorem on the page of
-- demands. Assumes nothing.
use Rattle.std.specs.Prelude.{Bool, true, false, ◌&&◌, ◌||◌, List, [], ◌∷◌, ◌↔◌, ◌≡◌, ℕ, zero, suc, leb}
use Prim.Native.String.{String}
use Rattle.spec.specs.Basics.{within}
use Rattle.spec.specs.Grammar.AppendixB.{start_char, part_char, appendix_b}
use Rattle.spec.specs.Grammar.Characters.{Chars}
use Rattle.spec.specs.Grammar.Doctype.{doctypedecl}
use Rattle.spec.specs.Grammar.FifthEdition.{name_start_char, name_char}
use Rattle.spec.specs.Grammar.Languages.{ascii, one_of, none_of}
use Rattle.spec.specs.Grammar.Names.{with_classes, AsciiNames}
use Rattle.spec.specs.Promises.{Accepted, Covered}

-- A DOCTYPE's text: whether the grammar derives it, and whether demand 3 speaks of it.
pub record Sample : Type 0 where
  pub text : String
  pub derived : Bool
  pub covered : Bool

abbrev pub sample : String → Bool → Bool → Sample
sample s d c = record { text = s; derived = d; covered = c }

-- the row says the truth of both
pub record Sided (s : Sample) : Type 0 where
  pub grammar : (s.derived ≡ true) ↔ doctypedecl appendix_b (ascii s.text)
  pub premise : (s.covered ≡ true) ↔ Covered appendix_b (ascii s.text)

abbrev pub samples : List Sample
samples =
    -- no subset, an empty one, entries of several kinds
    sample "a SYSTEM '['" true true
    ∷ sample "a []" true true
    ∷ sample "a[<!--]--><!ELEMENT b ANY>%p;<?q x?>]" true true
    -- nothing is asked of comments, references and what is read
    ∷ sample "a[<!--it's ] <!-->]" true true
    ∷ sample "a[%p; %p;]" true true
    ∷ sample "a[<!ATTLIST b c CDATA ']'>]" true true
    ∷ sample "a[<!ENTITY e \"]<!--\">]" true true
    ∷ sample "a[<!ENTITY e \"it's\">]" true true
    ∷ sample "a[<!NOTATION n SYSTEM ']'>%p;]" true true
    -- unread: ']' and "<!--" stand only in quotes
    ∷ sample "a[%p;<!ELEMENT ']'>]" true true
    ∷ sample "a[%p;<!ATTLIST \"<!--\">]" true true
    ∷ sample "a[<!ENTITY e \"%f;]\">]" true true
    ∷ sample "a[<!NOTATION '%p]' >]" true true
    ∷ sample "a[%p;<!ELEMENT ]>]" true false
    ∷ sample "a[%p;<!ATTLIST <!-->]" true false
    ∷ sample "a[<!ENTITY %p ] >]" true false
    ∷ sample "a[<!NOTATION n ']' %p ]>]" true false
    -- instructions: no quote mark, no ']', no "<!--"
    ∷ sample "a[<?p <!-?>]" true true
    ∷ sample "a[<?p it's?>]" true false
    ∷ sample "a[<?p \"b\"?>]" true false
    ∷ sample "a[<?b ]?>]" true false
    ∷ sample "a[<?b <!--?>]" true false
    -- a text that the grammar does not derive is not spoken of
    ∷ sample "" false false
    ∷ sample "a[" false false
    ∷ sample "a[]]" false false
    ∷ sample "a[<!ELEMENT b>]" false false
    ∷ sample "a[<!--b--c-->]" false false
    ∷ []

-- So many times 'a': whether it may be looked at.
unfoldable pub letters : ℕ → List ℕ
letters zero = []
letters (suc n) = 0x61 ∷ letters n

pub record Size : Type 0 where
  pub size : ℕ
  pub looked_at : Bool

abbrev pub size_row : ℕ → Bool → Size
size_row n b = record { size = n; looked_at = b }

abbrev pub Limited : Size → Type 0
Limited s = (s.looked_at ≡ true) ↔ Accepted Chars (letters s.size)

abbrev pub sizes : List Size
sizes = size_row 0 true ∷ size_row 1_048_576 true ∷ size_row 1_048_577 false ∷ []

-- Name classes: whether they have XML's ASCII characters.
pub record Alphabet : Type 0 where
  pub start : ℕ → Bool
  pub part : ℕ → Bool
  pub has_ascii : Bool

abbrev pub alphabet : (ℕ → Bool) → (ℕ → Bool) → Bool → Alphabet
alphabet p q b = record { start = p; part = q; has_ascii = b }

abbrev pub Ascii : Alphabet → Type 0
Ascii a = (a.has_ascii ≡ true) ↔ AsciiNames (with_classes appendix_b a.start a.part)

abbrev pub alphabets : List Alphabet
alphabets =
    -- Appendix B's, the fifth edition's; and with every character beyond ASCII
    alphabet start_char part_char true
    ∷ alphabet name_start_char name_char true
    ∷ alphabet (λ c. leb 128 c || start_char c) (λ c. leb 128 c || part_char c) true
    -- one character too many, or one too few
    ∷ alphabet (λ c. one_of "0" c || start_char c) part_char false
    ∷ alphabet (λ c. none_of "z" c && start_char c) part_char false
    ∷ alphabet start_char (λ c. one_of " " c || part_char c) false
    ∷ alphabet start_char (λ c. within 127 127 c || part_char c) false
    ∷ alphabet start_char (λ c. none_of "-" c && part_char c) false
    ∷ []

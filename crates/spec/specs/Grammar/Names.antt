-- Names, over any classes of name characters: W3C XML 1.0, sections 2.3 and 2.6, and Namespaces in XML 1.0. Assumes nothing.
use Rattle.std.specs.Prelude.{Bool, ◌||◌, ◌≡◌, ℕ, ◌<◌}
use Rattle.spec.specs.Grammar.Languages.{Lang, lit, Ch, ◌·◌, ◌∖◌, Star, Plus, one_of}
use Rattle.spec.specs.Grammar.Characters.{latin_letter, Text}
use Rattle.spec.specs.Grammar.References.{digit}

-- What the grammar leaves open: the characters that begin a name ([4] NameStartChar) and that go on with it ([4a] NameChar); and, added,
-- how many groups of a content model may be open at one time.
pub record Dialect : Type 0 where
  pub start : ℕ → Bool
  pub part : ℕ → Bool
  pub groups : ℕ

-- the same with other classes, and with another limit
abbrev pub with_classes : Dialect → (ℕ → Bool) → (ℕ → Bool) → Dialect
with_classes D p q = record { start = p; part = q; groups = D.groups }

abbrev pub with_groups : Dialect → ℕ → Dialect
with_groups D n = record { start = D.start; part = D.part; groups = n }

-- XML's name characters below 128, the same in every edition: those of [4] NameStartChar, and those of [4a] NameChar
abbrev pub start_sign : ℕ → Bool
start_sign c = latin_letter c || one_of "_:" c

abbrev pub part_sign : ℕ → Bool
part_sign c = latin_letter c || one_of "_:-." c || digit c

-- What the theorems ask of name classes: below 128 they have these characters, and no others.
pub record AsciiNames (D : Dialect) : Type 0 where
  pub start_ascii : (c : ℕ) → c < 128 → D.start c ≡ start_sign c
  pub part_ascii : (c : ℕ) → c < 128 → D.part c ≡ part_sign c

module _ (D : Dialect) where
  -- [5] Name ::= NameStartChar (NameChar)*
  unfoldable pub Name : Lang
  Name = Ch D.start · Star (Ch D.part)

  -- [7] Nmtoken ::= (NameChar)+
  unfoldable pub Nmtoken : Lang
  Nmtoken = Plus (Ch D.part)

  -- Namespaces [4] NCName ::= Name - (Char* ':' Char*)
  unfoldable pub NCName : Lang
  NCName = Name ∖ (Text · lit ":" · Text)

  -- [17] PITarget ::= Name - (('X' | 'x') ('M' | 'm') ('L' | 'l')); departure: no colon
  unfoldable pub PITarget : Lang
  PITarget = NCName ∖ (Ch (one_of "Xx") · Ch (one_of "Mm") · Ch (one_of "Ll"))

  -- [69] PEReference ::= '%' Name ';'
  unfoldable pub PEReference : Lang
  PEReference = lit "%" · Name · lit ";"

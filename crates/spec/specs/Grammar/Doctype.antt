-- The document type declaration: W3C XML 1.0, section 2.8. Assumes nothing.
use Rattle.std.specs.Prelude.{true, false}
use Rattle.spec.specs.Grammar.Languages.{Lang, lit, ◌·◌, ◌∣◌, Star, Opt}
use Rattle.spec.specs.Grammar.Characters.{S, S?}
use Rattle.spec.specs.Grammar.Names.{Dialect, Name, PEReference}
use Rattle.spec.specs.Grammar.Literals.{ExternalID}
use Rattle.spec.specs.Grammar.Declarations.{PI, Comment, markupdecl}

module _ (D : Dialect) where
  -- [28b] intSubset ::= (markupdecl | DeclSep)*    [28a] DeclSep ::= PEReference | S;
  -- parted at the first parameter-entity reference; departure: after it bodies are only delimited
  unfoldable pub intSubset : Lang
  intSubset = Star (markupdecl D false ∣ S) · Opt (PEReference D · Star (markupdecl D true ∣ PEReference D ∣ S))

  -- [28] doctypedecl ::= '<!DOCTYPE' S Name (S ExternalID)? S? ('[' intSubset ']' S?)? '>', what stands between '<!DOCTYPE' and '>';
  -- departure: the first S is optional
  unfoldable pub doctypedecl : Lang
  doctypedecl = S? · Name D · Opt (S · ExternalID) · S? · Opt (lit "[" · intSubset · lit "]" · S?)

  -- [27] Misc ::= Comment | PI | S
  unfoldable pub Misc : Lang
  Misc = Comment ∣ PI D ∣ S

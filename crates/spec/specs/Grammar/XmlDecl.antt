-- The XML declaration: W3C XML 1.0, sections 2.8, 2.9 and 4.3.3. Assumes nothing.
use Rattle.std.specs.Prelude.{Bool, ◌||◌, ℕ}
use Rattle.spec.specs.Grammar.Languages.{Lang, lit, Ch, ◌·◌, ◌∣◌, Star, Plus, Opt, one_of}
use Rattle.spec.specs.Grammar.Characters.{latin_letter, S, S?}
use Rattle.spec.specs.Grammar.Literals.{Quoted}
use Rattle.spec.specs.Grammar.References.{digit}

-- [25] Eq ::= S? '=' S?
unfoldable pub Eq : Lang
Eq = S? · lit "=" · S?

-- [26] VersionNum ::= '1.' [0-9]+
unfoldable pub VersionNum : Lang
VersionNum = lit "1." · Plus (Ch digit)

-- [24] VersionInfo ::= S 'version' Eq ("'" VersionNum "'" | '"' VersionNum '"')
unfoldable pub VersionInfo : Lang
VersionInfo = S · lit "version" · Eq · Quoted VersionNum VersionNum

-- what an encoding's name goes on with: [A-Za-z0-9._] | '-'
abbrev pub enc_char : ℕ → Bool
enc_char c = latin_letter c || digit c || one_of "._-" c

-- [81] EncName ::= [A-Za-z] ([A-Za-z0-9._] | '-')*
unfoldable pub EncName : Lang
EncName = Ch latin_letter · Star (Ch enc_char)

-- [80] EncodingDecl ::= S 'encoding' Eq ('"' EncName '"' | "'" EncName "'" )
unfoldable pub EncodingDecl : Lang
EncodingDecl = S · lit "encoding" · Eq · Quoted EncName EncName

-- [32] SDDecl ::= S 'standalone' Eq (("'" ('yes' | 'no') "'") | ('"' ('yes' | 'no') '"'))
unfoldable pub SDDecl : Lang
SDDecl = S · lit "standalone" · Eq · Quoted (lit "yes" ∣ lit "no") (lit "yes" ∣ lit "no")

-- [23] XMLDecl ::= '<?xml' VersionInfo EncodingDecl? SDDecl? S? '?>', what stands between '<?' and '?>'
unfoldable pub XMLDecl : Lang
XMLDecl = lit "xml" · VersionInfo · Opt EncodingDecl · Opt SDDecl · S?

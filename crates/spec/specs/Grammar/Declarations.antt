-- Comments, instructions and the declarations of the internal subset: W3C XML 1.0, sections 2.5, 2.6, 3.2, 3.3, 4.2 and 4.7.
-- A declaration's body is what stands between its keyword and its '>'. Assumes nothing.
use Rattle.std.specs.Prelude.{Bool, true, false}
use Rattle.spec.specs.Grammar.Languages.{Lang, lit, Ch, ◌·◌, ◌∣◌, ◌∖◌, ◌&◌, Star, Opt, none_of}
use Rattle.spec.specs.Grammar.Characters.{Text, S, S?}
use Rattle.spec.specs.Grammar.Names.{Dialect, Name, Nmtoken, NCName, PITarget}
use Rattle.spec.specs.Grammar.Literals.{EntityValue, AttValue, SystemLiteral, ExternalID, PublicID}
use Rattle.spec.specs.Grammar.ContentModels.{contentspec}

-- [15] Comment ::= '<!--' ((Char - '-') | ('-' (Char - '-')))* '-->';
-- departures: the text may end in one hyphen; production 2 is not tested
unfoldable pub Comment : Lang
Comment = lit "<!--" · Star (Ch (none_of "-") ∣ (lit "-" · Ch (none_of "-"))) · Opt (lit "-") · lit "-->"

-- departures: a body that is only delimited, up to the first '>' outside quotes; production 2 is not tested
unfoldable pub Delimited : Lang
Delimited = Star (Ch (none_of "\"'>") ∣ SystemLiteral)

-- '(' S? L (S? '|' S? L)* S? ')', as in [58] and [59]
unfoldable pub listed : Lang → Lang
listed L = lit "(" · S? · L · Star (S? · lit "|" · S? · L) · S? · lit ")"

-- [60] DefaultDecl ::= '#REQUIRED' | '#IMPLIED' | (('#FIXED' S)? AttValue)
unfoldable pub DefaultDecl : Lang
DefaultDecl = lit "#REQUIRED" ∣ lit "#IMPLIED" ∣ (Opt (lit "#FIXED" · S) · AttValue)

module _ (D : Dialect) where
  -- [16] PI ::= '<?' PITarget (S (Char* - (Char* '?>' Char*)))? '?>'; departure: production 2 is not tested
  unfoldable pub PI : Lang
  PI = lit "<?" · PITarget D · Opt (S · (Text ∖ (Text · lit "?>" · Text))) · lit "?>"

  -- [45] elementdecl ::= '<!ELEMENT' S Name S contentspec S? '>', its body
  unfoldable pub element_body : Lang
  element_body = S · Name D · S · contentspec D · S?

  -- [54] AttType ::= StringType | TokenizedType | EnumeratedType    [55] StringType ::= 'CDATA'
  -- [56] TokenizedType ::= 'ID' | 'IDREF' | 'IDREFS' | 'ENTITY' | 'ENTITIES' | 'NMTOKEN' | 'NMTOKENS'
  -- [57] EnumeratedType ::= NotationType | Enumeration
  -- [58] NotationType ::= 'NOTATION' S '(' S? Name (S? '|' S? Name)* S? ')'
  -- [59] Enumeration ::= '(' S? Nmtoken (S? '|' S? Nmtoken)* S? ')'
  unfoldable pub AttType : Lang
  AttType =
      lit "CDATA" ∣ lit "ID" ∣ lit "IDREF" ∣ lit "IDREFS" ∣ lit "ENTITY" ∣ lit "ENTITIES" ∣ lit "NMTOKEN" ∣ lit "NMTOKENS"
      ∣ (lit "NOTATION" · S · listed (Name D)) ∣ listed (Nmtoken D)

  -- [53] AttDef ::= S Name S AttType S DefaultDecl
  unfoldable pub AttDef : Lang
  AttDef = S · Name D · S · AttType · S · DefaultDecl

  -- [52] AttlistDecl ::= '<!ATTLIST' S Name AttDef* S? '>', its body
  unfoldable pub attlist_body : Lang
  attlist_body = S · Name D · Star AttDef · S?

  -- [76] NDataDecl ::= S 'NDATA' S Name
  unfoldable pub NDataDecl : Lang
  NDataDecl = S · lit "NDATA" · S · Name D

  -- [70] EntityDecl ::= GEDecl | PEDecl, its body; departure: no colon in the name
  -- [71] GEDecl ::= '<!ENTITY' S Name S EntityDef S? '>'    [73] EntityDef ::= EntityValue | (ExternalID NDataDecl?)
  -- [72] PEDecl ::= '<!ENTITY' S '%' S Name S PEDef S? '>'  [74] PEDef ::= EntityValue | ExternalID
  unfoldable pub entity_body : Lang
  entity_body =
      (S · NCName D · S · (EntityValue ∣ (ExternalID · Opt NDataDecl)) · S?)
      ∣ (S · lit "%" · S · NCName D · S · (EntityValue ∣ ExternalID) · S?)

  -- [82] NotationDecl ::= '<!NOTATION' S Name S (ExternalID | PublicID) S? '>', its body; departure: no colon in the name
  unfoldable pub notation_body : Lang
  notation_body = S · NCName D · S · (ExternalID ∣ PublicID) · S?

  -- departure: a body in which '%' stands directly before a name start character, literals included, is only delimited
  unfoldable pub Unread : Lang
  Unread = Delimited & (Text · lit "%" · Ch D.start · Text)

  -- a body, by whether a parameter-entity reference stood earlier between declarations;
  -- departure: if one did, the body is only delimited
  abbrev pub declared : Bool → Lang → Lang
  declared true body = Delimited
  declared false body = body ∣ Unread

  -- [29] markupdecl ::= elementdecl | AttlistDecl | EntityDecl | NotationDecl | PI | Comment
  unfoldable pub markupdecl : Bool → Lang
  markupdecl after_reference =
      (lit "<!ELEMENT" · declared after_reference element_body · lit ">")
      ∣ (lit "<!ATTLIST" · declared after_reference attlist_body · lit ">")
      ∣ (lit "<!ENTITY" · declared after_reference entity_body · lit ">")
      ∣ (lit "<!NOTATION" · declared after_reference notation_body · lit ">")
      ∣ PI
      ∣ Comment

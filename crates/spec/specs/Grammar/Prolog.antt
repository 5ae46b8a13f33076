-- The prolog of a document, and what a document begins with whose prolog is read: W3C XML 1.0, sections 2.1, 2.8 and 3.1. Assumes nothing.
use Rattle.std.specs.Prelude.{◌≡◌, Bool, List, ◌++◌, ℕ, ◌+◌, ◌≤◌, length}
use Rattle.spec.specs.Basics.{limit}
use Rattle.spec.specs.Grammar.Languages.{Lang, lit, Ch, ◌·◌, inl, inr, ◌&◌, Star, Opt}
use Rattle.spec.specs.Grammar.Characters.{xml_char}
use Rattle.spec.specs.Grammar.Encodings.{Encoding, coding_in, class_of, encoding_marked}
use Rattle.spec.specs.Grammar.Names.{Dialect, Name}
use Rattle.spec.specs.Grammar.Doctype.{doctypedecl, Misc}
use Rattle.spec.specs.Grammar.XmlDecl.{XMLDecl}

-- where a DOCTYPE's text lies, if there is a DOCTYPE: from the first byte after '<!DOCTYPE' to the '>'
pub data DoctypeText : Type 0 where
  no_doctype : DoctypeText
  from_to : ℕ → ℕ → DoctypeText

module _ (D : Dialect) where
  -- [23] XMLDecl, and Misc* after it: what stands before the DOCTYPE, or all of the prolog where there is none
  abbrev pub opening : Lang
  opening = Opt (lit "<?" · XMLDecl · lit "?>") · Star (Misc D)

  -- [28] doctypedecl, whole; departure: at most 1,048,576 bytes stand between '<!DOCTYPE' and '>' (added)
  abbrev pub Doctype : Lang
  Doctype = lit "<!DOCTYPE" · (doctypedecl D & (λ t. length t ≤ limit)) · lit ">"

  -- [22] prolog ::= XMLDecl? Misc* (doctypedecl Misc*)?
  abbrev pub prolog : Lang
  prolog = opening · Opt (Doctype · Star (Misc D))

  -- [40] STag ::= '<' Name (S Attribute)* S? '>'    [44] EmptyElemTag ::= '<' Name (S Attribute)* S? '/>', how both begin
  unfoldable pub tag : Lang
  tag = lit "<" · Name D

  -- [1] document ::= prolog element Misc*, up to the name in the root's tag; every character up to there is of a class, that of [2] Char
  -- or a part of it. Any bytes may stand after it.
  pub record Begins (p : ℕ → Bool) (w : List ℕ) : Type 0 where
    pub front : List ℕ
    pub root : List ℕ
    pub rest : List ℕ
    pub split : w ≡ (front ++ root) ++ rest
    pub is_prolog : prolog front
    pub is_tag : tag root
    pub legal : Star (Ch p) (front ++ root)

  -- the DOCTYPE's text in it
  abbrev pub text_after : ℕ → {u : List ℕ} → Opt (Doctype · Star (Misc D)) u → DoctypeText
  text_after k (inl l) = from_to (k + 9) (k + 9 + length l.first.second.left)
  text_after k (inr e) = no_doctype

  abbrev pub doctype_of : {p : ℕ → Bool} {w : List ℕ} → Begins p w → DoctypeText
  doctype_of b = text_after (length b.is_prolog.left) b.is_prolog.second

  -- the encoding that it names
  abbrev pub encoding_of : {p : ℕ → Bool} {w : List ℕ} → Begins p w → Encoding
  encoding_of b = encoding_marked b.is_prolog.first.first

  -- a document whose prolog is accepted: its characters up to the root's name are Chars, and such as its encoding has in common with
  -- UTF-8. (No encoding but the named ones has any, so no document that names another is accepted.)
  pub record Document (w : List ℕ) : Type 0 where
    pub begins : Begins xml_char w
    pub coded : Star (Ch (class_of (coding_in (encoding_of begins)))) (begins.front ++ begins.root)

-- Content models: W3C XML 1.0, sections 3.2.1 and 3.2.2. Assumes nothing.
use Rattle.std.specs.Prelude.{ℕ, zero, suc}
use Rattle.spec.specs.Grammar.Languages.{Lang, lit, Ch, ◌·◌, ◌∣◌, none, Star, Plus, Opt, one_of}
use Rattle.spec.specs.Grammar.Characters.{S?}
use Rattle.spec.specs.Grammar.Names.{Dialect, Name}

-- [49] choice ::= '(' S? cp ( S? '|' S? cp )+ S? ')'
unfoldable pub choice : Lang → Lang
choice cp = lit "(" · S? · cp · Plus (S? · lit "|" · S? · cp) · S? · lit ")"

-- [50] seq ::= '(' S? cp ( S? ',' S? cp )* S? ')'
unfoldable pub sequence : Lang → Lang
sequence cp = lit "(" · S? · cp · Star (S? · lit "," · S? · cp) · S? · lit ")"

-- ('?' | '*' | '+')?
unfoldable pub occurrence : Lang
occurrence = Opt (Ch (one_of "?*+"))

module _ (D : Dialect) where
  -- [48] cp ::= (Name | choice | seq) ('?' | '*' | '+')?, over what a group in it may be
  abbrev pub cp : Lang → Lang
  cp Group = (Name D ∣ Group) · occurrence

  -- (choice | seq); departure: in which, it counted, at most so many groups are open at one time
  unfoldable pub Group : ℕ → Lang
  Group zero = none
  Group (suc height) = choice (cp (Group height)) ∣ sequence (cp (Group height))

  -- [47] children ::= (choice | seq) ('?' | '*' | '+')?
  unfoldable pub children : Lang
  children = Group D.groups · occurrence

  -- [51] Mixed ::= '(' S? '#PCDATA' (S? '|' S? Name)* S? ')*' | '(' S? '#PCDATA' S? ')'
  unfoldable pub Mixed : Lang
  Mixed =
      (lit "(" · S? · lit "#PCDATA" · Star (S? · lit "|" · S? · Name D) · S? · lit ")*")
      ∣ (lit "(" · S? · lit "#PCDATA" · S? · lit ")")

  -- [46] contentspec ::= 'EMPTY' | 'ANY' | Mixed | children
  unfoldable pub contentspec : Lang
  contentspec = lit "EMPTY" ∣ lit "ANY" ∣ Mixed ∣ children

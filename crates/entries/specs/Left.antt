-- What the iterator over the unread declarations has left, and what it gives. Assumes nothing.
use Rattle.std.specs.Prelude.{Option, Some, None, ◌≡◌, List, [], ◌∷◌}
use Rattle.spec.specs.Grammar.Division.{Entry}
use Rattle.classes.specs.Classes.{dialect}
use Rattle.entries.specs.Walk.{entry_told, unread_from, first_from}
use Rattle.entries.specs.declared.walk.Unread.{Unread}
use Rattle.entries.specs.declared.count.UnreadEntries.{UnreadEntries}

-- the declarations that are still to come
unfoldable pub unread_left : UnreadEntries → List Entry
unread_left walk = unread_from (dialect walk.names) walk.text.now walk.pe_used walk.place

-- the list before a call is the item and the list after it; where no item came both are empty
abbrev pub IsStep : UnreadEntries → Option Unread → UnreadEntries → Type 0
IsStep old None new = (unread_left old ≡ []) × (unread_left new ≡ [])
IsStep old (Some u) new = unread_left old ≡ entry_told old.text.now u ∷ unread_left new

-- a call gave the first, with whether a reference came before it, and left the others
pub record GivesUnread (old : UnreadEntries) (r : Option Unread) (new : UnreadEntries) : Type 0 where
  pub answer : r ≡ first_from (dialect old.names) old.text.now old.pe_used old.place
  pub step : IsStep old r new

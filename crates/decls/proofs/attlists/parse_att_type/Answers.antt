-- What is left to show of `parse_att_type`. Assumes nothing.
use borrow.Author.Rules.{rules}
use Rattle.spec.specs.Reading.Readers.{on}
use Rattle.spec.specs.Reading.Dtd.{parse_att_type}
use Rattle.cursor.proofs.Reading.{reading}
use Rattle.error.proofs.Laws.{ate_not}
use Rattle.decls.proofs.Otherwise.{among_else}
use Rattle.decls.proofs.attlists.parse_att_type.Goals as goal

pub returns-in-Ok : goal.returns-in-Ok
unfolding on parse_att_type
returns-in-Ok c = search reading

pub returns : goal.returns
unfolding on parse_att_type
returns c = ate_not _ _ _ _ _ c.eat_str.ensures _ _ _ _ c.in_default.is (among_else _ _ _ _ _ _ c.parse_tokenized.ensures (search rules))

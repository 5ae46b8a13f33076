-- What is left to show of `parse_default_decl`. Assumes nothing.
use borrow.Author.Rules.{rules}
use Rattle.spec.specs.Reading.Readers.{on}
use Rattle.spec.specs.Reading.Dtd.{parse_default_decl}
use Rattle.decls.proofs.Otherwise.{words_else}
use Rattle.decls.proofs.attlists.parse_default_decl.Goals as goal

pub returns : goal.returns
unfolding on parse_default_decl
returns c = words_else _ _ _ _ _ _ _ c.or_else.result _ c.eat_str.ensures (search rules) (search rules)

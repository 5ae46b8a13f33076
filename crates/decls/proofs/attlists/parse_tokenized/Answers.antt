-- What is left to show of `parse_tokenized`. Assumes nothing.
use Rattle.spec.specs.Reading.Dtd.{tokenized}
use Rattle.decls.proofs.Keywords.{rows_all, tabled}
use Rattle.decls.proofs.attlists.parse_tokenized.Goals as goal
use mathlib.Core.Path.{refl}

-- the table is the words in the written order: one computed test
pub loop-keyword-init : goal.loop-keyword-init
loop-keyword-init c = rows_all tokenized _ refl _ _

pub returns-in-Ok : goal.returns-in-Ok
returns-in-Ok c = search tabled

pub loop-keyword-preserved : goal.loop-keyword-preserved
loop-keyword-preserved c = search tabled

pub returns : goal.returns
returns c = search tabled

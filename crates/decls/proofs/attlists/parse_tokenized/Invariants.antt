-- `decls::attlists::parse_tokenized` meets its contract. The invariant: the answer by the keywords that are left is the whole answer.
-- Assumes nothing.
use mathlib.Core.Path.{◌≡◌}
use lib.ListN.{drop}
use Rattle.spec.specs.Reading.Refusals.{unexpected}
use Rattle.spec.specs.Reading.Readers.{refuse}
use Rattle.spec.specs.Reading.Dtd.{tokenized, word_among}
use Rattle.error.specs.Read.{read}
use Rattle.decls.proofs.Keywords.{first_of}
use Rattle.decls.proofs.attlists.parse_tokenized.Given as goal

abbrev pub invariant-loop-keyword : goal.invariant-loop-keyword
invariant-loop-keyword l = read (first_of (drop l.keyword-index l.keyword-items)) l.s l.at ≡ read (word_among tokenized (refuse unexpected)) l.s l.at

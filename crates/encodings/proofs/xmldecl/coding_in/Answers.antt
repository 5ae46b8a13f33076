-- What is left to show of `coding_in`. Assumes nothing.
use borrow.Author.Rules.{rules}
use Rattle.encodings.proofs.Finding.{coding_by}
use Rattle.encodings.proofs.xmldecl.coding_in.Goals as goal

pub returns : goal.returns
returns c = coding_by c.args.x.now c.args.name _ _ c.get.result _ c.map_or.result c.in-Some.is c.min.ensures c.get.ensures.lookup c.map_or.ensures (λ p q. search rules)

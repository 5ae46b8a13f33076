-- What the public checks search: the two numbers in front, and the agreement of each rule with the grammar, or that its places lie within
-- the text. Assumes nothing.
use Rattle.spec.proofs.Inside.Checks.{text_placed, attr_value_placed}
use Rattle.spec.proofs.Wellformed.Checks.{text_agree, attr_value_agree}
use Rattle.source.proofs.Admitting.{calling}
use Rattle.source.proofs.Placing.{stopping}

pub ruleset agreed = (calling, text_agree, attr_value_agree)

pub ruleset located = (stopping, text_placed, attr_value_placed)

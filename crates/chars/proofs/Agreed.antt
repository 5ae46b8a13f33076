-- What the public checks search: the two numbers in front, and the agreement of each rule with the grammar, or that its places lie within
-- the text. Assumes nothing.
use Rattle.spec.proofs.Inside.Checks.{chars_placed, char_refs_placed}
use Rattle.spec.proofs.Wellformed.Checks.{chars_agree, char_refs_agree}
use Rattle.source.proofs.Admitting.{calling}
use Rattle.source.proofs.Placing.{stopping}

pub ruleset agreed = (calling, chars_agree, char_refs_agree)

pub ruleset located = (stopping, chars_placed, char_refs_placed)

-- Each turn of `repeated` goes on towards the end. Assumes nothing.
use Rattle.std.proofs.Common.{◌-◌, vec_len}
use Rattle.vectors.proofs.text.repeated.Given as goal

abbrev pub decreases-loop-text : goal.decreases-loop-text
decreases-loop-text l = l.end - vec_len l.text

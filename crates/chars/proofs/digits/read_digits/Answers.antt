-- What is left to show of `read_digits`: a base's law is not searched. Assumes nothing.
use Rattle.chars.proofs.DigitRuns.{digit_runs}
use Rattle.chars.proofs.digits.read_digits.Goals as goal

pub loop-i-init : goal.loop-i-init
loop-i-init g c = let k = g.met.B.Base.is_base c.args.base.now in search digit_runs

pub returns-then-not-has : goal.returns-then-not-has
returns-then-not-has g c = let k = g.met.B.Base.is_base c.args.base.now in search digit_runs

pub overflow_mul-value : goal.overflow_mul-value
overflow_mul-value g c = let k = g.met.B.Base.is_base c.args.base.now in search digit_runs

pub overflow_add-value : goal.overflow_add-value
overflow_add-value g c = let k = g.met.B.Base.is_base c.args.base.now in search digit_runs

pub returns-then-value-ge-PAST_POINTS : goal.returns-then-value-ge-PAST_POINTS
returns-then-value-ge-PAST_POINTS g c = let k = g.met.B.Base.is_base c.args.base.now in search digit_runs

pub loop-i-preserved : goal.loop-i-preserved
loop-i-preserved g c = let k = g.met.B.Base.is_base c.args.base.now in search digit_runs

pub returns : goal.returns
returns g c = let k = g.met.B.Base.is_base c.args.base.now in search digit_runs

-- What is left to show of `past_run`. Assumes nothing.
use mathlib.Core.Path.{sym, ◌∙◌}
use native.Mathlib.Omega.{arith}
use borrow.Author.Rules.{rules}
use Rattle.search.proofs.Runs.{run_stop, run_go, run_over}
use Rattle.search.proofs.spans.past_run.Goals as goal

pub returns-then-not-has : goal.returns-then-not-has
returns-then-not-has g c =
    omega (arith, run_stop (g.C.Class.class c.args.of.now) c.args.s.now c.args.at c.loop-i.i c.loop-i.invariant c.loop-i-test.true (sym c.has.ensures ∙ (search rules)))

pub loop-i-preserved : goal.loop-i-preserved
loop-i-preserved g c =
    run_go (g.C.Class.class c.args.of.now) c.args.s.now c.args.at c.loop-i.i c.loop-i.invariant c.loop-i-test.true (sym c.has.ensures ∙ (search rules))

pub returns : goal.returns
returns g c =
    run_over (g.C.Class.class c.args.of.now) c.args.s.now c.args.at c.loop-i.i c.loop-i.invariant c.max.result c.loop-i.auto.i c.loop-i.auto.i-end (omega arith) c.max.ensures

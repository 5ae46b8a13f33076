-- What is left to show of `first`. Assumes nothing.
use Rattle.search.specs.Places.{stop}
use Rattle.search.proofs.Stopping.{away_run}
use Rattle.search.proofs.quotes.Marks.first.Goals as goal

pub returns : goal.returns
returns c =
    let m = c.args.self in
    away_run (stop m.sign m.other) c.args.s.now c.args.at _ _ c.past_blocks.ensures c.past_run.ensures

-- What is left to show of `admitted`. Assumes nothing.
use borrow.Author.Rules.{rules}
use Rattle.spec.specs.Reading.Readers.{throughout}
use Rattle.source.proofs.Admitting.{place_left, place_passed}
use Rattle.chars.proofs.rules.admitted.Goals as goal

pub returns-in_err-walk : goal.returns-in_err-walk
returns-in_err-walk g c = search (place_left (throughout g.R.Rule.reader), rules)

pub returns : goal.returns
returns g c = search (place_passed (throughout g.R.Rule.reader), rules)

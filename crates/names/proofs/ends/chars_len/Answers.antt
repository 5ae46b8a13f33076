-- What is left to show of `chars_len`. Assumes nothing.
use borrow.Author.Rules.{rules}
use Rattle.names.proofs.PlaceLaws.{run_fits}
use Rattle.names.proofs.ends.chars_len.Goals as goal

pub overflow_add-result : goal.overflow_add-result
overflow_add-result c = search (rules, run_fits)

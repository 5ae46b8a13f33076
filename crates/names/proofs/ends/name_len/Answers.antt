-- What is left to show of `name_len`. Assumes nothing.
use borrow.Author.Rules.{rules}
use Rattle.names.proofs.PlaceLaws.{width_in}
use Rattle.names.proofs.ends.name_len.Goals as goal

pub slice_bounds-decoded_len-count : goal.slice_bounds-decoded_len-count
slice_bounds-decoded_len-count c = search (rules, width_in)

pub slice_bounds-decoded_len-start : goal.slice_bounds-decoded_len-start
slice_bounds-decoded_len-start c = search (rules, width_in)

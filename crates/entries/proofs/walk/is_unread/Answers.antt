-- What is left to show of `is_unread`. Assumes nothing.
use borrow.Author.Rules.{rules}
use Rattle.entries.proofs.Walking.{unread_fits, unread_part, unread_body}
use Rattle.entries.proofs.walk.is_unread.Goals as goal

pub overflow_add-from : goal.overflow_add-from
overflow_add-from c = search (unread_fits, c.keyword_size.ensures, c.in-Some.is, rules)

pub slice_bounds-has_pe_reference-count : goal.slice_bounds-has_pe_reference-count
slice_bounds-has_pe_reference-count c = search (unread_part, c.keyword_size.ensures, c.in-Some.is, rules)

pub slice_bounds-has_pe_reference-start : goal.slice_bounds-has_pe_reference-start
slice_bounds-has_pe_reference-start c = search (unread_part, c.keyword_size.ensures, c.in-Some.is, rules)

pub returns : goal.returns
returns c = search (unread_body, rules)

-- What is left to show of `need_ncname`. Assumes nothing.
use Rattle.cursor.proofs.Parts.{uncoloned}
use Rattle.cursor.proofs.tokens.need_ncname.Goals as goal

pub slice_bounds-find_byte-end : goal.slice_bounds-find_byte-end
slice_bounds-find_byte-end c = search (uncoloned, c.in_ok-end.was)

pub overflow_add-at : goal.overflow_add-at
overflow_add-at c = search (uncoloned, c.in_ok-end.was)

-- The type of the words that the order of reading names, as contracts can import it. Assumes nothing.
use Prim.Native.String.{String}

abbrev pub Word : Type 0
Word = String

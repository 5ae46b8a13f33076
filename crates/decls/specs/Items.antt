-- Lists with bars: the items after the first. Assumes nothing.
use Rattle.spec.specs.Grammar.Languages.{ascii}
use Rattle.spec.specs.Reading.Refusals.{unexpected}
use Rattle.spec.specs.Reading.Readers.{Reader, ◌>>◌, starts, word, while}
use Rattle.spec.specs.Reading.Dtd.{after}

abbrev pub other_items : Reader → Reader
other_items r = while (starts (ascii "|")) (after "|" r) >> word ")" unexpected

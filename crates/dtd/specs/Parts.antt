-- The two optional parts of check_doctype, which the code names apart. Assumes nothing.
use Rattle.std.specs.Prelude.{◌||◌}
use Rattle.spec.specs.Grammar.Languages.{ascii}
use Rattle.spec.specs.Grammar.Names.{Dialect}
use Rattle.spec.specs.Reading.Refusals.{unexpected, too_deep}
use Rattle.spec.specs.Reading.Readers.{Reader, ◌>>◌, nothing, starts, choose, on, word}
use Rattle.spec.specs.Reading.Dtd.{skip_s, parse_external_id, parse_internal_subset}

unfoldable pub id_part : Reader
id_part = choose (λ w. starts (ascii "SYSTEM") w || starts (ascii "PUBLIC") w) (parse_external_id >> skip_s) nothing

unfoldable pub subset_part : Dialect → Reader
subset_part D = on "[" (word "[" unexpected >> parse_internal_subset D too_deep >> skip_s) nothing

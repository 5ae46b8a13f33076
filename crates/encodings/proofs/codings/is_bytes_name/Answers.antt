-- What is left to show of `is_bytes_name`. Assumes nothing.
use borrow.Author.Rules.{rules}
use Rattle.spec.specs.Grammar.Encodings.{iso_part, windows_part}
use Rattle.spec.specs.Grammar.Languages.{ascii}
use Rattle.encodings.proofs.Naming.{part_is, one_no}
use Rattle.encodings.proofs.codings.is_bytes_name.Goals as goal

pub returns-else-is_some_and : goal.returns-else-is_some_and
returns-else-is_some_and c =
    one_no _ _ _ _
    (part_is (ascii "iso-8859-") c.args.name.now iso_part c.rest_of.result _ c.is_some_and.result c.rest_of.ensures c.is_some_and.ensures (λ p q. search rules))
    c.if-is_some_and.false
    (part_is (ascii "windows-125") c.args.name.now windows_part c.rest_of-else-is_some_and.result _ c.is_some_and-else-is_some_and.result c.rest_of-else-is_some_and.ensures c.is_some_and-else-is_some_and.ensures (λ p q. search rules))

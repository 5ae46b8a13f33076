-- What is left to show of `is_utf8_name`. Assumes nothing.
use Rattle.spec.specs.Grammar.Languages.{ascii}
use Rattle.encodings.proofs.Naming.{word_is, one_yes, one_no}
use Rattle.encodings.proofs.codings.is_utf8_name.Goals as goal

pub returns-then-eq_ignore_ascii_case : goal.returns-then-eq_ignore_ascii_case
returns-then-eq_ignore_ascii_case c =
    one_yes _ _ _ (word_is (ascii "utf-8") c.args.name.now _ c.eq_ignore_ascii_case.ensures.test) c.if-eq_ignore_ascii_case.true

pub returns-else-eq_ignore_ascii_case : goal.returns-else-eq_ignore_ascii_case
returns-else-eq_ignore_ascii_case c =
    one_no _ _ _ _ (word_is (ascii "utf-8") c.args.name.now _ c.eq_ignore_ascii_case.ensures.test) c.if-eq_ignore_ascii_case.false
    (word_is (ascii "us-ascii") c.args.name.now _ c.eq_ignore_ascii_case-else-eq_ignore_ascii_case.ensures.test)

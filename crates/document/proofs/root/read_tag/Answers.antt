-- What is left to show of `read_tag`. Assumes nothing.
use Rattle.spec.specs.Reading.Document.{read_tag}
use Rattle.document.proofs.Tags.{tags}
use Rattle.document.proofs.root.read_tag.Goals as goal

pub returns-then-s-i : goal.returns-then-s-i
unfolding read_tag
returns-then-s-i c = search (tags, c.in_ok-i.was) depth 7

pub returns : goal.returns
unfolding read_tag
returns c = search (tags, c.in_ok-i.was) depth 7

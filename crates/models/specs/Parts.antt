-- Parts of parse_group, parse_mixed and parse_contentspec that are functions of their own. Assumes nothing.
use Rattle.std.specs.Prelude.{◌&&◌, ◌+◌, drop}
use Rattle.spec.specs.Grammar.Characters.{space}
use Rattle.spec.specs.Grammar.Languages.{ascii}
use Rattle.spec.specs.Grammar.Names.{Dialect}
use Rattle.spec.specs.Reading.Refusals.{unexpected, bad_connector, too_deep}
use Rattle.spec.specs.Reading.Readers.{Reader, ◌>>◌, nothing, refuse, starts, choose, on, word, run, while}
use Rattle.spec.specs.Reading.Wellformed.{name}
use Rattle.spec.specs.Reading.Dtd.{after, connected, parse_mixed, parse_children}

-- what follows a group's first particle and white space, over the reader of a particle
unfoldable pub group_end : Reader → Reader
group_end cp = on "|" (connected "|" cp) (on "," (connected "," cp) nothing) >> word ")" unexpected

-- '|' and a name again and again, then ")*"
unfoldable pub mixed_names : Dialect → Reader
mixed_names D = while (starts (ascii "|")) (after "|" (name D)) >> word ")" unexpected >> word "*" bad_connector

-- what follows "#PCDATA" and white space
unfoldable pub mixed_end : Dialect → Reader
mixed_end D = on "|" (after "|" (name D) >> mixed_names D) (word ")" unexpected >> on "*" (word "*" unexpected) nothing)

-- a mixed model or children
unfoldable pub model : Dialect → Reader
model D =
    choose (λ w. starts (ascii "(") w && starts (ascii "#PCDATA") (drop (1 + run space (drop 1 w)) w)) (parse_mixed D)
    (on "(" (parse_children D too_deep) (refuse unexpected))

-- What is left to show of `keyword_size`. Assumes nothing.
use Rattle.entries.specs.Kinds.{kind_of, keyword_size, some_bytes}
use Rattle.entries.proofs.Naming.{sizes}
use Rattle.entries.proofs.kinds.keyword_size.Goals as goal

pub returns-in-Element : goal.returns-in-Element
unfolding kind_of keyword_size some_bytes
returns-in-Element c = search sizes

pub returns-in-Attlist : goal.returns-in-Attlist
unfolding kind_of keyword_size some_bytes
returns-in-Attlist c = search sizes

pub returns-in-Entity : goal.returns-in-Entity
unfolding kind_of keyword_size some_bytes
returns-in-Entity c = search sizes

pub returns-in-Notation : goal.returns-in-Notation
unfolding kind_of keyword_size some_bytes
returns-in-Notation c = search sizes

pub returns-in-Instruction : goal.returns-in-Instruction
unfolding kind_of keyword_size some_bytes
returns-in-Instruction c = search sizes

pub returns-in-Comment : goal.returns-in-Comment
unfolding kind_of keyword_size some_bytes
returns-in-Comment c = search sizes

pub returns-in-Reference : goal.returns-in-Reference
unfolding kind_of keyword_size some_bytes
returns-in-Reference c = search sizes

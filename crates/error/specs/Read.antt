-- What an answer of the code says, case by case, and what a reader of the order of reading says at a place in a text. Assumes nothing.
use Rattle.std.specs.Prelude.{Bool, false, List, ℕ, ◌+◌, length, drop, Result, Ok, Err}
use Rattle.spec.specs.Basics.{pick}
use Rattle.spec.specs.Reading.Refusals as Refusals
use Rattle.spec.specs.Reading.Refusals.{number, too_long, not_utf8, no_space, bad_name, has_colon, no_literal, unterminated, unexpected, trailing, bad_pubid, reserved_target, double_hyphen, bad_connector, less_than, bad_reference, illegal_reference, bad_value, illegal_char, section_end, too_deep, out_of_order}
use Rattle.spec.specs.Reading.Readers as Readers
use Rattle.spec.specs.Reading.Readers.{ok, err, Reader, starts}
use Rattle.error.specs.declared.Fault.{Fault}
use Rattle.error.specs.declared.refusal.Refusal.{Refusal}
use Rattle.error.specs.declared.refusal.Refusal.TheVariants.{TooLong, NotUtf8, NoSpace, BadName, HasColon, NoLiteral, Unterminated, Unexpected, Trailing, BadPubid, ReservedTarget, DoubleHyphen, BadConnector, LessThan, BadReference, IllegalReference, BadValue, IllegalChar, SectionEnd, TooDeep, OutOfOrder}

-- the refusal of the order of reading that a refusal of the code is
abbrev pub reason : Refusal → Refusals.Refusal
reason TooLong = too_long
reason NotUtf8 = not_utf8
reason NoSpace = no_space
reason BadName = bad_name
reason HasColon = has_colon
reason NoLiteral = no_literal
reason Unterminated = unterminated
reason Unexpected = unexpected
reason Trailing = trailing
reason BadPubid = bad_pubid
reason ReservedTarget = reserved_target
reason DoubleHyphen = double_hyphen
reason BadConnector = bad_connector
reason LessThan = less_than
reason BadReference = bad_reference
reason IllegalReference = illegal_reference
reason BadValue = bad_value
reason IllegalChar = illegal_char
reason SectionEnd = section_end
reason TooDeep = too_deep
reason OutOfOrder = out_of_order

-- what a check of the code answers, and its number; a yes-or-no call that refuses says no
abbrev pub Verdict : Type 0
Verdict = Result Unit Refusal

abbrev pub code : {A : Type 0} → Result A Refusal → ℕ
code (Ok _) = 0
code (Err r) = number (reason r)

abbrev pub yes : Result Bool Refusal → Bool
yes (Ok b) = b
yes (Err r) = false

-- what is said of a place in a text: how far was read; or a refusal, and the place where it is met
pub data Said : Type 0 where
  passed : ℕ → Said
  refused : Refusals.Refusal → ℕ → Said

-- what a reader of the code answers, and what each case of it says
abbrev pub Answer : Type 0
Answer = Result ℕ Fault

unfoldable pub said : Answer → Said
said (Ok i) = passed i
said (Err f) = refused (reason f.refusal) f.place

-- its number, and the place where reading stopped
abbrev pub answer_number : Answer → ℕ
answer_number (Ok i) = 0
answer_number (Err f) = number (reason f.refusal)

abbrev pub answer_place : Answer → ℕ
answer_place (Ok i) = i
answer_place (Err f) = f.place

-- a reader's result, as places of the whole text
abbrev pub placed : ℕ → Readers.Result → Said
placed at (ok k) = passed (at + k)
placed at (err r k) = refused r (at + k)

-- what the reader R finds in s at a place; past the end nothing is left
unfoldable pub read : Reader → List ℕ → ℕ → Said
read R s at = placed at (R (drop at s))

-- a word's bytes at a place: the place after them, or the refusal, which is met at the place itself
unfoldable pub eaten : List ℕ → Refusals.Refusal → List ℕ → ℕ → Said
eaten kw n s at = pick (starts kw (drop at s)) (passed (at + length kw)) (refused n at)

-- Refusals, and their numbers in the table of docs/SCOPE.md. Assumes nothing.
use Rattle.std.specs.Prelude.{ℕ}

pub data Refusal : Type 0 where
  -- longer than 1,048,576 bytes (added); not UTF-8 (added)
  too_long not_utf8 : Refusal
  -- white space required; bad or missing name, token or target; colon
  no_space bad_name has_colon : Refusal
  -- quoted literal missing; unterminated literal, body, comment, instruction or subset
  no_literal unterminated : Refusal
  -- another sign or word expected, an unexpected character, a conditional section; trailing or unexpected content at the end
  unexpected trailing : Refusal
  -- character in a public identifier; reserved target (xml in any case); "--" in a comment
  bad_pubid reserved_target double_hyphen : Refusal
  -- mixed connectors, or a mixed model with names not ended by ")*"
  bad_connector : Refusal
  -- '<' in an attribute value or default
  less_than : Refusal
  -- malformed character reference; reference to an illegal character
  bad_reference illegal_reference : Refusal
  -- version, encoding or standalone value
  bad_value : Refusal
  -- illegal XML character; "]]>" in text
  illegal_char section_end : Refusal
  -- a 65th open group (added)
  too_deep : Refusal
  -- gate: declaration not first, second DOCTYPE, wrong phase
  out_of_order : Refusal

abbrev pub number : Refusal → ℕ
number too_long = 1
number not_utf8 = 2
number no_space = 3
number bad_name = 4
number has_colon = 5
number no_literal = 6
number unterminated = 7
number unexpected = 8
number trailing = 9
number bad_pubid = 10
number reserved_target = 11
number double_hyphen = 12
number bad_connector = 13
number less_than = 14
number bad_reference = 15
number illegal_reference = 16
number bad_value = 17
number illegal_char = 18
number section_end = 19
number too_deep = 20
number out_of_order = 21

-- The rules of text and attribute values, which differ in the word that they refuse. The proofs call no tactic. Assumes nothing.
use Rattle.std.specs.Prelude.{List, ℕ, refl}
use Rattle.spec.specs.Reading.Refusals.{Refusal, less_than, section_end}
use Rattle.spec.specs.Reading.Readers.{Reader, refuse, starts, choose, on}
use Rattle.spec.specs.Reading.Wellformed.{legal_byte, char_ref, text_step, attr_step}
use Rattle.spec.proofs.Base.Somes.{some_refuse}
use Rattle.chars.specs.Bytes.{suspect, special}
use Rattle.chars.specs.Rules.{Steady, steady_on, steady_legal_refs}

-- legal characters and references, but a word is refused where it stands
abbrev pub without : List ℕ → Refusal → Reader
without kw n = choose (starts kw) (refuse n) (on "&#" char_ref legal_byte)

pub steady_text : Steady text_step (special 0x5D)
unfolding text_step suspect special
steady_text = steady_on "]]>" (refuse section_end) (on "&#" char_ref legal_byte) (special 0x5D) refl (some_refuse section_end) (steady_legal_refs 0x5D)

pub steady_attr : Steady attr_step (special 0x3C)
unfolding attr_step suspect special
steady_attr = steady_on "<" (refuse less_than) (on "&#" char_ref legal_byte) (special 0x3C) refl (some_refuse less_than) (steady_legal_refs 0x3C)

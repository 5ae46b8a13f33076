-- Which readers take a byte or more, by how they are made. Assumes nothing.
use mathlib.Core.Bool.{Bool}
use mathlib.Core.List.{List, ◌∷◌}
use mathlib.Core.Path.{◌≡◌}
use Prim.Native.Nat.{ℕ, ◌<◌}
use Prim.Native.String.{String}
use native.Mathlib.Omega.{arith}
use lib.ListN.{length}
use Rattle.spec.specs.Grammar.Languages.{ascii}
use Rattle.spec.specs.Reading.Readers.{word_of, ok, Reader, as_one, ◌>>◌, refuse, starts, choose, on, word, a_byte, char}
use Rattle.spec.specs.Reading.Refusals.{Refusal, bad_reference}
use Rattle.spec.specs.Reading.Wellformed.{legal_byte, char_ref, ref_or_byte, text_step, attr_step}
use Rattle.spec.proofs.Base.Loops.{Somes}
use Rattle.spec.proofs.Base.Results.{err_ok, ok_inj, by_reader, else_refused, then_ok, one_ok}
use Rattle.spec.proofs.Characters.Utf8.{char_point, point_size}

pub some_byte : Somes a_byte
unfolding a_byte
some_byte = record { some = λ b w j e. let z : 1 ≡ j = ok_inj 1 j e in omega arith }

pub some_refuse : (n : Refusal) → Somes (refuse n)
unfolding refuse
some_refuse n = record { some = λ b w j e. absurd (err_ok n j e) }

pub some_one : (A : Reader) → Somes A → Somes (as_one A)
some_one A p = record { some = λ b w j e. p.some b w j (one_ok A (b ∷ w) j e) }

pub some_choose : (t : List ℕ → Bool) (A B : Reader) → Somes A → Somes B → Somes (choose t A B)
unfolding choose
some_choose t A B p q = record { some = λ b w j. by_reader (t (b ∷ w)) A B (b ∷ w) (ok j) (λ _. p.some b w j) (λ _. q.some b w j) }

pub some_on : (k : String) (A B : Reader) → Somes A → Somes B → Somes (on k A B)
unfolding on
some_on k A B p q = some_choose (starts (ascii k)) A B p q

pub some_word : (k : String) (n : Refusal) → 0 < length (ascii k) → Somes (word k n)
unfolding word_of
some_word k n h = record {
  some = λ b w j e. let z = ok_inj (length (ascii k)) j (else_refused n 0 (starts (ascii k) (b ∷ w)) (ok (length (ascii k))) j e).1 in omega arith;
}

pub some_then : (A B : Reader) → Somes A → Somes (A >> B)
some_then A B p = record { some = λ b w j e. let (i, k, f, g, l) = then_ok A B (b ∷ w) j e in let z = p.some b w i f in omega arith }

pub some_char : (p : ℕ → Bool) (n : Refusal) → Somes (char p n)
some_char p n = record { some = λ b w j e. let (c, d, _) = char_point p n (b ∷ w) j e in (point_size c j (b ∷ w) d).0 }

-- the steps of the checks
pub some_legal : Somes legal_byte
unfolding legal_byte
some_legal = some_choose _ _ _ (some_refuse _) some_byte

pub some_ref : Somes char_ref
unfolding char_ref
some_ref =
    some_on "&#x" _ _ (some_one _ (some_then _ _ (some_word "&#x" bad_reference (omega arith)))) (some_one _ (some_then _ _ (some_word "&#" bad_reference (omega arith))))

pub some_ref_or_byte : Somes ref_or_byte
unfolding ref_or_byte
some_ref_or_byte = some_on "&#" _ _ some_ref some_byte

pub some_text : Somes text_step
unfolding text_step
some_text = some_on "]]>" _ _ (some_refuse _) (some_on "&#" _ _ some_ref some_legal)

pub some_attr : Somes attr_step
unfolding attr_step
some_attr = some_on "<" _ _ (some_refuse _) (some_on "&#" _ _ some_ref some_legal)

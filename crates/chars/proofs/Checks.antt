-- The checks of characters and references: each is one step again and again to the text's end. Assumes nothing.
use mathlib.Core.Path.{◌≡◌, refl, sym, ap, ◌∙◌}
use mathlib.Core.Bool.{Bool, false}
use mathlib.Core.List.{List}
use Prim.Native.Nat.{ℕ, ◌+◌, ◌≤◌}
use native.Mathlib.Omega.{arith}
use lib.ListN.{length, drop}
use borrow.Author.Rules.{rules}
use Rattle.std.specs.Prelude.{Ok, Err}
use Rattle.spec.specs.Reading.Readers.{ok, number_of, stop_of, throughout}
use Rattle.spec.specs.Reading.Wellformed.{legal_byte, check_chars}
use Rattle.spec.proofs.Inside.Readers.{in_chars}
use Rattle.error.specs.Read.{Answer, said, answer_place, read}
use Rattle.error.specs.declared.Fault.{Fault}
use Rattle.error.proofs.Laws.{was_ok, walk_end, answered_at}
use Rattle.search.specs.Runs.{away}
use Rattle.search.proofs.Runs.{passing}
use Rattle.chars.specs.Bytes.{suspect}
use Rattle.chars.specs.Rules.{steady_suspect}
use Rattle.chars.proofs.Steps.{walk_skip}

-- the check is its step to the text's end
chars_from : (s : List ℕ) → read (throughout legal_byte) s 0 ≡ read check_chars s 0
unfolding check_chars
chars_from s = refl

-- a text without a suspect byte
pub calm_text : (s : List ℕ) (i : ℕ) (found : Bool) → length s ≤ i → (found ≡ false → i + away suspect (drop i s) ≡ 0 + away suspect (drop 0 s)) → found ≡ false → check_chars s ≡ ok (length s)
unfolding said
calm_text s i found h inv f =
    let w = walk_skip legal_byte suspect s 0 i (read check_chars s 0) (record { onward = omega arith; ends = inv f }) steady_suspect (chars_from s) in
    let (k, (e, g)) = was_ok check_chars s 0 i (Ok i) (walk_end legal_byte s i (read check_chars s 0) w h) refl in
    let l : stop_of (check_chars s) ≤ length s = in_chars.inside s in
    let m : k ≤ length s = (rw e at l) in
    let n : k ≡ length s = omega arith in
    e ∙ ap ok n

-- what is told of it
pub calm_number : (s : List ℕ) → check_chars s ≡ ok (length s) → 0 ≡ number_of (check_chars s)
calm_number s e = rw e

pub calm_end : (s : List ℕ) → check_chars s ≡ ok (length s) → length s ≡ stop_of (check_chars s)
calm_end s e = rw e

-- and the place where the answer stopped
pub end_ok : (s : List ℕ) (i : ℕ) (a : Answer) → said a ≡ read check_chars s 0 → a ≡ Ok i → i ≡ stop_of (check_chars s)
end_ok s i a h f = ap answer_place (sym f) ∙ answered_at check_chars s a h

pub end_err : (s : List ℕ) (x : Fault) (a : Answer) → said a ≡ read check_chars s 0 → a ≡ Err x → x.place ≡ stop_of (check_chars s)
end_err s x a h f = ap answer_place (sym f) ∙ answered_at check_chars s a h

-- what is told of the checks' answers, and what the pass searches
pub ruleset ended = (end_ok, end_err, rules)

pub ruleset calm_pass = (calm_text, passing)

-- One character of a class: its first sign, and its reader. Assumes nothing.
use mathlib.Core.Bool.{Bool, true, false}
use mathlib.Core.List.{List, [], ◌∷◌, ◌++◌}
use mathlib.Core.Logic.{⊎_elim}
use mathlib.Core.Path.{◌≡◌, refl}
use Prim.Native.Nat.{ℕ, suc, ◌+◌, ◌<◌, ◌/◌, ◌≤◌}
use native.Mathlib.Omega.{arith}
use lib.Dec.{T, ltb}
use lib.ListN.{length}
use Rattle.spec.specs.Basics.{pick}
use Rattle.spec.specs.Grammar.Characters.{Text}
use Rattle.spec.specs.Grammar.Languages.{Ch, any}
use Rattle.spec.specs.Grammar.Utf8.{scalar, encode}
use Rattle.spec.specs.Reading.Readers.{ok, begins, char}
use Rattle.spec.specs.Reading.Refusals.{Refusal}
use Rattle.spec.specs.Reading.Utf8.{decode1}
use Rattle.spec.proofs.Agreement.Reads.{Took, Reads, Next, Leads}
use Rattle.spec.proofs.Agreement.Signs.{kind, Class}
use Rattle.spec.proofs.Base.Tests.{T→true, true→T, decide, leb_true, leb_no}
use Rattle.spec.proofs.Characters.Text.{text_after}
use Rattle.spec.proofs.Characters.Utf8.{encode_nonempty, encode_1, encode_2, encode_3, encode_4, decode_1, decode_encode, decode_read, Read, char_point, Row, row_1, row_2, row_3, row_4, row_of}

-- a character has a byte or more
pub ch_some : {p : ℕ → Bool} (u : List ℕ) → Ch p u → 0 < length u
ch_some u c = rw c.bytes (encode_nonempty c.char (T→true (scalar c.char) c.is_scalar))

-- one character of a class: f has the first signs of its bytes
abbrev pub sign : ℕ → ℕ
sign c = pick (ltb c 128) c 128

pub kind_encode : (c : ℕ) (v : List ℕ) → kind (encode c ++ v) ≡ sign c
unfolding kind
kind_encode c v = go (row_of c)
  where
    high : (a : ℕ) (w : List ℕ) → 128 ≤ a → 128 ≤ c → encode c ≡ a ∷ w → kind (encode c ++ v) ≡ sign c
    high a w h l e = rw (e, leb_no (suc a) 128 (omega arith), leb_no (suc c) 128 (omega arith))

    go : Row c → kind (encode c ++ v) ≡ sign c
    go (row_1 g) = rw (encode_1 c g)
    go (row_2 h g) = high (0xC0 + c / 64) _ (omega arith) h (encode_2 c h g)
    go (row_3 h g) = high (0xE0 + c / 4096) _ (omega arith) (omega arith) (encode_3 c h g)
    go (row_4 h) = high (0xF0 + c / 262144) _ (omega arith) (omega arith) (encode_4 c h)

pub begins_ch : (p : ℕ → Bool) (u v : List ℕ) → Ch p u → begins p (u ++ v) ≡ true
unfolding begins
begins_ch p u v c = rw (c.bytes, decode_encode c.char v (T→true (scalar c.char) c.is_scalar), T→true (p c.char) c.in_class)

-- no character of the class where a sign of q stands
pub begins_stop : (p : ℕ → Bool) (q : Class) → (T (q 128) → ⊥) → ((b : ℕ) → b < 128 → T (q b) → p b ≡ false) → (v : List ℕ) → T (q (kind v)) → begins p v ≡ false
unfolding begins decode1 kind
begins_stop p q no128 small [] h = refl
begins_stop p q no128 small (b ∷ v) h =
    ⊎_elim (λ e. rw (decode_1 b v (leb_true (suc b) 128 e)) (small b (leb_true (suc b) 128 e) (rw e at h))) (λ e. absurd (no128 (rw e at h))) (decide (ltb b 128))

pub one_char : (p : ℕ → Bool) (n : Refusal) (f : Class) → ((c : ℕ) → T (p c) → T (f (sign c))) → Reads (char p n) (Ch p) (Next any) f
unfolding char Text
one_char p n f lead = record { sound = sound_by; complete = complete_by; leads = leads_by }
  where
    sound_by : (w : List ℕ) (k : ℕ) → Text w → char p n w ≡ ok k → Took (Ch p) k w
    sound_by w k tw e =
        let (c, d, g) = char_point p n w k e in
        let r : Read c k w = decode_read c k w d in
        record {
          taken = encode c;
          rest = r.rest;
          split = r.split;
          size = r.size;
          holds = record { char = c; is_scalar = true→T (scalar c) r.is_scalar; in_class = true→T (p c) g; bytes = refl };
          left = text_after c r.rest r.is_scalar r.split tw;
        }

    complete_by : (u v : List ℕ) → Ch p u → Next any v → char p n (u ++ v) ≡ ok (length u)
    complete_by u v c t = rw (c.bytes, decode_encode c.char v (T→true (scalar c.char) c.is_scalar), T→true (p c.char) c.in_class)

    leads_by : Leads (Ch p) (Next any) f
    leads_by u v c t = rw (c.bytes, kind_encode c.char v) (lead c.char c.in_class)

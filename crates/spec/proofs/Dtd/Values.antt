-- Entity values and attribute values: literals whose character references are checked. Assumes nothing.
use mathlib.Core.Bool.{Bool, true, false, not}
use mathlib.Core.List.{List, [], ◌∷◌, ◌++◌}
use mathlib.Core.Path.{◌≡◌, refl}
use Prim.Native.Nat.{ℕ, ◌<◌}
use native.Mathlib.Omega.{arith}
use lib.Dec.{T, eqb}
use lib.ListN.{length}
use Rattle.spec.specs.Grammar.Characters.{Text}
use Rattle.spec.specs.Grammar.Languages.{Ch, any, none_of}
use Rattle.spec.specs.Grammar.Literals.{EntityValue, AttValue}
use Rattle.spec.specs.Grammar.References.{Referring}
use Rattle.spec.specs.Reading.Dtd.{parse_quoted, check_att_value}
use Rattle.spec.specs.Reading.Readers.{ok, starts, choose, on, contains, a_byte}
use Rattle.spec.specs.Reading.Refusals.{less_than}
use Rattle.spec.specs.Reading.Utf8.{tail}
use Rattle.spec.specs.Reading.Wellformed.{ref_or_byte, check_char_refs}
use Rattle.spec.proofs.Agreement.Chars.{ch_some}
use Rattle.spec.proofs.Agreement.Holds.{contains_avoids, avoids_contains}
use Rattle.spec.proofs.Agreement.Reads.{Reads, Next}
use Rattle.spec.proofs.Base.Results.{unless_refuses_at}
use Rattle.spec.proofs.Base.Somes.{some_ref_or_byte}
use Rattle.spec.proofs.Base.Tests.{within_lo, eqb_no}
use Rattle.spec.proofs.Characters.Bytes.{avoids, avoids_parted, avoids_char, not_one}
use Rattle.spec.proofs.Dtd.Literals.{Inside, quoted_reads, quote_first}
use Rattle.spec.proofs.Wellformed.References.{Foreign, ref_avoids}
use Rattle.spec.proofs.Wellformed.Walks.{Step, walk_sound, walk_complete, walked_referring, referring_walked}

-- no tail begins a word of ASCII signs
pub tail_starts : (a : ℕ) (p : List ℕ) → a < 128 → (b : ℕ) (w : List ℕ) → tail b ≡ true → starts (a ∷ p) (b ∷ w) ≡ false
unfolding starts
tail_starts a p l b w h = let g = within_lo 0x80 0xBF b h in rw (eqb_no b a (λ e. omega arith))

-- a byte is there to take where a character stands
pub byte_taken : {p : ℕ → Bool} (u v : List ℕ) → Ch p u → a_byte (u ++ v) ≡ ok 1
unfolding a_byte
byte_taken [] v c = absurd (let z = ch_some [] c in omega arith)
byte_taken (b ∷ u) v c = refl

-- nothing is asked where a character stands
abbrev pub Free : List ℕ → Type 0
Free w = T true

-- the walk of check_char_refs, over text of which Q is known, in a class that Q ensures
pub ref_step : (p : ℕ → Bool) (Q : List ℕ → Type 0) → ((x y : List ℕ) → Q (x ++ y) → Q y) → ((u v : List ℕ) → Ch any u → Q (u ++ v) → Ch p u) → Step ref_or_byte p Q Free
unfolding ref_or_byte on choose a_byte
ref_step p Q rest classed = record {
  some = some_ref_or_byte;
  rest = rest;
  at_tail = λ b w h. rw (tail_starts 38 (35 ∷ []) (omega arith) b w h);
  at_ref = λ w e. rw e;
  takes = λ u v c n b. rw n (byte_taken u v c);
  legal = λ u v k c n q e. (classed u v c q, tt);
}

module _ (p : ℕ → Bool) (Q : List ℕ → Type 0) (rest : (x y : List ℕ) → Q (x ++ y) → Q y) (classed : (u v : List ℕ) → Ch any u → Q (u ++ v) → Ch p u) where
  pub refs_sound : (u : List ℕ) (j : ℕ) → Text u → Q u → check_char_refs u ≡ ok j → Referring p u
  unfolding check_char_refs
  refs_sound u j tu q e = walked_referring (walk_sound (ref_step p Q rest classed) u j tu q e)

  pub refs_complete : (u : List ℕ) → Referring p u → Q u → check_char_refs u ≡ ok (length u)
  unfolding check_char_refs
  refs_complete u r q = walk_complete (ref_step p Q rest classed) (referring_walked {B = Free} rest (λ w q. tt) u r q)

-- no reference holds a quote mark or '<'
pub quote_foreign : Foreign 34
quote_foreign = record { small = omega arith; opening = refl; opening_x = refl; closing = refl; no_digit = refl; no_hex = refl }

pub apostrophe_foreign : Foreign 39
apostrophe_foreign = record { small = omega arith; opening = refl; opening_x = refl; closing = refl; no_digit = refl; no_hex = refl }

pub less_foreign : Foreign 60
less_foreign = record { small = omega arith; opening = refl; opening_x = refl; closing = refl; no_digit = refl; no_hex = refl }

-- EntityValue: text without the quote
entity_inside : (a : ℕ) (p : ℕ → Bool) → Foreign a → p a ≡ false → ((c : ℕ) → (c ≡ a → ⊥) → T (p c)) → Inside check_char_refs (Referring p) a
entity_inside a p f n in_p = record {
  sound_in = λ u j tu h e. refs_sound p Q rest classed u j tu h e;
  complete_in = λ u r. (length u, refs_complete p Q rest classed u r (ref_avoids p a f n u r));
  free = ref_avoids p a f n;
}
  where
    Q : List ℕ → Type 0
    Q x = avoids a x ≡ true

    rest : (x y : List ℕ) → avoids a (x ++ y) ≡ true → avoids a y ≡ true
    rest x y h = (avoids_parted a x y h).1

    classed : (u v : List ℕ) → Ch any u → avoids a (u ++ v) ≡ true → Ch p u
    classed u v c h = avoids_char any p a f.small (λ c t. in_p c) c (avoids_parted a u v h).0

pub entity_value_reads : Reads (parse_quoted check_char_refs) EntityValue (Next any) quote_first
unfolding EntityValue
entity_value_reads =
    quoted_reads check_char_refs (Referring (none_of "\"")) (Referring (none_of "'"))
    (entity_inside 34 (none_of "\"") quote_foreign refl (not_one 34)) (entity_inside 39 (none_of "'") apostrophe_foreign refl (not_one 39))

-- AttValue: no '<' either
abbrev less : List ℕ → Bool
less = contains (60 ∷ [])

att_inside : (a : ℕ) (p : ℕ → Bool) → Foreign a → p a ≡ false → p 60 ≡ false → ((c : ℕ) → (c ≡ a → ⊥) → (c ≡ 60 → ⊥) → T (p c)) → Inside check_att_value (Referring p) a
unfolding check_att_value choose
att_inside a p f n m in_p = record {
  sound_in = λ u j tu h e.
      let (f, g) = unless_refuses_at "<" less_than (less u) check_char_refs u j e in
      refs_sound p Q rest classed u j tu (h, contains_avoids 60 u f) g;
  complete_in = λ u r. (length u, rw (avoids_contains 60 [] u (ref_avoids p 60 less_foreign m u r)) (refs_complete p Q rest classed u r (ref_avoids p a f n u r, ref_avoids p 60 less_foreign m u r)));
  free = ref_avoids p a f n;
}
  where
    Q : List ℕ → Type 0
    Q x = (avoids a x ≡ true) × (avoids 60 x ≡ true)

    rest : (x y : List ℕ) → (avoids a (x ++ y) ≡ true) × (avoids 60 (x ++ y) ≡ true) → (avoids a y ≡ true) × (avoids 60 y ≡ true)
    rest x y h = ((avoids_parted a x y h.0).1, (avoids_parted 60 x y h.1).1)

    classed : (u v : List ℕ) → Ch any u → (avoids a (u ++ v) ≡ true) × (avoids 60 (u ++ v) ≡ true) → Ch p u
    classed u v c h =
        avoids_char (λ c. not (eqb c 60)) p a f.small (λ c t d. in_p c d (λ k. less_no c k t))
        (avoids_char any (λ c. not (eqb c 60)) 60 (omega arith) (λ c t d. rw (eqb_no c 60 d) tt) c (avoids_parted 60 u v h.1).0) (avoids_parted a u v h.0).0
      where
        less_no : (c : ℕ) → c ≡ 60 → T (not (eqb c 60)) → ⊥
        less_no c k t = rw k at t

pub att_value_reads : Reads (parse_quoted check_att_value) AttValue (Next any) quote_first
unfolding AttValue
att_value_reads =
    quoted_reads check_att_value (Referring (none_of "<\"")) (Referring (none_of "<'"))
    (att_inside 34 (none_of "<\"") quote_foreign refl refl (λ c d e. rw (eqb_no c 60 e, eqb_no c 34 d) tt)) (att_inside 39 (none_of "<'") apostrophe_foreign refl refl (λ c d e. rw (eqb_no c 60 e, eqb_no c 39 d) tt))

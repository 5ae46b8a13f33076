-- Literals in quotes, and external identifiers. Assumes nothing.
use mathlib.Core.Bool.{Bool, true, false, ◌&&◌, ◌||◌, or-true}
use mathlib.Core.List.{List, [], ◌∷◌}
use mathlib.Core.Logic.{⊎_elim}
use mathlib.Core.Path.{◌≡◌, refl, ◌∙◌, ap}
use Prim.Native.Nat.{ℕ, suc, ◌<◌}
use Prim.Native.String.{String}
use native.Mathlib.Omega.{arith}
use lib.Dec.{T, ltb, eqb}
use lib.ListN.{length}
use Rattle.spec.specs.Basics.{within}
use Rattle.spec.specs.Grammar.Characters.{Text}
use Rattle.spec.specs.Grammar.Languages.{Lang, lit, ascii, Ch, ◌·◌, Star, any, one_of, none_of}
use Rattle.spec.specs.Grammar.Literals.{Quoted, SystemLiteral, PubidLiteral, ExternalID, pubid_char}
use Rattle.spec.specs.Grammar.References.{digit}
use Rattle.spec.specs.Reading.Dtd.{parse_quoted, check_pubid, parse_external_id}
use Rattle.spec.specs.Reading.Readers.{Result, ok, nothing, run, up_to, starts}
use Rattle.spec.specs.Reading.Refusals.{Refusal, unterminated, no_literal, unexpected, bad_pubid}
use Rattle.spec.proofs.Agreement.Choices.{on_word}
use Rattle.spec.proofs.Agreement.Holds.{first_sign, sign_first}
use Rattle.spec.proofs.Agreement.Reads.{Reads, Next, seq, weaken}
use Rattle.spec.proofs.Agreement.Runs.{need, whole_run, run_whole, among_ascii, Small, small_or, small_within}
use Rattle.spec.proofs.Agreement.Signs.{Class, by_signs, sub_any, sub_refl, kind}
use Rattle.spec.proofs.Agreement.UpTo.{up_to_reads}
use Rattle.spec.proofs.Agreement.Words.{wd, starts_sign}
use Rattle.spec.proofs.Base.Results.{else_refused}
use Rattle.spec.proofs.Base.Tests.{T→true, true→T, leb_yes, eqb-true, eqb_yes, both_left, two_signs}
use Rattle.spec.proofs.Characters.Bytes.{avoids, class_avoids, avoids_class, not_one}
use Rattle.spec.proofs.Characters.Text.{star_map}

-- what may stand in a literal: a text without the quote that passes the check
pub record Inside (check : List ℕ → Result) (X : Lang) (a : ℕ) : Type 0 where
  pub sound_in : (u : List ℕ) (j : ℕ) → Text u → avoids a u ≡ true → check u ≡ ok j → X u
  pub complete_in : (u : List ℕ) → X u → (j : ℕ) × (check u ≡ ok j)
  pub free : (u : List ℕ) → X u → avoids a u ≡ true

up_to_quote : (s : String) (a : ℕ) (n : Refusal) (check : List ℕ → Result) (X : Lang) → ascii s ≡ a ∷ [] → a < 128 → Inside check X a → Reads (up_to s n check) (X · lit s) (Next any) any
up_to_quote s a n check X is l i =
    up_to_reads s n check X a [] is (true→T (ltb a 128 && true) (rw (leb_yes (suc a) 128 l)))
    (λ u v j tu h e. i.sound_in u j tu (sign_first a u v h) e) i.complete_in (λ u v x. first_sign a u v (i.free u x))

-- the quotes, as signs
abbrev pub quote_first : Class
quote_first = one_of "\"'"

-- a text that begins with one of them
pub at_quote : (w : List ℕ) → T (quote_first (kind w)) → (starts (ascii "\"") w || starts (ascii "'") w) ≡ true
at_quote w t =
    ⊎_elim (λ x. ap (λ (b : Bool). b || starts (ascii "'") w) (starts_sign 34 w (omega arith) (true→T (eqb (kind w) 34) (eqb_yes (kind w) 34 x))))
    (λ x. ap (λ (b : Bool). starts (ascii "\"") w || b) (starts_sign 39 w (omega arith) (true→T (eqb (kind w) 39) (eqb_yes (kind w) 39 x))) ∙ or-true (starts (ascii "\"") w))
    (two_signs 34 39 (kind w) (T→true (quote_first (kind w)) t))

pub quoted_reads : (check : List ℕ → Result) (D E : Lang) → Inside check D 34 → Inside check E 39 → Reads (parse_quoted check) (Quoted D E) (Next any) quote_first
unfolding parse_quoted
quoted_reads check D E i j =
    weaken sub_any (by_signs tt)
    (on_word "\"" tt
    (seq (wd "\"" no_literal tt) sub_any (up_to_quote "\"" 34 unterminated check D refl (omega arith) i))
    (seq (wd "'" no_literal tt) sub_any (up_to_quote "'" 39 unterminated check E refl (omega arith) j)))

-- SystemLiteral and PubidLiteral
any_inside : (a : ℕ) (p : ℕ → Bool) → a < 128 → p a ≡ false → ((c : ℕ) → (c ≡ a → ⊥) → T (p c)) → Inside nothing (Star (Ch p)) a
unfolding nothing Text
any_inside a p l n in_p = record {
  sound_in = λ u j tu h e. avoids_class any p a l (λ c t. in_p c) tu h;
  complete_in = λ u x. (0, refl);
  free = λ u x. class_avoids p a l n x;
}

pub system_literal_reads : Reads (parse_quoted nothing) SystemLiteral (Next any) quote_first
unfolding SystemLiteral
system_literal_reads =
    quoted_reads nothing (Star (Ch (none_of "\""))) (Star (Ch (none_of "'")))
    (any_inside 34 (none_of "\"") (omega arith) refl (not_one 34)) (any_inside 39 (none_of "'") (omega arith) refl (not_one 39))

pubid_ascii : Small pubid_char
unfolding pubid_char
pubid_ascii =
    small_or (λ c. one_of " \r\n-'()+,./:=?;!*#@$_%" c || digit c || within 0x41 0x5A c) (within 0x61 0x7A)
    (small_or (λ c. one_of " \r\n-'()+,./:=?;!*#@$_%" c || digit c) (within 0x41 0x5A)
    (small_or (one_of " \r\n-'()+,./:=?;!*#@$_%") digit (among_ascii (ascii " \r\n-'()+,./:=?;!*#@$_%") tt) (small_within 0x30 0x39 (omega arith)))
    (small_within 0x41 0x5A (omega arith))) (small_within 0x61 0x7A (omega arith))

pubid_inside : (a : ℕ) (p : ℕ → Bool) → a < 128 → p a ≡ false → ((c : ℕ) → T (p c) → T (pubid_char c)) → ((c : ℕ) → T (pubid_char c) → (c ≡ a → ⊥) → T (p c)) → Inside check_pubid (Star (Ch p)) a
unfolding check_pubid
pubid_inside a p l n sub sup = record {
  sound_in = λ u j tu h e. avoids_class pubid_char p a l sup (whole_run pubid_char pubid_ascii u tu (eqb-true (run pubid_char u) (length u) (else_refused bad_pubid (run pubid_char u) (eqb (run pubid_char u) (length u)) (ok 0) j e).0)) h;
  complete_in = λ u x. (0, rw (eqb_yes (run pubid_char u) (length u) (run_whole pubid_char pubid_ascii (unfold pubid_char in refl) (star_map (λ w c. record { char = c.char; is_scalar = c.is_scalar; in_class = sub c.char c.in_class; bytes = c.bytes }) x))));
  free = λ u x. class_avoids p a l n x;
}

pub pubid_literal_reads : Reads (parse_quoted check_pubid) PubidLiteral (Next any) quote_first
unfolding PubidLiteral pubid_char
pubid_literal_reads =
    quoted_reads check_pubid (Star (Ch pubid_char)) (Star (Ch (λ c. pubid_char c && none_of "'" c)))
    (pubid_inside 34 pubid_char (omega arith) refl (λ c t. t) (λ c t f. t))
    (pubid_inside 39 (λ c. pubid_char c && none_of "'" c) (omega arith) refl (λ c t. both_left (pubid_char c) (none_of "'" c) t)
    (λ c t f. rw (T→true (pubid_char c) t) (not_one 39 c f)))

-- ExternalID
pub external_id_reads : Reads parse_external_id ExternalID (Next any) (one_of "SP")
unfolding parse_external_id ExternalID
external_id_reads =
    weaken sub_any (by_signs tt)
    (on_word "SYSTEM" tt
    (seq (wd "SYSTEM" unexpected tt) sub_any (seq (need quote_first (by_signs tt)) sub_refl system_literal_reads))
    (seq (wd "PUBLIC" unexpected tt) sub_any (seq (need quote_first (by_signs tt)) sub_refl (seq pubid_literal_reads sub_any (seq (need quote_first (by_signs tt)) sub_refl system_literal_reads)))))

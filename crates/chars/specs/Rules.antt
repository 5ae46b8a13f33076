-- What a check's loop asks of its rule, and which readers keep it. The proofs call no tactic. Assumes nothing.
use Prim.Native.String.{String}
use Rattle.std.specs.Prelude.{◌≡◌, Bool, true, false, ◌&&◌, ◌||◌, List, [], ◌∷◌, ℕ, ◌<◌, eqb, refl}
use Rattle.std.proofs.Common.{true≢false, sym, ap, ◌∙◌}
use Rattle.spec.specs.Basics.{pick}
use Rattle.spec.specs.Grammar.Languages.{ascii}
use Rattle.spec.specs.Reading.Refusals.{illegal_char}
use Rattle.spec.specs.Reading.Readers.{ok, Reader, refuse, starts, choose, on, a_byte}
use Rattle.spec.specs.Reading.Wellformed.{illegal_here, legal_byte, char_ref, ref_or_byte}
use Rattle.spec.proofs.Base.Loops.{Somes}
use Rattle.spec.proofs.Base.Somes.{some_byte, some_legal, some_ref, some_on}
use Rattle.spec.proofs.Base.Tests.{eqb_no, or_false_left}
use Rattle.chars.specs.Bytes.{suspect, special}

-- where a byte is left, R takes one or more or refuses; and a byte outside the class p it takes as it stands
pub record Steady (R : Reader) (p : ℕ → Bool) : Type 0 where
  pub some : (b : ℕ) (w : List ℕ) (j : ℕ) → R (b ∷ w) ≡ ok j → 0 < j
  pub plain : (b : ℕ) (w : List ℕ) → p b ≡ false → R (b ∷ w) ≡ ok 1

-- of a wider class too
pub steady_wider : {R : Reader} (p q : ℕ → Bool) → ((b : ℕ) → q b ≡ false → p b ≡ false) → Steady R p → Steady R q
steady_wider p q f r = record { some = r.some; plain = λ b w e. r.plain b w (f b e) }

pub steady_byte : (p : ℕ → Bool) → Steady a_byte p
unfolding a_byte
steady_byte p = record { some = some_byte.some; plain = λ b w e. refl }

-- a word whose first byte is of the class, and another reader where it does not stand
abbrev pub heads : (ℕ → Bool) → List ℕ → Bool
heads p [] = false
heads p (c ∷ cs) = p c

no_word : (p : ℕ → Bool) (kw : List ℕ) → heads p kw ≡ true → (b : ℕ) (w : List ℕ) → p b ≡ false → starts kw (b ∷ w) ≡ false
unfolding starts
no_word p [] h b w e = absurd (true≢false (sym h))
no_word p (c ∷ cs) h b w e = ap (λ (t : Bool). t && starts cs w) (eqb_no b c (λ (f : b ≡ c). true≢false (sym h ∙ ap p (sym f) ∙ e)))

pub steady_on : (k : String) (A B : Reader) (p : ℕ → Bool) → heads p (ascii k) ≡ true → Somes A → Steady B p → Steady (on k A B) p
unfolding on choose
steady_on k A B p h a r = record {
  some = (some_on k A B a (record { some = r.some })).some;
  plain = λ b w e. ap (λ (t : Bool). pick t A B (b ∷ w)) (no_word p (ascii k) h b w e) ∙ r.plain b w e;
}

-- an illegal character begins with a suspect byte
calm : (b : ℕ) (w : List ℕ) → suspect b ≡ false → illegal_here (b ∷ w) ≡ false
unfolding suspect illegal_here starts
calm b w e = go _ (eqb b 0xEF) e
  where
    go : (s t : Bool) → s || t ≡ false → s || t && starts (0xBF ∷ 0xBE ∷ []) w || t && starts (0xBF ∷ 0xBF ∷ []) w ≡ false
    go false false e = refl
    go false true e = absurd (true≢false e)
    go true t e = absurd (true≢false e)

pub steady_suspect : Steady legal_byte suspect
unfolding legal_byte choose a_byte
steady_suspect = record {
  some = some_legal.some;
  plain = λ b w e. ap (λ (t : Bool). pick t (refuse illegal_char) a_byte (b ∷ w)) (calm b w e);
}

pub steady_legal : (mark : ℕ) → Steady legal_byte (special mark)
unfolding special
steady_legal mark = steady_wider suspect (special mark) (λ b e. or_false_left (suspect b) (eqb b 0x26) (or_false_left (suspect b || eqb b 0x26) (eqb b mark) e)) steady_suspect

-- with references: '&' is special
pub steady_refs : Steady ref_or_byte (special 0x26)
unfolding ref_or_byte suspect special
steady_refs = steady_on "&#" char_ref a_byte (special 0x26) refl some_ref (steady_byte (special 0x26))

pub steady_legal_refs : (mark : ℕ) → Steady (on "&#" char_ref legal_byte) (special mark)
unfolding suspect special
steady_legal_refs mark = steady_on "&#" char_ref legal_byte (special mark) refl some_ref (steady_legal mark)

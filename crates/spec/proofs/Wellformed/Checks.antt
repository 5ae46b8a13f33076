-- The checks of wellformed.rs: the order of reading accepts exactly what the grammar derives. Assumes nothing.
use mathlib.Core.Bool.{Bool, true, false, ◌&&◌, not, true≢false}
use mathlib.Core.List.{List, [], ◌∷◌, ◌++◌}
use mathlib.Core.Path.{◌≡◌, refl, sym, ◌∙◌, ap}
use Prim.Native.Nat.{ℕ, ◌<◌}
use native.Mathlib.Omega.{arith}
use lib.Dec.{T, eqb}
use lib.ListN.{length, length-append}
use Rattle.spec.specs.Grammar.Characters.{xml_char, Chars, Text}
use Rattle.spec.specs.Grammar.Languages.{ascii, Ch, Star, end, more, any, none_of}
use Rattle.spec.specs.Grammar.Names.{Dialect, Name, AsciiNames}
use Rattle.spec.specs.Grammar.References.{Referred, CharData, AttText}
use Rattle.spec.specs.Grammar.Utf8.{scalar, encode}
use Rattle.spec.specs.Reading.Readers.{Result, ok, err, starts, choose, on, contains, past, a_byte, throughout}
use Rattle.spec.specs.Reading.Refusals.{illegal_char, section_end, less_than}
use Rattle.spec.specs.Reading.Utf8.{tail}
use Rattle.spec.specs.Reading.Wellformed.{illegal_here, legal_byte, check_chars, char_ref, check_char_refs, text_step, check_text, attr_step, check_attr_value, check_name}
use Rattle.spec.proofs.Agreement.Accepts.{Agrees}
use Rattle.spec.proofs.Agreement.Chars.{ch_some}
use Rattle.spec.proofs.Agreement.Holds.{contains_after, contains_start, free_holds, holds_free}
use Rattle.spec.proofs.Agreement.Texts.{texts_star, texts_ch, texts_referring, texts_name}
use Rattle.spec.proofs.Agreement.Words.{starts_apart}
use Rattle.spec.proofs.Base.Loops.{through_end, through_none}
use Rattle.spec.proofs.Base.Results.{err_ok, past_ok, unless_refuses}
use Rattle.spec.proofs.Base.Somes.{some_legal, some_text, some_attr}
use Rattle.spec.proofs.Base.Tests.{T→true, true→T, not-false, both, both_left}
use Rattle.spec.proofs.Characters.Bytes.{avoids, class_avoids, not_one}
use Rattle.spec.proofs.Characters.LegalBytes.{tail_legal, legal_here}
use Rattle.spec.proofs.Characters.Text.{star_one, reclass}
use Rattle.spec.proofs.Characters.Utf8.{encode_1}
use Rattle.spec.proofs.Dtd.Values.{tail_starts, byte_taken, Free, refs_sound, refs_complete}
use Rattle.spec.proofs.Wellformed.Names.{check_name_whole}
use Rattle.spec.proofs.Wellformed.References.{Foreign}
use Rattle.spec.proofs.Wellformed.Walks.{Step, over_char, walk_sound, walk_complete, walked_referring, referring_walked, walked_free}

-- a legal byte is taken where a Char stands, and only there
legal_takes : (u v : List ℕ) → Ch xml_char u → legal_byte (u ++ v) ≡ ok 1
unfolding legal_byte choose
legal_takes u v c =
    rw (ap (λ (z : List ℕ). illegal_here (z ++ v)) c.bytes ∙ legal_here c.char v (T→true (scalar c.char) c.is_scalar) ∙ ap not (T→true (xml_char c.char) c.in_class)) (byte_taken u v c)

legal_char : (u v : List ℕ) (k : ℕ) (c : Ch any u) → legal_byte (u ++ v) ≡ ok k → T (xml_char c.char)
unfolding legal_byte choose
legal_char u v k c e =
    let here : illegal_here (u ++ v) ≡ not (xml_char c.char) = ap (λ (z : List ℕ). illegal_here (z ++ v)) c.bytes ∙ legal_here c.char v (T→true (scalar c.char) c.is_scalar) in
    true→T (xml_char c.char) (not-false (xml_char c.char) (sym here ∙ (unless_refuses illegal_char (illegal_here (u ++ v)) a_byte (u ++ v) k e).0))

legal_tail : (b : ℕ) (w : List ℕ) → tail b ≡ true → legal_byte (b ∷ w) ≡ ok 1
unfolding legal_byte choose a_byte
legal_tail b w h = rw (tail_legal b w h)

-- check_chars
chars_sound : {w : List ℕ} (k : ℕ) → Star (Ch any) w → throughout legal_byte w ≡ ok k → Star (Ch xml_char) w
chars_sound k (end f) e = end f
chars_sound {w} k (more x y f c s) e = go (legal_byte (x ++ y)) refl (λ j. chars_sound j s)
  where
    size : 0 < length (x ++ y)
    size = let z = ch_some x c in omega (arith, length-append x y)

    go : (a : Result) → legal_byte (x ++ y) ≡ a → ((j : ℕ) → throughout legal_byte y ≡ ok j → Star (Ch xml_char) y) → Star (Ch xml_char) w
    go (err n j) g ih = absurd (err_ok n k (sym (through_none legal_byte (x ++ y) n size g) ∙ ap (throughout legal_byte) (sym f) ∙ e))
    go (ok j) g ih =
        let i = reclass c (legal_char x y j c g) in
        let (m, r, _) = past_ok (length x) k (throughout legal_byte y) (sym (over_char legal_byte some_legal legal_tail x y i (legal_takes x y i)) ∙ ap (throughout legal_byte) (sym f) ∙ e) in
        more x y f i (ih m r)

chars_complete : {w : List ℕ} → Star (Ch xml_char) w → throughout legal_byte w ≡ ok (length w)
chars_complete (end e) = rw e (through_end legal_byte)
chars_complete (more x y f c s) =
    rw f (over_char legal_byte some_legal legal_tail x y c (legal_takes x y c) ∙ ap (past (length x)) (chars_complete s) ∙ ap ok (sym (length-append x y)))

pub chars_agree : Agrees check_chars Chars
unfolding check_chars Chars Text
chars_agree = record {
  sound = λ w k tw e. chars_sound k tw e;
  complete = λ w l. (length w, chars_complete l);
  text = texts_star (texts_ch xml_char);
}

-- check_char_refs
nothing_asked : (x y : List ℕ) → Free (x ++ y) → Free y
nothing_asked x y q = tt

pub char_refs_agree : Agrees check_char_refs Referred
unfolding Referred Text
char_refs_agree = record {
  sound = λ w k tw e. refs_sound any Free nothing_asked (λ u v c q. c) w k tw tt e;
  complete = λ w l. (length w, refs_complete any Free nothing_asked (λ u v c q. c) w l tt);
  text = texts_referring any;
}

-- check_text: "]]>" stands nowhere
abbrev section_close : List ℕ
section_close = ascii "]]>"

abbrev Here : List ℕ → Type 0
Here w = starts section_close w ≡ false

text_walk : Step text_step xml_char Free Here
unfolding text_step on choose
text_walk = record {
  some = some_text;
  rest = nothing_asked;
  at_tail = λ b w h. rw (tail_starts 93 (ascii "]>") (omega arith) b w h, tail_starts 38 (ascii "#") (omega arith) b w h) (legal_tail b w h);
  at_ref = λ w e. rw (starts_apart 38 93 (ascii "#") (ascii "]>") w refl e, e);
  takes = λ u v c n b. rw (b, n) (legal_takes u v c);
  legal = λ u v k c n q e.
      let (f, g) = unless_refuses section_end (starts section_close (u ++ v)) (on "&#" char_ref legal_byte) (u ++ v) k e in
      (reclass c (legal_char u v k c (rw n at g)), f);
}

bracket_foreign : Foreign 93
bracket_foreign = record { small = omega arith; opening = refl; opening_x = refl; closing = refl; no_digit = refl; no_hex = refl }

pub text_agree : Agrees check_text CharData
unfolding check_text CharData
text_agree = record {
  sound = λ w k tw e.
      let r = walk_sound text_walk w k tw tt e in
      (walked_referring r, free_holds "]]>" 93 (ascii "]>") refl tt w (walked_free 93 (ascii "]>") bracket_foreign r));
  complete = λ w l.
      let f = holds_free "]]>" 93 (ascii "]>") refl tt w (unfold Text in texts_referring xml_char w l.0) l.1 in
      (length w, walk_complete text_walk (referring_walked {Q = λ x. contains section_close x ≡ false} {B = Here} (contains_after section_close) (contains_start 93 (ascii "]>")) w l.0 f));
  text = λ w l. unfold Text in texts_referring xml_char w l.0;
}

-- check_attr_value: no '<'
abbrev unless : ℕ → Bool
unless c = xml_char c && none_of "<" c

-- where a character stands, the sign '<' stands if it is that character
less_not : (u v : List ℕ) → Ch unless u → starts (ascii "<") (u ++ v) ≡ false
unfolding starts xml_char
less_not [] v c = absurd (let z = ch_some [] c in omega arith)
less_not (b ∷ u) v c = go (eqb b 60) (class_avoids unless 60 (omega arith) refl (star_one c))
  where
    go : (t : Bool) → (not t && avoids 60 u) ≡ true → (t && true) ≡ false
    go true e = absurd (true≢false (sym e))
    go false e = refl

less_is : (u v : List ℕ) (c : Ch any u) → c.char ≡ 60 → starts (ascii "<") (u ++ v) ≡ true
unfolding starts
less_is u v c e = ap (λ (z : List ℕ). starts (ascii "<") (z ++ v)) (c.bytes ∙ ap encode e ∙ encode_1 60 (omega arith))

attr_walk : Step attr_step unless Free Free
unfolding attr_step on choose
attr_walk = record {
  some = some_attr;
  rest = nothing_asked;
  at_tail = λ b w h. rw (tail_starts 60 [] (omega arith) b w h, tail_starts 38 (ascii "#") (omega arith) b w h) (legal_tail b w h);
  at_ref = λ w e. rw (starts_apart 38 60 (ascii "#") [] w refl e, e);
  takes = λ u v c n b. rw (less_not u v c, n) (legal_takes u v (reclass c (both_left (xml_char c.char) (none_of "<" c.char) c.in_class)));
  legal = λ u v k c n q e.
      let (f, g) = unless_refuses less_than (starts (ascii "<") (u ++ v)) (on "&#" char_ref legal_byte) (u ++ v) k e in
      (reclass c (both (xml_char c.char) (none_of "<" c.char) (legal_char u v k c (rw n at g)) (not_one 60 c.char (λ z. true≢false (sym (less_is u v c z) ∙ f)))), tt);
}

pub attr_value_agree : Agrees check_attr_value AttText
unfolding check_attr_value AttText Text
attr_value_agree = record {
  sound = λ w k tw e. walked_referring (walk_sound attr_walk w k tw tt e);
  complete = λ w l. (length w, walk_complete attr_walk (referring_walked {Q = Free} {B = Free} nothing_asked (λ x q. tt) w l tt));
  text = texts_referring unless;
}

-- check_name
pub name_agrees : (D : Dialect) → AsciiNames D → Agrees (check_name D) (Name D)
unfolding Text
name_agrees D A = record {
  sound = (check_name_whole D A).sound;
  complete = λ w l. (length w, (check_name_whole D A).complete w l);
  text = texts_name D;
}

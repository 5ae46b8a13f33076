-- The part of a text that is read, as the code finds it: in UTF-8 up to the first illegal character of what is UTF-8, in a class of ASCII
-- as far as its bytes run. Assumes nothing.
use mathlib.Core.Path.{◌≡◌, refl, sym, ap, ◌∙◌}
use mathlib.Core.Bool.{Bool, true, false, and-false, and-true, true≢false}
use mathlib.Core.List.{List, [], ◌∷◌, ◌++◌}
use Prim.Native.Nat.{ℕ, zero, suc, ◌+◌, ◌-◌, ◌<◌, ◌≤◌}
use native.Mathlib.Omega.{arith}
use borrow.Author.Rules.{rules}
use lib.Dec.{ltb}
use lib.ListN.{length, take, drop, length-drop, length-append}
use lib.Seq.{take-length, take-append-add, drop_at}
use Rattle.spec.specs.Basics.{pick}
use Rattle.spec.specs.Grammar.Characters.{xml_char}
use Rattle.spec.specs.Grammar.Encodings.{in_bytes, foreign, class_of}
use Rattle.spec.specs.Grammar.Languages.{Ch, any}
use Rattle.spec.specs.Grammar.Utf8.{scalar, encode}
use Rattle.spec.specs.Reading.Document.{legal_length}
use Rattle.spec.specs.Reading.Readers.{Result, ok, err, taken, stop_of, past, run, choose, refuse, a_byte, throughout, char}
use Rattle.spec.specs.Reading.Refusals.{illegal_char}
use Rattle.spec.specs.Reading.Source.{utf8}
use Rattle.spec.specs.Reading.Utf8.{Point, point, no_point, tail, decode1}
use Rattle.spec.specs.Reading.Wellformed.{legal_byte, check_chars}
use Rattle.spec.proofs.Base.Loops.{through_end, through_none}
use Rattle.spec.proofs.Base.Results.{ok_inj, one-add}
use Rattle.spec.proofs.Base.Somes.{some_legal}
use Rattle.spec.proofs.Base.Tests.{true→T, leb_true, and_right}
use Rattle.spec.proofs.Characters.LegalBytes.{legal_here, tail_legal}
use Rattle.spec.proofs.Characters.Utf8.{Read, encode_1, encode_nonempty, decode_read, decode_1, point_size}
use Rattle.spec.proofs.Characters.Valid.{utf8_end, utf8_turn, utf8_stop, utf8_sound, utf8_complete, utf8_inside}
use Rattle.spec.proofs.Inside.Ways.{stop_past}
use Rattle.spec.proofs.Wellformed.LongestName.{chars, chars_turn, chars_stop, char_is, char_not, char_none}
use Rattle.spec.proofs.Wellformed.Walks.{over_char}
use Rattle.utf8.specs.Seen.{accepts}
use Rattle.encodings.specs.Codings.{of}
use Rattle.encodings.specs.declared.codings.Coding.{Coding}
use Rattle.encodings.specs.declared.codings.Coding.TheVariants.{Utf8, Bytes, Foreign}

-- the step of check_chars over a character's first byte, and over a tail
legal_step : (c : ℕ) (v : List ℕ) (t : Bool) → scalar c ≡ true → xml_char c ≡ t → legal_byte (encode c ++ v) ≡ pick t (a_byte (encode c ++ v)) (err illegal_char 0)
unfolding legal_byte choose refuse
legal_step c v true s e = rw (legal_here c v s, e)
legal_step c v false s e = rw (legal_here c v s, e)

tail_step : (b : ℕ) (w : List ℕ) → tail b ≡ true → legal_byte (b ∷ w) ≡ ok 1
unfolding legal_byte choose a_byte
tail_step b w h = rw (tail_legal b w h)

some_byte : (w : List ℕ) → 0 < length w → a_byte w ≡ ok 1
unfolding a_byte
some_byte [] h = absurd (let z : 0 < 0 = h in omega arith)
some_byte (b ∷ w) h = refl

-- UTF-8. What check_chars reaches of what is UTF-8:
abbrev reached : List ℕ → ℕ
reached w = stop_of (check_chars (take (stop_of (utf8 w)) w))

-- where no code point stands, nothing is reached
reached_none : (w : List ℕ) → decode1 w ≡ no_point → reached w ≡ 0
unfolding check_chars
reached_none w e = rw (stops w e, through_end legal_byte)
  where
    stops : (w : List ℕ) → decode1 w ≡ no_point → stop_of (utf8 w) ≡ 0
    stops [] e = ap stop_of utf8_end
    stops (b ∷ w) e = ap stop_of (utf8_stop b w e)

-- a code point, and what is UTF-8 after it
module _ (c k : ℕ) (w : List ℕ) (e : decode1 w ≡ point c k) where
  r : Read c k w
  r = decode_read c k w e

  after : drop k w ≡ r.rest
  after = ap (drop k) r.split ∙ drop_at (encode c) r.rest k r.size

  front : take (stop_of (utf8 w)) w ≡ encode c ++ take (stop_of (utf8 (drop k w))) (drop k w)
  front =
      let n : stop_of (utf8 w) ≡ length (encode c) + stop_of (utf8 (drop k w)) =
      ap stop_of (utf8_turn w c k e) ∙ stop_past k (utf8 (drop k w)) ∙ ap (λ (j : ℕ). j + stop_of (utf8 (drop k w))) (sym r.size) in
      ap (λ (j : ℕ). take j w) n ∙ ap (take (length (encode c) + stop_of (utf8 (drop k w)))) r.split
      ∙ take-append-add (encode c) r.rest (stop_of (utf8 (drop k w))) ∙ (rw after)

  reached_illegal : xml_char c ≡ false → reached w ≡ 0
  unfolding check_chars
  reached_illegal f =
      let y : List ℕ = take (stop_of (utf8 (drop k w))) (drop k w) in
      let n : 0 < length (encode c ++ y) = omega (arith, length-append (encode c) y, encode_nonempty c r.is_scalar) in
      rw (front, through_none legal_byte (encode c ++ y) illegal_char n (legal_step c y false r.is_scalar f))

  reached_legal : xml_char c ≡ true → reached w ≡ k + reached (drop k w)
  unfolding check_chars
  reached_legal f =
      let y : List ℕ = take (stop_of (utf8 (drop k w))) (drop k w) in
      let n : 0 < length (encode c ++ y) = omega (arith, length-append (encode c) y, encode_nonempty c r.is_scalar) in
      let ch : Ch any (encode c) = record { char = c; is_scalar = true→T (scalar c) r.is_scalar; in_class = tt; bytes = refl } in
      rw (front, over_char legal_byte some_legal tail_step (encode c) y ch (legal_step c y true r.is_scalar f ∙ some_byte (encode c ++ y) n), r.size)
      (stop_past k (throughout legal_byte y))

  reached_turn : ((x : List ℕ) → length x < length w → chars xml_char illegal_char x ≡ ok (reached x)) → chars xml_char illegal_char w ≡ ok (reached w)
  reached_turn next = go (xml_char c) refl
    where
      go : (t : Bool) → xml_char c ≡ t → chars xml_char illegal_char w ≡ ok (reached w)
      go false f = chars_stop xml_char illegal_char w (char_not xml_char illegal_char w c k e f) ∙ ap ok (sym (reached_illegal f))
      go true f =
          let z = point_size c k w e in
          chars_turn xml_char illegal_char w k (char_is xml_char illegal_char w c k e f) ∙ ap (past k) (next (drop k w) (omega (arith, length-drop k w)))
          ∙ ap ok (sym (reached_legal f))

reached_by : (w : List ℕ) → ((x : List ℕ) → length x < length w → chars xml_char illegal_char x ≡ ok (reached x)) → chars xml_char illegal_char w ≡ ok (reached w)
reached_by w next = go (decode1 w) refl
  where
    go : (p : Point) → decode1 w ≡ p → chars xml_char illegal_char w ≡ ok (reached w)
    go no_point e = chars_stop xml_char illegal_char w (char_none xml_char illegal_char w e) ∙ ap ok (sym (reached_none w e))
    go (point c k) e = reached_turn c k w e next

reached_to : (d : ℕ) (w : List ℕ) → length w ≤ d → chars xml_char illegal_char w ≡ ok (reached w)
reached_to zero w h = reached_by w (λ x l. absurd (omega arith))
reached_to (suc d) w h = reached_by w (λ x l. reached_to d x (omega arith))

-- that is what is read
utf8_legal : (w : List ℕ) → legal_length xml_char w ≡ reached w
unfolding legal_length
utf8_legal w = ap taken (reached_to (length w) w (omega arith))

stop_whole : (x : Result) (w : List ℕ) → utf8 w ≡ x → accepts x ≡ true → stop_of x ≡ length w
stop_whole (ok k) w e f = let g = utf8_complete w (utf8_sound w k e) in let z : ok k ≡ ok (length w) = sym e ∙ g in ok_inj k (length w) z
stop_whole (err r k) w e f = absurd (true≢false (sym f))

pub utf8_whole : (w : List ℕ) (v : Bool) (n : ℕ) → v ≡ accepts (utf8 w) → v ≡ true → n ≡ stop_of (check_chars w) → n ≡ legal_length xml_char w
utf8_whole w v n a f e =
    let g : stop_of (utf8 w) ≡ length w = stop_whole (utf8 w) w refl (sym a ∙ f) in
    e ∙ sym (utf8_legal w ∙ (rw (g, take-length w)))

pub utf8_part : (w : List ℕ) (k n : ℕ) → k ≡ stop_of (utf8 w) → n ≡ stop_of (check_chars (take (k - 0) (drop 0 w))) → n ≡ legal_length xml_char w
utf8_part w k n a e = let z : k - 0 ≡ stop_of (utf8 w) = omega arith in e ∙ sym (utf8_legal w ∙ (rw z))

pub utf8_within : (w : List ℕ) (k : ℕ) → k ≡ stop_of (utf8 w) → k ≤ length w
utf8_within w k a = rw a (go (utf8 w) refl)
  where
    go : (x : Result) → utf8 w ≡ x → stop_of x ≤ length w
    go (ok j) e = let g = utf8_complete w (utf8_sound w j e) in let z : ok j ≡ ok (length w) = sym e ∙ g in let y = ok_inj j (length w) z in omega arith
    go (err r j) e = let l = utf8_inside w r j e in omega arith

-- A class of ASCII: no byte from 128 on begins a character of it.
module _ (p : ℕ → Bool) (small : (c : ℕ) → p c ≡ true → c < 128) where
  lone : (b : ℕ) (w : List ℕ) → p b ≡ false → char p illegal_char (b ∷ w) ≡ err illegal_char 0
  lone b w f = go (decode1 (b ∷ w)) refl
    where
      by_class : (c k : ℕ) → decode1 (b ∷ w) ≡ point c k → (t : Bool) → p c ≡ t → char p illegal_char (b ∷ w) ≡ err illegal_char 0
      by_class c k e false g = char_not p illegal_char (b ∷ w) c k e g
      by_class c k e true g =
          let r : Read c k (b ∷ w) = decode_read c k (b ∷ w) e in
          let z : b ∷ w ≡ c ∷ r.rest = r.split ∙ ap (λ (x : List ℕ). x ++ r.rest) (encode_1 c (small c g)) in
          let y : b ≡ c = cc in
          absurd (true≢false (sym g ∙ ap p (sym y) ∙ f))

      go : (x : Point) → decode1 (b ∷ w) ≡ x → char p illegal_char (b ∷ w) ≡ err illegal_char 0
      go no_point e = char_none p illegal_char (b ∷ w) e
      go (point c k) e = by_class c k e (p c) refl

  run_chars : (w : List ℕ) → chars p illegal_char w ≡ ok (run p w)
  unfolding run
  run_chars [] = chars_stop p illegal_char [] (char_none p illegal_char [] (unfold decode1 in refl))
  run_chars (b ∷ w) = go (p b) refl (run_chars w)
    where
      go : (t : Bool) → p b ≡ t → chars p illegal_char w ≡ ok (run p w) → chars p illegal_char (b ∷ w) ≡ ok (pick t (suc (run p w)) 0)
      go true f ih =
          chars_turn p illegal_char (b ∷ w) 1 (char_is p illegal_char (b ∷ w) b 1 (decode_1 b w (small b f)) f) ∙ ap (past 1) ih ∙ ap ok (one-add (run p w))
      go false f ih = chars_stop p illegal_char (b ∷ w) (lone b w f)

  run_legal : (w : List ℕ) → legal_length p w ≡ run p w
  unfolding legal_length
  run_legal w = ap taken (run_chars w)

bytes_small : (c : ℕ) → class_of in_bytes c ≡ true → c < 128
bytes_small c e = leb_true (suc c) 128 (and_right (xml_char c) (ltb c 0x80) e)

-- none of a foreign coding
foreign_none : (w : List ℕ) → legal_length (class_of foreign) w ≡ 0
foreign_none w = run_legal (class_of foreign) (λ c e. absurd (true≢false (sym e))) w ∙ none w
  where
    none : (w : List ℕ) → run (class_of foreign) w ≡ 0
    none [] = unfold run in refl
    none (b ∷ w) = unfold run in refl

pub ascii_not : (b : ℕ) → ltb b 0x80 ≡ false → false ≡ class_of in_bytes b
ascii_not b e = rw e (sym (and-false (xml_char b)))

pub ascii_is : (b : ℕ) (t : Bool) → ltb b 0x80 ≡ true → t ≡ xml_char b → t ≡ class_of in_bytes b
ascii_is b t e f = rw (e, f) (sym (and-true (xml_char b)))

-- by the coding
module _ (w : List ℕ) (coding : Coding) where
  pub legal_utf8 : (n : ℕ) → coding ≡ Utf8 → n ≡ legal_length xml_char w → n ≡ legal_length (class_of (of coding)) w
  unfolding of
  legal_utf8 n e f = rw e f

  pub legal_bytes : (n : ℕ) → coding ≡ Bytes → n ≡ run (class_of in_bytes) w → n ≡ legal_length (class_of (of coding)) w
  unfolding of
  legal_bytes n e f = rw e (f ∙ sym (run_legal (class_of in_bytes) bytes_small w))

  pub legal_foreign : coding ≡ Foreign → 0 ≡ legal_length (class_of (of coding)) w
  unfolding of
  legal_foreign e = rw e (sym (foreign_none w))

-- what the functions search
pub ruleset legal = (ascii_not, ascii_is, utf8_whole, utf8_part, utf8_within, legal_utf8, legal_bytes, legal_foreign, rules)

-- What is refused of a beginning stands, whatever follows. Assumes nothing.
use mathlib.Core.Logic
use mathlib.Core.Bool.{Bool, true, false, ◌&&◌, not, true≢false, and-false}
use mathlib.Core.List.{List, [], ◌++◌, append_assoc, append-nil}
use mathlib.Core.Logic.{◌⊎◌}
use mathlib.Core.Path.{◌≡◌, refl, sym, ◌∙◌, ap, subst}
use Prim.Native.Nat.{ℕ, suc, ◌+◌, ◌≤◌, ◌<◌}
use native.Mathlib.Omega.{arith}
use lib.Dec.{eqb, leb}
use lib.ListN.{length, take, drop, take-append-drop}
use Rattle.spec.specs.Basics.{pick}
use Rattle.spec.specs.Grammar.Encodings.{Encoding, unnamed, named, Coding, in_utf8, in_bytes, foreign, coding_in, class_of}
use Rattle.spec.specs.Grammar.Characters.{xml_char}
use Rattle.spec.specs.Grammar.Languages.{ascii, one_of, Ch, Star, any}
use Rattle.spec.specs.Grammar.Names.{Dialect}
use Rattle.spec.specs.Reading.Checks.{check_declaration}
use Rattle.spec.specs.Reading.Document.{is_declaration, read_declaration, read_opening, read_prolog, read_beginning, legal_length, legal_part}
use Rattle.spec.specs.Reading.Readers.{Result, ok, err, Reader, stop_of, on_ok, past, ◌>>◌, nothing, starts, choose, word, contains, before, begins, up_to}
use Rattle.spec.specs.Reading.Refusals.{Refusal, number, unterminated, unexpected}
use Rattle.spec.specs.Reading.Verdict.{refused, ended, rootless, in_declaration, unended, ended_at, end_refusal, sign_at, verdict_of, verdict_in, find_encoding, unless_refused, encoding_read, by_coding, verdict}
use Rattle.spec.proofs.Agreement.Words.{starts_split, starts_within, before_le}
use Rattle.spec.proofs.Base.Results.{ok_inj, on_ok_ok, past_ok, else_refuses}
use Rattle.spec.proofs.Base.Tests.{and_left, and_right, decide, leb_true, not-false}
use Rattle.spec.proofs.Characters.Text.{star_map, ch_any}
use Rattle.spec.proofs.Document.Known.{Decided, declared_instruction, declared_longer, decided_true, steady_beginning}
use Rattle.spec.proofs.Document.Legal.{legal_takes, legal_keeps}
use Rattle.spec.proofs.Document.Steady.{Firm, Any, whatever, None, take_longer, drop_longer, contains_longer, before_longer, up_to_longer, up_to_nowhere, after_word, word_longer}
use Rattle.spec.proofs.Inside.Ways.{stop_past}

-- An XML declaration that has its end.
abbrev marked : Reader
marked = word "<?" unexpected >> up_to "?>" unterminated check_declaration

-- its end does not stand in its mark
mark_after : (x : List ℕ) → is_declaration x ≡ true → (contains (ascii "?>") (drop 2 x) ≡ contains (ascii "?>") x) × (before (ascii "?>") x ≡ suc (suc (before (ascii "?>") (drop 2 x))))
unfolding is_declaration
mark_after x e = let (z, f) = starts_split (ascii "<?xml") x (and_left (starts (ascii "<?xml") x) (begins (one_of " \t\r\n?") (drop 5 x)) e) in rw f (at_front z)
  where
    at_front : (z : List ℕ) → (contains (ascii "?>") (drop 2 (ascii "<?xml" ++ z)) ≡ contains (ascii "?>") (ascii "<?xml" ++ z)) × (before (ascii "?>") (ascii "<?xml" ++ z) ≡ suc (suc (before (ascii "?>") (drop 2 (ascii "<?xml" ++ z)))))
    at_front z = unfold contains in unfold before in unfold starts in (refl, refl)

declared : (x : List ℕ) → is_declaration x ≡ true → read_declaration x ≡ marked x
unfolding read_declaration choose
declared x e = rw e

undeclared : (x : List ℕ) → is_declaration x ≡ false → read_declaration x ≡ ok 0
unfolding read_declaration choose nothing
undeclared x e = rw e

whole_declaration : (x v : List ℕ) → is_declaration x ≡ true → contains (ascii "?>") x ≡ true → read_declaration (x ++ v) ≡ read_declaration x
whole_declaration x v e f =
    declared (x ++ v) (declared_longer x v e)
    ∙ word_longer "<?" unexpected _ x v (declared_instruction x e) (up_to_longer "?>" check_declaration (drop 2 x) v ((mark_after x e).0 ∙ f))
    ∙ sym (declared x e)

-- it is taken whole
up_to_size : (y : List ℕ) (m : ℕ) → up_to "?>" unterminated check_declaration y ≡ ok m → before (ascii "?>") y + 2 ≡ m
unfolding up_to
up_to_size y m e =
    let (f, g) = else_refuses unterminated (contains (ascii "?>") y) (λ x. on_ok (check_declaration (take (before (ascii "?>") y) y)) (λ _. ok (before (ascii "?>") y + 2))) y m e in
    let (i, h, l) = on_ok_ok (check_declaration (take (before (ascii "?>") y) y)) (λ _. ok (before (ascii "?>") y + 2)) m g in
    ok_inj (before (ascii "?>") y + 2) m l

declared_size : (x : List ℕ) (j : ℕ) → is_declaration x ≡ true → read_declaration x ≡ ok j → before (ascii "?>") x < j
declared_size x j e f =
    let (m, g, l) = past_ok 2 j (up_to "?>" unterminated check_declaration (drop 2 x)) (sym (declared x e ∙ after_word "<?" unexpected _ x (declared_instruction x e)) ∙ f) in
    let a = up_to_size (drop 2 x) m g in
    let b = (mark_after x e).1 in
    omega arith

-- a place within it
in_longer : (k : ℕ) (x v : List ℕ) → is_declaration x ≡ true → contains (ascii "?>") x ≡ true → in_declaration k (x ++ v) ≡ in_declaration k x
unfolding in_declaration
in_longer k x v e f = rw (declared_longer x v e, e, contains_longer (ascii "?>") x v f, f, before_longer (ascii "?>") x v f)

module _ (k : ℕ) (x : List ℕ) (e : in_declaration k x ≡ true) where
  in_is : is_declaration x ≡ true
  unfolding in_declaration
  in_is = and_left (is_declaration x) (contains (ascii "?>") x) (and_left (is_declaration x && contains (ascii "?>") x) (leb k (before (ascii "?>") x)) e)

  in_ends : contains (ascii "?>") x ≡ true
  unfolding in_declaration
  in_ends = and_right (is_declaration x) (contains (ascii "?>") x) (and_left (is_declaration x && contains (ascii "?>") x) (leb k (before (ascii "?>") x)) e)

  in_before : k ≤ before (ascii "?>") x
  unfolding in_declaration
  in_before = leb_true k (before (ascii "?>") x) (and_right (is_declaration x && contains (ascii "?>") x) (leb k (before (ascii "?>") x)) e)

-- what is read on after a place stops there or after it
stop_then : (r q : Reader) (x : List ℕ) (j : ℕ) → j ≤ stop_of (r x) → j ≤ stop_of ((r >> q) x)
unfolding ◌>>◌
stop_then r q x j h = go (r x) h
  where
    go : (a : Result) → j ≤ stop_of a → j ≤ stop_of (on_ok a (λ k. past k (q (drop k x))))
    go (ok k) l = let z = stop_past k (q (drop k x)) in omega arith
    go (err n k) l = l

module _ (D : Dialect) where
  beginning_refused : (x : List ℕ) (n : Refusal) (k : ℕ) → read_declaration x ≡ err n k → read_beginning D x ≡ err n k
  unfolding read_beginning read_prolog read_opening ◌>>◌
  beginning_refused x n k e = rw e

  beginning_stop : (x : List ℕ) (j : ℕ) → j ≤ stop_of (read_declaration x) → j ≤ stop_of (read_beginning D x)
  unfolding read_beginning read_prolog read_opening
  beginning_stop x j h = stop_then _ _ x j (stop_then _ _ x j (stop_then _ _ x j h))

  -- What is refused of a text and has its end: whether it begins with an XML declaration is decided, and it is refused whatever follows.
  record Stays (x : List ℕ) (n : Refusal) (k : ℕ) : Type 0 where
    decided : Decided x
    same : (v : List ℕ) → read_beginning D (x ++ v) ≡ err n k
    ends : (v : List ℕ) → unended n k (x ++ v) ≡ false

  -- in the XML declaration
  within : (x : List ℕ) (n : Refusal) (k : ℕ) → read_beginning D x ≡ err n k → in_declaration k x ≡ true → Stays x n k
  unfolding unended
  within x n k e h = record { decided = decided_true x i; same = λ v. go v (read_declaration x) refl; ends = λ v. rw (in_longer k x v i c ∙ h) (and-false (eqb (number n) (number unterminated))) }
    where
      i : is_declaration x ≡ true
      i = in_is k x h

      c : contains (ascii "?>") x ≡ true
      c = in_ends k x h

      go : (v : List ℕ) (a : Result) → read_declaration x ≡ a → read_beginning D (x ++ v) ≡ err n k
      go v (err m j) f = beginning_refused (x ++ v) m j (whole_declaration x v i c ∙ f) ∙ sym (beginning_refused x m j f) ∙ e
      go v (ok j) f =
          let a : before (ascii "?>") x < j = declared_size x j i f in
          let b : k ≤ before (ascii "?>") x = in_before k x h in
          let d : j ≤ stop_of (read_beginning D x) = beginning_stop x j (rw f (omega arith)) in
          let g : stop_of (read_beginning D x) ≡ k = ap stop_of e in
          absurd (omega arith)

  stays : (x : List ℕ) (n : Refusal) (k : ℕ) → Star (Ch any) x → read_beginning D x ≡ err n k → unended n k x ≡ false → Stays x n k
  unfolding unended
  stays x n k t e f = go (decide (eqb (number n) (number unterminated)))
    where
      go : (eqb (number n) (number unterminated) ≡ true) ⊎ (eqb (number n) (number unterminated) ≡ false) → Stays x n k
      go (Logic.inl g) = within x n k e (not-false (in_declaration k x) (ap (λ (b : Bool). b && not (in_declaration k x)) (sym g) ∙ f))
      go (Logic.inr g) =
          let (d, s) = (steady_beginning D x t).stands (subst (λ (a : Result). Firm Any None a x) (sym e) (g, whatever)) in
          record { decided = d; same = λ v. s v ∙ e; ends = λ v. rw g }

  -- The verdict in a coding.
  module _ (c : Coding) (w : List ℕ) where
    abbrev front : List ℕ
    front = legal_part (class_of c) w

    part_text : Star (Ch any) front
    part_text = star_map (λ u h. ch_any h) (legal_takes (class_of c) w).derived

    -- what is read of the whole begins with what is read of the beginning
    longer_part : (v : List ℕ) → (x : List ℕ) × (legal_part (class_of c) (w ++ v) ≡ front ++ x)
    longer_part v =
        legal_keeps (class_of c) (w ++ v) front (drop (legal_length (class_of c) w) w ++ v)
        (ap (λ (z : List ℕ). z ++ v) (sym (take-append-drop (legal_length (class_of c) w) w)) ∙ append_assoc front (drop (legal_length (class_of c) w) w) v) (legal_takes (class_of c) w).derived

    -- how a refusal came about
    came : (whole : Bool) (r : Refusal) (i : ℕ) → verdict_in D c whole w ≡ refused r i → Stays front r i
    unfolding verdict_in
    came whole r i e = go (read_beginning D front) refl e
      where
        ended_not : (a : Result) (k : ℕ) → ended_at D c whole w a k ≡ refused r i → ⊥
        ended_not (ok j) k f = by (eqb j (length front)) f
          where
            by : (t : Bool) → pick t (rootless (end_refusal c whole w) (length front)) (ended (end_refusal c whole w) (sign_at k front) (length front)) ≡ refused r i → ⊥
            by true g = let z : ◌≡◌ {A = ℕ} 0 1 = cc in omega arith
            by false g = let z : ◌≡◌ {A = ℕ} 0 1 = cc in omega arith
        ended_not (err n j) k f = let z : ◌≡◌ {A = ℕ} 0 1 = cc in omega arith

        by : (n : Refusal) (k : ℕ) → read_beginning D front ≡ err n k → (t : Bool) → unended n k front ≡ t → pick t (ended_at D c whole w (read_prolog D front) k) (refused n k) ≡ refused r i → Stays front r i
        by n k f true h g = absurd (ended_not (read_prolog D front) k g)
        by n k f false h g =
            let a : n ≡ r = cc in
            let b : k ≡ i = cc in
            stays front r i part_text (f ∙ (λ j. err (a j) (b j))) ((λ j. unended (sym a j) (sym b j) front) ∙ h)

        go : (a : Result) → read_beginning D front ≡ a → verdict_of D c whole w a ≡ refused r i → Stays front r i
        go (ok k) f g = absurd (let z : ◌≡◌ {A = ℕ} 0 1 = cc in omega arith)
        go (err n k) f g = by n k f (unended n k front) refl g

    verdict_stays : (whole : Bool) (v : List ℕ) (r : Refusal) (i : ℕ) → Stays front r i → verdict_in D c whole (w ++ v) ≡ refused r i
    unfolding verdict_in
    verdict_stays whole v r i s =
        let (x, f) = longer_part v in
        ap (verdict_of D c whole (w ++ v)) (ap (read_beginning D) f ∙ s.same x)
        ∙ ap (λ (t : Bool). pick t (ended_at D c whole (w ++ v) (read_prolog D (legal_part (class_of c) (w ++ v))) i) (refused r i)) (ap (unended r i) f ∙ s.ends x)

  -- The encoding that is named.
  abbrev encoding_of : List ℕ → Encoding
  encoding_of x = unless_refused (read_declaration x) (find_encoding x)

  none_named : (x : List ℕ) → is_declaration x ≡ false → encoding_of x ≡ unnamed
  unfolding find_encoding
  none_named x e = rw (undeclared x e, e)

  same_named : (x v : List ℕ) → is_declaration x ≡ true → contains (ascii "?>") x ≡ true → encoding_of (x ++ v) ≡ encoding_of x
  unfolding find_encoding
  same_named x v e f =
      let l : 2 ≤ length x = starts_within (ascii "<?") x (declared_instruction x e) in
      let m : contains (ascii "?>") (drop 2 x) ≡ true = (mark_after x e).0 ∙ f in
      rw (whole_declaration x v e f, declared_longer x v e, e, drop_longer 2 x v l, before_longer (ascii "?>") (drop 2 x) v m, take_longer (before (ascii "?>") (drop 2 x)) (drop 2 x) v (before_le (ascii "?>") (drop 2 x)))

  endless : (x : List ℕ) → is_declaration x ≡ true → contains (ascii "?>") x ≡ false → read_declaration x ≡ err unterminated 2
  endless x e f = declared x e ∙ after_word "<?" unexpected _ x (declared_instruction x e) ∙ ap (past 2) (up_to_nowhere "?>" check_declaration (drop 2 x) ((mark_after x e).0 ∙ f))

  endless_ended : (x : List ℕ) (r : Refusal) (i : ℕ) → is_declaration x ≡ true → contains (ascii "?>") x ≡ false → Stays x r i → ⊥
  unfolding unended in_declaration
  endless_ended x r i g h s =
      let a : err r i ≡ err unterminated 2 = sym (s.same []) ∙ ap (read_beginning D) (append-nil x) ∙ beginning_refused x unterminated 2 (endless x g h) in
      let b : r ≡ unterminated = cc in
      let u : unended r i x ≡ false = ap (unended r i) (sym (append-nil x)) ∙ s.ends [] in
      true≢false (rw (b, g, h) at u)

  unnamed_stays : (part : Bool) (w : List ℕ) (r : Refusal) (i : ℕ) → verdict D part w ≡ refused r i → encoding_of (legal_part xml_char w) ≡ unnamed → Stays (legal_part xml_char w) r i
  unfolding encoding_read verdict
  unnamed_stays part w r i e n = came in_utf8 w part r i (ap (λ (z : Encoding). by_coding D part w z (coding_in z)) (sym n) ∙ e)

  -- nothing is refused that may yet begin with an XML declaration
  pub refused_decided : (part : Bool) (w : List ℕ) (r : Refusal) (i : ℕ) → verdict D part w ≡ refused r i → Decided (legal_part xml_char w)
  refused_decided part w r i e = go (decide (is_declaration (legal_part xml_char w)))
    where
      go : (is_declaration (legal_part xml_char w) ≡ true) ⊎ (is_declaration (legal_part xml_char w) ≡ false) → Decided (legal_part xml_char w)
      go (Logic.inl g) = decided_true (legal_part xml_char w) g
      go (Logic.inr g) = (unnamed_stays part w r i e (none_named (legal_part xml_char w) g)).decided

  encoding_stays : (part : Bool) (w v : List ℕ) (r : Refusal) (i : ℕ) → verdict D part w ≡ refused r i → encoding_read (w ++ v) ≡ encoding_read w
  unfolding encoding_read
  encoding_stays part w v r i e =
      let (y, f) = longer_part in_utf8 w v in
      ap encoding_of f ∙ go y (decide (is_declaration x)) (decide (contains (ascii "?>") x))
    where
      x : List ℕ
      x = legal_part xml_char w

      go : (y : List ℕ) → (is_declaration x ≡ true) ⊎ (is_declaration x ≡ false) → (contains (ascii "?>") x ≡ true) ⊎ (contains (ascii "?>") x ≡ false) → encoding_of (x ++ y) ≡ encoding_of x
      go y (Logic.inr g) h = none_named (x ++ y) ((refused_decided part w r i e).declaration y ∙ g) ∙ sym (none_named x g)
      go y (Logic.inl g) (Logic.inl h) = same_named x y g h
      go y (Logic.inl g) (Logic.inr h) = absurd (endless_ended x r i g h (unnamed_stays part w r i e (ap (λ (z : Result). unless_refused z (find_encoding x)) (endless x g h))))

  -- The theorem: what is refused of a beginning is refused of the whole, whatever follows, with the same number and at the same place.
  pub refused_stays : (part whole : Bool) (w v : List ℕ) (r : Refusal) (i : ℕ) → verdict D part w ≡ refused r i → verdict D whole (w ++ v) ≡ refused r i
  unfolding verdict
  refused_stays part whole w v r i e =
      ap (λ (n : Encoding). by_coding D whole (w ++ v) n (coding_in n)) (encoding_stays part w v r i e) ∙ go (encoding_read w) (coding_in (encoding_read w)) e
    where
      go : (n : Encoding) (c : Coding) → by_coding D part w n c ≡ refused r i → by_coding D whole (w ++ v) n c ≡ refused r i
      go n in_utf8 f = verdict_stays in_utf8 w whole v r i (came in_utf8 w part r i f)
      go n in_bytes f = verdict_stays in_bytes w whole v r i (came in_bytes w part r i f)
      go unnamed foreign f = f
      go (named k n) foreign f = f

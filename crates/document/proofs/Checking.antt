-- The verdict on a whole document, from what is found in it. Assumes nothing.
use mathlib.Core.Path.{◌≡◌, refl, sym, ap, ◌∙◌, subst}
use mathlib.Core.Bool.{Bool, true, false, true≢false}
use mathlib.Core.List.{List, [], ◌∷◌}
use Prim.Native.Nat.{ℕ, suc, ◌+◌, ◌-◌, ◌^◌, ◌≤◌, ◌<◌}
use native.Mathlib.Omega.{arith}
use borrow.Author.Rules.{rules}
use lib.ListN.{length, take, drop, length-drop}
use lib.Seq.{drop-drop}
use Rattle.std.specs.Prelude as Std
use Rattle.std.specs.Prelude.{Option, Some, None, Ok, Err}
use Rattle.std.specs.Option.{SomeIff, is_some, unwrap_or}
use Rattle.spec.specs.Basics.{pick}
use Rattle.spec.specs.Grammar.Characters.{xml_char}
use Rattle.spec.specs.Grammar.Encodings as Encodings
use Rattle.spec.specs.Grammar.Encodings.{looks_like}
use Rattle.spec.specs.Grammar.Names.{Dialect, AsciiNames}
use Rattle.spec.specs.Grammar.Prolog.{no_doctype, from_to}
use Rattle.spec.specs.Reading.Entries.{declarations}
use Rattle.spec.specs.Reading.Readers.{starts}
use Rattle.spec.specs.Reading.Refusals.{not_utf8, number}
use Rattle.spec.specs.Reading.Verdict as Reading
use Rattle.spec.specs.Reading.Verdict.{accepted, refused, ended, rootless, number_in, place_in, opened_in, doctype_in, mark_length, unmarked, moved, by_width, verdict, check_document}
use Rattle.spec.specs.Unread.{unread_entries, CountsUnread}
use Rattle.spec.proofs.Agreement.Words.{starts_within}
use Rattle.spec.proofs.Base.Places.{take_rest}
use Rattle.spec.proofs.Base.Tests.{leb_yes, leb_no}
use Rattle.spec.proofs.Division.Unread.{unread_counted}
use Rattle.spec.proofs.Document.Agrees.{one_prolog}
use Rattle.spec.proofs.Document.Located.{Lies, check_lies}
use Rattle.spec.proofs.Document.Told.{Told, told_inside}
use Rattle.spec.proofs.Document.Whole.{document_right, parts_right}
use Rattle.error.specs.Read as Read
use Rattle.error.specs.Read.{reason, said}
use Rattle.error.specs.declared.Fault.{Fault}
use Rattle.source.specs.declared.Span.{Span}
use Rattle.classes.specs.Classes.{dialect}
use Rattle.classes.specs.declared.Names.{Names}
use Rattle.classes.proofs.ClassLaws.{dialect_ascii}
use Rattle.encodings.specs.Codings.{width}
use Rattle.encodings.specs.declared.wide.Wide.{Wide}
use Rattle.encodings.specs.declared.wide.Wide.TheVariants.{Utf16Be, Utf16Le, Utf32Be, Utf32Le}
use Rattle.lines.specs.Lines.{line, column}
use Rattle.document.specs.Findings.{found, finds}
use Rattle.document.specs.Prologs.{text_of}
use Rattle.document.specs.Judges.{Fields, has_text, text_start, text_end, Unreads, Judges, further_by, unread_count, unread_between, refused_as, accepted_as, spelled}
use Rattle.document.specs.declared.finding.Lost.{Lost}
use Rattle.document.specs.declared.opening.Opening.{Opening}

-- a place further on
further_is : (m k : ℕ) → m + k < 2 ^ 64 → further_by m k ≡ m + k
unfolding further_by
further_is m k h = let z : k + m ≡ m + k = omega arith in (rw (leb_no 18446744073709551616 (k + m) (omega arith)) z)

pub further_made : (m k r : ℕ) (o : Option ℕ) → SomeIff o (k + m < 2 ^ 64) (k + m) → r ≡ unwrap_or o k → r ≡ further_by m k
unfolding further_by
further_made m k r None n e = let h : 18446744073709551615 < k + m = omega (arith, n) in e ∙ sym (rw (leb_yes 18446744073709551616 (k + m) h))
further_made m k r (Some i) (h, f) e = e ∙ f ∙ sym (rw (leb_no 18446744073709551616 (k + m) (omega arith)))

-- the declarations between two places
module _ (D : Dialect) (t : List ℕ) (a b : ℕ) where
  pub unread_long : length t < b → 0 ≡ unread_between D t a b
  unfolding unread_between
  unread_long h = rw (leb_yes (suc (length t)) b (omega arith))

  pub unread_crossed : b ≤ length t → b < a → 0 ≡ unread_between D t a b
  unfolding unread_between
  unread_crossed h g = rw (leb_no (suc (length t)) b (omega arith), leb_yes (suc b) a (omega arith))

  pub unread_within : b ≤ length t → a ≤ b → (n : ℕ) → n ≡ length (unread_entries D (take (b - a) (drop a t)) false (declarations D (take (b - a) (drop a t)))) → n ≡ unread_between D t a b
  unfolding unread_between unread_count
  unread_within h g n e = e ∙ sym (rw (leb_no (suc (length t)) b (omega arith), leb_no (suc b) a (omega arith)))

-- the fields of an answer
module _ (t : List ℕ) (m : ℕ) where
  pub refused_made : (n o k p l c q : ℕ) → p ≡ further_by m k → l ≡ line t k → c ≡ column t k → q ≡ further_by m o
      → record { number = n; place = p; line = l; column = c; opened = q; has_doctype = false; doctype_start = 0; doctype_end = 0; unread = 0 } ≡ refused_as t m n o k
  unfolding refused_as
  refused_made n o k p l c q e f g h = rw (e, f, g, h)

  module _ (D : Dialect) (d : Option Span) (k p l c : ℕ) (e : p ≡ further_by m k) (f : l ≡ line t k) (g : c ≡ column t k) where
    pub accepted_plain : d ≡ None → record { number = 0; place = p; line = l; column = c; opened = p; has_doctype = false; doctype_start = 0; doctype_end = 0; unread = 0 } ≡ accepted_as D t m k (text_of d)
    unfolding accepted_as refused_as
    accepted_plain x = rw (x, e, f, g)

    pub accepted_made : (s : Span) (i j u : ℕ) → d ≡ Some s → i ≡ further_by m s.start → j ≡ further_by m s.end → u ≡ unread_between D t s.start s.end
        → record { number = 0; place = p; line = l; column = c; opened = p; has_doctype = true; doctype_start = i; doctype_end = j; unread = u } ≡ accepted_as D t m k (text_of d)
    unfolding accepted_as
    accepted_made s i j u x y z w = rw (x, e, f, g, y, z, w)

-- what is found, in full
module _ (D : Dialect) (t : List ℕ) (m : ℕ) where
  pub spell_accepted : (f : Std.Result Opening Lost) (o : Opening) (v : Fields) → f ≡ Ok o → v ≡ accepted_as D t m o.end (text_of o.doctype) → v ≡ spelled D t m (finds f)
  unfolding spelled finds
  spell_accepted f o v e x = x ∙ sym (rw e)

  pub spell_refused : (f : Std.Result Opening Lost) (l : Lost) (v : Fields) → f ≡ Err l → v ≡ refused_as t m (number (reason l.fault.refusal)) l.opened l.fault.place → v ≡ spelled D t m (finds f)
  unfolding spelled finds
  spell_refused f l v e x = x ∙ sym (rw e)

-- the byte order mark
module _ (w : List ℕ) (t : Bool) (a : t ≡ starts (0xEF ∷ 0xBB ∷ 0xBF ∷ []) (drop 0 w)) where
  pub mark_yes : t ≡ true → 3 ≡ mark_length w
  unfolding mark_length
  mark_yes e = sym (rw (sym a ∙ e))

  pub mark_no : t ≡ false → 0 ≡ mark_length w
  unfolding mark_length
  mark_no e = sym (rw (sym a ∙ e))

-- it is three bytes, or none
pub mark_room : (w : List ℕ) → mark_length w ≤ length w
unfolding mark_length
mark_room w = go (starts (0xEF ∷ 0xBB ∷ 0xBF ∷ []) w) refl
  where
    go : (t : Bool) → starts (0xEF ∷ 0xBB ∷ 0xBF ∷ []) w ≡ t → pick {A = ℕ} t 3 0 ≤ length w
    go true e = starts_within (0xEF ∷ 0xBB ∷ 0xBF ∷ []) w e
    go false e = omega arith

-- The promise, from what each field is of the verdict y.
module _ (D : Dialect) (A : AsciiNames D) (whole : Bool) (w : List ℕ) (v : Fields) (y : Reading.Verdict) (same : check_document D whole w ≡ y) where
  judges_of : v.number ≡ number_in y → v.place ≡ place_in y → v.line ≡ line (unmarked w) (v.place - mark_length w) → v.column ≡ column (unmarked w) (v.place - mark_length w) → v.opened ≡ opened_in y
      → v.has_doctype ≡ has_text (doctype_in y) → v.doctype_start ≡ text_start (doctype_in y) → v.doctype_end ≡ text_end (doctype_in y) → Unreads D w (doctype_in y) v.unread → Judges D whole w v
  judges_of n p l c o h s e u =
      let number : v.number ≡ number_in (check_document D whole w) = n ∙ ap number_in (sym same) in
      let place : v.place ≡ place_in (check_document D whole w) = p ∙ ap place_in (sym same) in
      let opened : v.opened ≡ opened_in (check_document D whole w) = o ∙ ap opened_in (sym same) in
      let right = document_right D A whole w in
      let lies : Lies (length w) (check_document D whole w) = check_lies D whole w in
      let near : place_in (check_document D whole w) ≤ length w = lies.0 in
      let back : opened_in (check_document D whole w) ≤ place_in (check_document D whole w) = lies.1 in
      record {
        number = number;
        place = place;
        line = l;
        column = c;
        opened = opened;
        tells_doctype = h ∙ ap (λ (z : Reading.Verdict). has_text (doctype_in z)) (sym same);
        start_of_doctype = s ∙ ap (λ (z : Reading.Verdict). text_start (doctype_in z)) (sym same);
        end_of_doctype = e ∙ ap (λ (z : Reading.Verdict). text_end (doctype_in z)) (sym same);
        unread = subst (λ (z : Reading.Verdict). Unreads D w (doctype_in z) v.unread) (sym same) u;
        grammar = (λ z. right.0 (sym number ∙ z), λ d. number ∙ right.1 d);
        parts = parts_right D A whole w;
        only_one = λ a b. one_prolog D A xml_char (unmarked w) a.begins b.begins;
        within = (omega arith, omega arith);
      }

-- A text in UTF-16 or UTF-32: x is what it looks like.
wide_said : (x : Option Wide) → true ≡ is_some x → (y : Reading.Verdict) → by_width (width x) y ≡ refused not_utf8 0
unfolding width
wide_said None e y = absurd (true≢false e)
wide_said (Some Utf16Be) e y = refl
wide_said (Some Utf16Le) e y = refl
wide_said (Some Utf32Be) e y = refl
wide_said (Some Utf32Le) e y = refl

narrow_said : (x : Option Wide) → false ≡ is_some x → width x ≡ Encodings.narrow
unfolding width
narrow_said None e = refl
narrow_said (Some x) e = absurd (true≢false (sym e))

pub judged_wide : (names : Names) (whole : Bool) (w : List ℕ) (x : Option Wide) (t : Bool) (f : Fault) (l : Lost) (v : Fields) → width x ≡ looks_like w → t ≡ is_some x → t ≡ true
    → said (Err f) ≡ Read.refused not_utf8 0 → l ≡ record { fault = f; opened = f.place } → v ≡ refused_as w 0 (number (reason l.fault.refusal)) l.opened l.fault.place → Judges (dialect names) whole w v
unfolding check_document refused_as further_by line column said
judged_wide names whole w x t f l v a b e g h y =
    let z : (n : ℕ) → 0 - n ≡ 0 = λ n. omega arith in
    let r : reason f.refusal ≡ not_utf8 = cc in
    let p : f.place ≡ 0 = cc in
    subst (Judges (dialect names) whole w) (sym (y ∙ ap (λ (i : Lost). refused_as w 0 (number (reason i.fault.refusal)) i.opened i.fault.place) h ∙ ap (λ (i : _). refused_as w 0 (number i) f.place f.place) r ∙ ap (λ (i : ℕ). refused_as w 0 2 i i) p))
    (judges_of (dialect names) (dialect_ascii names) whole w (refused_as w 0 2 0 0) (refused not_utf8 0)
    (ap (λ (i : Encodings.Wide). by_width i (moved (mark_length w) (verdict (dialect names) whole (unmarked w)))) (sym a) ∙ wide_said x (sym e ∙ b) (moved (mark_length w) (verdict (dialect names) whole (unmarked w)))) refl refl
    (ap (λ (n : ℕ). line (unmarked w) n) (sym (z (mark_length w)))) (ap (λ (n : ℕ). column (unmarked w) n) (sym (z (mark_length w)))) refl refl refl refl refl)

-- A text with a mark of m bytes, or none, from what is found behind it.
module _ (D : Dialect) (A : AsciiNames D) (whole : Bool) (w : List ℕ) (m : ℕ) (h : length w < 2 ^ 64) (mk : mark_length w ≡ m) (short : m ≤ length w) (nw : looks_like w ≡ Encodings.narrow) where
  abbrev t : List ℕ
  t = drop m w

  whole_is : check_document D whole w ≡ moved m (verdict D whole t)
  unfolding check_document
  whole_is = (λ i. by_width (nw i) (moved (mk i) (verdict D whole (drop (mk i) w))))

  -- lines and columns count from behind the mark
  on_line : (rule : List ℕ → ℕ → ℕ) (k p : ℕ) → p ≡ m + k → rule t k ≡ rule (unmarked w) (p - mark_length w)
  on_line rule k p e =
      let z : p - mark_length w ≡ k = omega (arith, mk) in
      (λ i. rule (drop (sym mk i) w) (sym z i))

  -- what is not accepted, or has no DOCTYPE: all places are those of the struct
  plainly : (y : Reading.Verdict) (n o k : ℕ) → check_document D whole w ≡ y → n ≡ number_in y → m + k ≡ place_in y → m + o ≡ opened_in y → doctype_in y ≡ no_doctype → m + k < 2 ^ 64 → m + o < 2 ^ 64
      → Judges D whole w (refused_as t m n o k)
  unfolding refused_as
  plainly y n o k same a p q d f g =
      judges_of D A whole w (refused_as t m n o k) y same a (further_is m k f ∙ p) (on_line line k (further_by m k) (further_is m k f)) (on_line column k (further_by m k) (further_is m k f)) (further_is m o g ∙ q)
      (sym (ap has_text d)) (sym (ap text_start d)) (sym (ap text_end d)) (subst (λ (x : _). Unreads D w x 0) (sym d) refl)

  counted : (i j : ℕ) → i ≤ j → m + j < length w → CountsUnread D (take ((m + j) - (m + i)) (drop (m + i) w)) (unread_between D t i j)
  unfolding unread_between unread_count
  counted i j l f =
      let size : length t ≡ length w - m = length-drop m w in
      let e : (m + j) - (m + i) ≡ j - i = omega arith in
      let d : drop i t ≡ drop (m + i) w = drop-drop i m w in
      let r : unread_between D t i j ≡ unread_count D (take (j - i) (drop i t)) = (rw (leb_no (suc (length t)) j (omega arith), leb_no (suc j) i (omega arith))) in
      let s : take (j - i) (drop i t) ≡ take ((m + j) - (m + i)) (drop (m + i) w) = (λ k. take (sym e k) (d k)) in
      subst (CountsUnread D (take ((m + j) - (m + i)) (drop (m + i) w))) (sym (r ∙ ap (unread_count D) s)) (unread_counted D A (take ((m + j) - (m + i)) (drop (m + i) w)))

  -- what has one
  richly : (k i j : ℕ) → check_document D whole w ≡ accepted (m + k) (from_to (m + i) (m + j)) → m + k ≤ length w → i ≤ j → m + j < length w → Judges D whole w (accepted_as D t m k (from_to i j))
  unfolding accepted_as
  richly k i j e z l f =
      let p : further_by m k ≡ m + k = further_is m k (omega arith) in
      judges_of D A whole w (accepted_as D t m k (from_to i j)) (accepted (m + k) (from_to (m + i) (m + j))) e refl p (on_line line k (further_by m k) p) (on_line column k (further_by m k) p)
      p refl (further_is m i (omega arith)) (further_is m j (omega arith)) (counted i j l f)

  judged_found : (x : Reading.Verdict) → check_document D whole w ≡ moved m x → Judges D whole w (spelled D t m (found x))
  unfolding spelled accepted_as refused_as
  judged_found x same = go x same (check_lies D whole w)
    where
      go : (x : Reading.Verdict) → check_document D whole w ≡ moved m x → Lies (length w) (check_document D whole w) → Judges D whole w (spelled D t m (found x))
      go (refused r k) e lies = let z : m + k ≤ length w = subst (λ (y : Reading.Verdict). place_in y ≤ length w) e lies.0 in plainly (refused r (m + k)) _ k k e refl refl refl refl (omega arith) (omega arith)
      go (rootless r k) e lies = let z : m + k ≤ length w = subst (λ (y : Reading.Verdict). place_in y ≤ length w) e lies.0 in plainly (rootless r (m + k)) _ k k e refl refl refl refl (omega arith) (omega arith)
      go (ended r i j) e lies =
          let z : m + j ≤ length w = subst (λ (y : Reading.Verdict). place_in y ≤ length w) e lies.0 in
          let y : m + i ≤ m + j = subst (λ (y : Reading.Verdict). opened_in y ≤ place_in y) e lies.1 in
          plainly (ended r (m + i) (m + j)) _ i j e refl refl refl refl (omega arith) (omega arith)
      go (accepted k no_doctype) e lies = let z : m + k ≤ length w = subst (λ (y : Reading.Verdict). place_in y ≤ length w) e lies.0 in plainly (accepted (m + k) no_doctype) 0 k k e refl refl refl refl (omega arith) (omega arith)
      go (accepted k (from_to i j)) e lies =
          let z : m + k ≤ length w = subst (λ (y : Reading.Verdict). place_in y ≤ length w) e lies.0 in
          let told : Told D w (m + i) (m + j) = told_inside D A whole w (m + i) (m + j) (ap doctype_in e) in
          let l : m + i ≤ m + j = told.0 in
          let f : m + j < length w = told.1.0 in
          richly k i j e (omega arith) (omega arith) f

  judged_by : (v : Fields) → v ≡ spelled D t m (found (verdict D whole t)) → Judges D whole w v
  judged_by v e = subst (Judges D whole w) (sym e) (judged_found (verdict D whole t) whole_is)

-- The way of the code: m is what the mark's length was told as, and x what the text looks like.
pub judged_marked : (names : Names) (whole : Bool) (w : List ℕ) (x : Option Wide) (t : Bool) (m : ℕ) (f : Std.Result Opening Lost) (v : Fields) → length w < 2 ^ 64 → width x ≡ looks_like w → t ≡ is_some x → t ≡ false → m ≡ mark_length w
    → finds f ≡ found (verdict (dialect names) whole (take (length w - m) (drop m w))) → v ≡ spelled (dialect names) (take (length w - m) (drop m w)) m (finds f) → Judges (dialect names) whole w v
judged_marked names whole w x t m f v h a b e mk g s =
    let y : m ≤ length w = omega (arith, mark_room w) in
    judged_by (dialect names) (dialect_ascii names) whole w m h (sym mk) y (sym a ∙ narrow_said x (sym e ∙ b)) v
    (s ∙ ap (spelled (dialect names) (take (length w - m) (drop m w)) m) g ∙ ap (λ (u : List ℕ). spelled (dialect names) u m (found (verdict (dialect names) whole u))) (take_rest w m))

-- what the functions search
pub ruleset checking = (further_made, refused_made, accepted_plain, accepted_made, unread_long, unread_crossed, unread_within, spell_accepted, spell_refused, mark_yes, mark_no, mark_room, judged_wide, judged_marked, rules)

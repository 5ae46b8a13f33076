-- The whole check: a byte order mark is passed over, and no document looks like UTF-16 or UTF-32. Assumes nothing.
use mathlib.Core.Bool.{Bool, true, not, true≢false}
use mathlib.Core.List.{List, [], ◌∷◌, ◌++◌, append_assoc}
use mathlib.Core.Logic.{◌↔◌}
use mathlib.Core.Path.{◌≡◌, refl, sym, ◌∙◌, ap, subst}
use Prim.Native.Nat.{ℕ, ◌<◌}
use native.Mathlib.Omega.{arith}
use lib.Dec.{eqb}
use lib.ListN.{length, drop, length-append}
use Rattle.spec.specs.Grammar.Characters.{xml_char}
use Rattle.spec.specs.Grammar.Encodings.{Wide, narrow, utf_16_be, utf_16_le, utf_32_be, utf_32_le, looks_like}
use Rattle.spec.specs.Grammar.Languages.{Ch, Star, end, more}
use Rattle.spec.specs.Grammar.Names.{Dialect, Name, AsciiNames}
use Rattle.spec.specs.Grammar.Prolog.{tag, Begins, doctype_of, Document}
use Rattle.spec.specs.Reading.Readers.{starts, begins}
use Rattle.spec.specs.Reading.Verdict.{Verdict, accepted, refused, ended, rootless, number_in, verdict, mark_length, unmarked, moved, by_width, check_document}
use Rattle.spec.proofs.Agreement.Chars.{ch_some, begins_ch}
use Rattle.spec.proofs.Base.Tests.{and_right}
use Rattle.spec.proofs.Characters.Bytes.{avoids, class_avoids}
use Rattle.spec.proofs.Characters.Text.{cat_size}
use Rattle.spec.proofs.Document.Front.{Marked, marked, bare, mark_there, no_mark, Opens, opens_narrow, uncut}
use Rattle.spec.proofs.Document.Right.{right, accepted_right, longer, accepted_stays}

-- how a document begins
module _ (D : Dialect) where
  tag_size : (u v : List ℕ) → tag D v → 1 < length (u ++ v)
  unfolding tag Name
  tag_size u v t =
      let c : Ch D.start t.second.left = t.second.first in
      let n : length t.left ≡ 1 = ap length t.first in
      let m : 0 < length t.second.left = ch_some t.second.left c in
      omega (arith, cat_size t, cat_size t.second, length-append u v)

  opens : (w : List ℕ) → Document D w → Opens w
  opens w d = record { lead = first b.legal refl; second = λ v e. at_1 u b.rest v free long (sym b.split ∙ e) }
    where
      b : Begins D xml_char w
      b = d.begins

      u : List ℕ
      u = b.front ++ b.root

      long : 1 < length u
      long = tag_size b.front b.root b.is_tag

      free : avoids 0 u ≡ true
      free = class_avoids xml_char 0 (omega arith) (unfold xml_char in refl) b.legal

      first : {x : List ℕ} → Star (Ch xml_char) x → x ≡ u → begins xml_char w ≡ true
      first (end e) f = absurd (let n : length u ≡ 0 = ap length (sym f ∙ e) in let m : 1 < length u = long in omega arith)
      first (more x y e c s) f = ap (begins xml_char) (b.split ∙ ap (λ (z : List ℕ). z ++ b.rest) (sym f ∙ e) ∙ append_assoc x y b.rest) ∙ begins_ch xml_char x (y ++ b.rest) c

      at_1 : (x r v : List ℕ) → avoids 0 x ≡ true → 1 < length x → x ++ r ≡ 0x3C ∷ 0 ∷ v → ⊥
      at_1 [] r v f l e = omega arith
      at_1 (a ∷ []) r v f l e = let z : 1 < 1 = l in omega arith
      at_1 (a ∷ c ∷ x) r v f l e = let z : c ≡ 0 = cc in true≢false (sym (and_right (not (eqb a 0)) (avoids 0 (c ∷ x)) f) ∙ ap (λ (y : ℕ). avoids 0 (y ∷ x)) z)

module _ (D : Dialect) (A : AsciiNames D) where
  -- what stands after a byte order mark is a document: the whole does not look like UTF-16 or UTF-32
  document_narrow : (w : List ℕ) → Document D (unmarked w) → looks_like w ≡ narrow
  document_narrow w d = go (mark_there w)
    where
      go : Marked w → looks_like w ≡ narrow
      go (marked x e) = ap looks_like e ∙ (unfold looks_like in refl)
      go (bare e) = opens_narrow w (opens D w (subst (λ (k : ℕ). Document D (drop k w)) (no_mark w e) d))

  moved_number : (k : ℕ) (v : Verdict) → number_in (moved k v) ≡ number_in v
  moved_number k (accepted i t) = refl
  moved_number k (refused r i) = refl
  moved_number k (ended r i j) = refl
  moved_number k (rootless r i) = refl

  module _ (whole : Bool) (w : List ℕ) where
    -- where it does not, the verdict is told
    check_narrow : looks_like w ≡ narrow → check_document D whole w ≡ moved (mark_length w) (verdict D whole (unmarked w))
    unfolding check_document
    check_narrow e = rw e

    -- The theorem of the whole check: it accepts exactly where, after a byte order mark, a document stands as the grammar has it,
    pub document_right : (number_in (check_document D whole w) ≡ 0) ↔ Document D (unmarked w)
    document_right = (λ z. unfold check_document in to (looks_like w) z, from)
      where
        to : (t : Wide) → number_in (by_width t (moved (mark_length w) (verdict D whole (unmarked w)))) ≡ 0 → Document D (unmarked w)
        to narrow z = (right D A whole (unmarked w)).0 (sym (moved_number (mark_length w) (verdict D whole (unmarked w))) ∙ z)
        to utf_16_be z = absurd (let h : 2 ≡ 0 = z in omega arith)
        to utf_16_le z = absurd (let h : 2 ≡ 0 = z in omega arith)
        to utf_32_be z = absurd (let h : 2 ≡ 0 = z in omega arith)
        to utf_32_le z = absurd (let h : 2 ≡ 0 = z in omega arith)

        from : Document D (unmarked w) → number_in (check_document D whole w) ≡ 0
        from d = ap number_in (check_narrow (document_narrow w d)) ∙ moved_number (mark_length w) (verdict D whole (unmarked w)) ∙ (right D A whole (unmarked w)).1 d

    -- and tells the grammar's prolog and DOCTYPE.
    pub parts_right : (d : Document D (unmarked w)) → check_document D whole w ≡ moved (mark_length w) (accepted (length d.begins.front) (doctype_of D d.begins))
    parts_right d = check_narrow (document_narrow w d) ∙ ap (moved (mark_length w)) (accepted_right D A whole (unmarked w) d)

  -- What is accepted of a beginning stands, whatever follows.
  longer_mark : (w v : List ℕ) → Document D (unmarked w) → mark_length (w ++ v) ≡ mark_length w
  longer_mark w v d = go (mark_there w)
    where
      go : Marked w → mark_length (w ++ v) ≡ mark_length w
      go (marked x e) = unfold mark_length starts in rw e
      go (bare e) = no_mark (w ++ v) (uncut w v (opens D w (subst (λ (k : ℕ). Document D (drop k w)) (no_mark w e) d)).lead e) ∙ sym (no_mark w e)

  longer_rest : (w v : List ℕ) → Document D (unmarked w) → unmarked (w ++ v) ≡ unmarked w ++ v
  longer_rest w v d = ap (λ (k : ℕ). drop k (w ++ v)) (longer_mark w v d) ∙ go (mark_there w)
    where
      go : Marked w → drop (mark_length w) (w ++ v) ≡ drop (mark_length w) w ++ v
      go (marked x e) = unfold mark_length starts in rw e
      go (bare e) = rw (no_mark w e)

  pub check_stays : (part whole : Bool) (w v : List ℕ) → number_in (check_document D part w) ≡ 0 → check_document D whole (w ++ v) ≡ check_document D part w
  check_stays part whole w v z =
      let d : Document D (unmarked w) = (document_right part w).0 z in
      let e : Document D (unmarked (w ++ v)) = subst (Document D) (sym (longer_rest w v d)) (longer D A v d) in
      check_narrow whole (w ++ v) (document_narrow (w ++ v) e)
      ∙ (λ i. moved (longer_mark w v d i) (verdict D whole (longer_rest w v d i)))
      ∙ ap (moved (mark_length w)) (accepted_stays D A part whole (unmarked w) v ((right D A part (unmarked w)).1 d))
      ∙ sym (check_narrow part w (document_narrow w d))

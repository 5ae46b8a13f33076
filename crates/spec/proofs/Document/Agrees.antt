-- The order of reading of a document accepts exactly what begins as the grammar says; the prolog and the DOCTYPE's text that it finds are
-- the grammar's, and there is but one prolog. Assumes nothing.
use mathlib.Core.Bool.{Bool}
use mathlib.Core.List.{List, ◌++◌, append_assoc}
use mathlib.Core.Logic.{◌↔◌}
use mathlib.Core.Path.{◌≡◌, refl, sym, ◌∙◌, ap, subst}
use Prim.Native.Nat.{ℕ, ◌+◌, ◌-◌}
use native.Mathlib.Omega.{arith}
use lib.ListN.{length, take, drop, take-append-drop}
use lib.Seq.{drop-append_seam, take_at}
use Rattle.spec.specs.Grammar.Characters.{Text}
use Rattle.spec.specs.Grammar.Doctype.{doctypedecl, Misc}
use Rattle.spec.specs.Grammar.Languages.{lit, ascii, Ch, ◌·◌, inl, inr, Star, Opt}
use Rattle.spec.specs.Grammar.Names.{Dialect, AsciiNames}
use Rattle.spec.specs.Grammar.Prolog.{Doctype, prolog, tag, Begins, text_after, doctype_of}
use Rattle.spec.specs.Reading.Document.{read_doctype_text, read_opening, read_prolog, read_tag, read_beginning, legal_length, legal_part, read_after, find_doctype}
use Rattle.spec.specs.Reading.Readers.{ok, taken, ◌>>◌, starts}
use Rattle.spec.proofs.Agreement.Reads.{Took, Sound, sound_seq}
use Rattle.spec.proofs.Agreement.Texts.{Texts, texts_cat, texts_star, texts_lit, texts_either, texts_none, texts_s, texts_name}
use Rattle.spec.proofs.Agreement.Words.{starts_self}
use Rattle.spec.proofs.Characters.Text.{star_map, ch_any, cat_before, cat_size}
use Rattle.spec.proofs.Checks.XmlDecl.{declaration_agrees}
use Rattle.spec.proofs.Document.Legal.{class_front, legal_takes, legal_keeps}
use Rattle.spec.proofs.Document.Prolog.{Rooted, opening_reads, ending_after, prolog_reads}
use Rattle.spec.proofs.Document.Tag.{tag_rooted, tag_reads, tag_accepts}
use Rattle.spec.proofs.Dtd.Markup.{doctype_closed}
use Rattle.spec.proofs.Dtd.Texts.{texts_comment, texts_instruction, doctype_text}

module _ (D : Dialect) (A : AsciiNames D) where
  -- what the grammar derives is text
  texts_misc : Texts (Star (Misc D))
  unfolding Misc
  texts_misc = texts_star (texts_either texts_comment (texts_either (texts_instruction D A) texts_s))

  texts_prolog : Texts (prolog D)
  unfolding Text
  texts_prolog =
      texts_cat (texts_cat (texts_either (texts_cat (texts_lit "<?" tt) (texts_cat declaration_agrees.text (texts_lit "?>" tt))) texts_none) texts_misc)
      (texts_either (texts_cat (texts_cat (texts_lit "<!DOCTYPE" tt) (texts_cat (λ u x. doctype_text D A u x.0) (texts_lit ">" tt))) texts_misc) texts_none)

  texts_tag : Texts (tag D)
  unfolding tag
  texts_tag = texts_cat (texts_lit "<" tt) (texts_name D)

  beginning_sound : Sound (read_beginning D) (prolog D · tag D)
  unfolding read_beginning
  beginning_sound = sound_seq (read_prolog D) (read_tag D) (prolog D) (tag D) (prolog_reads D A).sound (tag_reads D A).sound

  beginning_complete : (p u v : List ℕ) → prolog D p → tag D u → (k : ℕ) × (read_beginning D ((p ++ u) ++ v) ≡ ok k)
  unfolding read_beginning ◌>>◌
  beginning_complete p u v l t =
      let (k, e) = tag_accepts D A u v t in
      (length p + k, rw (append_assoc p u v, (prolog_reads D A).complete p (u ++ v) l (tag_rooted D A u v t), drop-append_seam p (u ++ v), e))

  module _ (p : ℕ → Bool) where
    read_begins : (w : List ℕ) (k : ℕ) → read_beginning D (legal_part p w) ≡ ok k → Begins D p w
    unfolding Text
    read_begins w k e =
        let x : List ℕ = legal_part p w in
        let cx : Star (Ch p) x = (legal_takes p w).derived in
        let t : Took (prolog D · tag D) k x = beginning_sound x k (star_map (λ u c. ch_any c) cx) e in
        let c : (prolog D · tag D) t.taken = t.holds in
        let f : x ≡ (c.left ++ c.right) ++ t.rest = t.split ∙ ap (λ (z : List ℕ). z ++ t.rest) c.split in
        record {
          front = c.left;
          root = c.right;
          rest = t.rest ++ drop (legal_length p w) w;
          split = sym (take-append-drop (legal_length p w) w) ∙ ap (λ (z : List ℕ). z ++ drop (legal_length p w) w) f ∙ append_assoc (c.left ++ c.right) t.rest (drop (legal_length p w) w);
          is_prolog = c.first;
          is_tag = c.second;
          legal = class_front t.rest (texts_cat {L = prolog D} {M = tag D} texts_prolog texts_tag (c.left ++ c.right) (record { left = c.left; right = c.right; split = refl; first = c.first; second = c.second })) (subst (Star (Ch p)) f cx);
        }

    begins_read : (w : List ℕ) → Begins D p w → (k : ℕ) × (read_beginning D (legal_part p w) ≡ ok k)
    begins_read w b =
        let (x, e) = legal_keeps p w (b.front ++ b.root) b.rest b.split b.legal in
        let (k, f) = beginning_complete b.front b.root x b.is_prolog b.is_tag in
        (k, ap (read_beginning D) e ∙ f)

    -- The theorem: on all bytes the order of reading accepts exactly the documents that begin as the grammar says.
    pub document_agrees : (w : List ℕ) → ((k : ℕ) × (read_beginning D (legal_part p w) ≡ ok k)) ↔ Begins D p w
    document_agrees w = (λ (k, e). read_begins w k e, begins_read w)

    -- the prolog is what is read as the prolog
    pub prolog_size : (w : List ℕ) (b : Begins D p w) → read_prolog D (legal_part p w) ≡ ok (length b.front)
    prolog_size w b =
        let (x, e) = legal_keeps p w (b.front ++ b.root) b.rest b.split b.legal in
        ap (read_prolog D) (e ∙ append_assoc b.front b.root x) ∙ (prolog_reads D A).complete b.front (b.root ++ x) b.is_prolog (tag_rooted D A b.root x b.is_tag)

    pub prolog_read : (w : List ℕ) (b : Begins D p w) → b.front ≡ take (taken (read_prolog D (legal_part p w))) w
    prolog_read w b =
        sym (take_at b.front (b.root ++ b.rest) (length b.front) refl)
        ∙ sym (λ i. take (taken (prolog_size w b i)) ((b.split ∙ append_assoc b.front b.root b.rest) i))

    -- so there is but one
    pub one_prolog : (w : List ℕ) (a b : Begins D p w) → a.front ≡ b.front
    one_prolog w a b = prolog_read w a ∙ sym (prolog_read w b)

    -- and the DOCTYPE's text that is read is the grammar's
    pub doctype_read : (w : List ℕ) (b : Begins D p w) → find_doctype D (legal_part p w) ≡ doctype_of D b
    unfolding find_doctype
    doctype_read w b =
        let (x, e) = legal_keeps p w (b.front ++ b.root) b.rest b.split b.legal in
        let o : prolog D b.front = b.is_prolog in
        let r : List ℕ = b.root ++ x in
        let f : legal_part p w ≡ o.left ++ (o.right ++ r) = e ∙ append_assoc b.front b.root x ∙ cat_before o r in
        let g : read_opening D (o.left ++ (o.right ++ r)) ≡ ok (length o.left) =
        (opening_reads D A).complete o.left (o.right ++ r) o.first (ending_after D A o.right r o.second (tag_rooted D A b.root x b.is_tag)) in
        rw (f, g, drop-append_seam o.left (o.right ++ r)) (text_read (length o.left) o.right r (tag_rooted D A b.root x b.is_tag) o.second)
      where
        text_read : (k : ℕ) (u v : List ℕ) → Rooted v → (o : Opt (Doctype D · Star (Misc D)) u) → read_after D k (u ++ v) ≡ text_after D k o
        text_read k u v t (inr e) = rw (ap (λ (z : List ℕ). starts (ascii "<!DOCTYPE") (z ++ v)) e ∙ t.no_doctype)
        text_read k u v t (inl l) =
            let d : (lit "<!DOCTYPE" · ((λ t. doctypedecl D t) · lit ">")) l.left = record { left = l.first.left; right = l.first.right; split = l.first.split; first = l.first.first; second = record { left = l.first.second.left; right = l.first.second.right; split = l.first.second.split; first = l.first.second.first.0; second = l.first.second.second } } in
            let n : List ℕ = l.first.second.left in
            let z : List ℕ = l.right ++ v in
            let f : u ++ v ≡ ascii "<!DOCTYPE" ++ (d.right ++ z) = cat_before l v ∙ cat_before d z ∙ ap (λ (q : List ℕ). q ++ (d.right ++ z)) d.first in
            let g : read_doctype_text D (d.right ++ z) ≡ ok (length d.right) = (doctype_closed D A).complete d.right z d.second (record { it = tt }) in
            let m : length d.right - 1 ≡ length n = (let j : length l.first.second.right ≡ 1 = ap length l.first.second.second in omega (arith, cat_size l.first.second)) in
            rw (f, starts_self (ascii "<!DOCTYPE") (d.right ++ z), g, m)

-- The verdict on a document: accepted exactly where the grammar has it, with the grammar's prolog and DOCTYPE. Assumes nothing.
use mathlib.Core.Bool.{Bool}
use mathlib.Core.List.{List, [], ◌++◌, append_assoc}
use mathlib.Core.Logic.{◌↔◌}
use mathlib.Core.Path.{◌≡◌, refl, sym, ◌∙◌, ap, subst}
use Prim.Native.Nat.{ℕ}
use native.Mathlib.Omega.{arith}
use lib.Dec.{ltb}
use lib.ListN.{length, length-append}
use Rattle.spec.specs.Grammar.Characters.{xml_char}
use Rattle.spec.specs.Grammar.Encodings.{Encoding, unnamed, named, Coding, in_utf8, in_bytes, foreign, coding_in, class_of}
use Rattle.spec.specs.Grammar.Languages.{Ch, Star, end, more}
use Rattle.spec.specs.Grammar.Names.{Dialect, AsciiNames}
use Rattle.spec.specs.Grammar.Prolog.{tag, Begins, encoding_of, doctype_of, Document}
use Rattle.spec.specs.Reading.Verdict.{accepted, number_in, encoding_read, by_coding, verdict}
use Rattle.spec.proofs.Base.Tests.{both_left}
use Rattle.spec.proofs.Characters.Text.{star_map, reclass, cat_size}
use Rattle.spec.proofs.Document.Encoding.{encoding_right}
use Rattle.spec.proofs.Document.Verdict.{verdict_right, accepted_begins}

module _ (D : Dialect) (A : AsciiNames D) where
  -- in characters of a smaller class
  abbrev in_class : {p q : ℕ → Bool} {w : List ℕ} (b : Begins D p w) → Star (Ch q) (b.front ++ b.root) → Begins D q w
  in_class b s = record { front = b.front; root = b.root; rest = b.rest; split = b.split; is_prolog = b.is_prolog; is_tag = b.is_tag; legal = s }

  wider : (c : Coding) {u : List ℕ} → Star (Ch (class_of c)) u → Star (Ch xml_char) u
  wider in_utf8 s = s
  wider in_bytes s = star_map (λ u c. reclass c (both_left (xml_char c.char) (ltb c.char 0x80) c.in_class)) s
  wider foreign s = star_map (λ u c. absurd c.in_class) s

  -- nothing is written in a foreign encoding
  foreign_none : (u v : List ℕ) → Star (Ch (class_of foreign)) (u ++ v) → tag D v → ⊥
  foreign_none u v s t = go (empty s)
    where
      empty : {u : List ℕ} → Star (Ch (class_of foreign)) u → u ≡ []
      empty (end e) = e
      empty (more x y e c s) = absurd c.in_class

      go : u ++ v ≡ [] → ⊥
      go e = unfold tag in (let m : length (u ++ v) ≡ 0 = ap length e in let n : length t.left ≡ 1 = ap length t.first in omega (arith, cat_size t, length-append u v))

  module _ (whole : Bool) (w : List ℕ) where
    -- The theorem: what the grammar has is accepted, with the grammar's prolog and DOCTYPE;
    pub accepted_right : (d : Document D w) → verdict D whole w ≡ accepted (length d.begins.front) (doctype_of D d.begins)
    unfolding verdict
    accepted_right d = go (encoding_read w) (coding_in (encoding_read w)) (ap coding_in (encoding_right D A w d.begins))
      where
        in_coding : (c : Coding) → c ≡ coding_in (encoding_of D d.begins) → Begins D (class_of c) w
        in_coding c e = in_class d.begins (subst (λ (k : Coding). Star (Ch (class_of k)) (d.begins.front ++ d.begins.root)) (sym e) d.coded)

        go : (n : Encoding) (c : Coding) → c ≡ coding_in (encoding_of D d.begins) → by_coding D whole w n c ≡ accepted (length d.begins.front) (doctype_of D d.begins)
        go n in_utf8 e = accepted_begins D in_utf8 whole w A (in_coding _ e)
        go n in_bytes e = accepted_begins D in_bytes whole w A (in_coding _ e)
        go n foreign e = absurd (foreign_none d.begins.front d.begins.root (in_coding foreign e).legal d.begins.is_tag)

    -- and nothing else is accepted
    pub right : (number_in (verdict D whole w) ≡ 0) ↔ Document D w
    unfolding verdict
    right = (λ z. go (encoding_read w) (coding_in (encoding_read w)) refl z, λ d. ap number_in (accepted_right d))
      where
        of_class : (c : Coding) → coding_in (encoding_read w) ≡ c → Begins D (class_of c) w → Document D w
        of_class c e b =
            let d : Begins D xml_char w = in_class b (wider c b.legal) in
            record { begins = d; coded = subst (λ (k : Coding). Star (Ch (class_of k)) (b.front ++ b.root)) (sym e ∙ ap coding_in (encoding_right D A w d)) b.legal }

        go : (n : Encoding) (c : Coding) → coding_in (encoding_read w) ≡ c → number_in (by_coding D whole w n c) ≡ 0 → Document D w
        go n in_utf8 e z = of_class in_utf8 e ((verdict_right D in_utf8 whole w A).0 z)
        go n in_bytes e z = of_class in_bytes e ((verdict_right D in_bytes whole w A).0 z)
        go unnamed foreign e z = absurd (let h : 2 ≡ 0 = z in omega arith)
        go (named k n) foreign e z = absurd (let h : 2 ≡ 0 = z in omega arith)

  -- What is accepted of a beginning stands, whatever follows.
  abbrev pub longer : {w : List ℕ} (v : List ℕ) → Document D w → Document D (w ++ v)
  longer v d =
      let b : Begins D xml_char _ = d.begins in
      record {
        begins = record { front = b.front; root = b.root; rest = b.rest ++ v; split = ap (λ (z : List ℕ). z ++ v) b.split ∙ append_assoc (b.front ++ b.root) b.rest v; is_prolog = b.is_prolog; is_tag = b.is_tag; legal = b.legal };
        coded = d.coded;
      }

  pub accepted_stays : (part whole : Bool) (w v : List ℕ) → number_in (verdict D part w) ≡ 0 → verdict D whole (w ++ v) ≡ verdict D part w
  accepted_stays part whole w v z = let d : Document D w = (right part w).0 z in accepted_right whole (w ++ v) (longer v d) ∙ sym (accepted_right part w d)

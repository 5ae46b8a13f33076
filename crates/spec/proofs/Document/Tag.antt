-- The root's '<' and name, which stand after the prolog. Assumes nothing.
use mathlib.Core.Bool.{Bool, true, false, ◌||◌}
use mathlib.Core.List.{List, [], ◌∷◌, ◌++◌}
use mathlib.Core.Path.{◌≡◌, refl, sym, ◌∙◌, ap, subst}
use Prim.Native.Nat.{ℕ, ◌+◌}
use lib.Dec.{T}
use Rattle.spec.specs.Basics.{pick}
use Rattle.spec.specs.Grammar.Languages.{Lang, ascii}
use Rattle.spec.specs.Grammar.Names.{Dialect, Name, AsciiNames}
use Rattle.spec.specs.Grammar.Prolog.{tag}
use Rattle.spec.specs.Reading.Document.{item_here, read_other, read_tag}
use Rattle.spec.specs.Reading.Readers.{ok, Reader, ◌>>◌, refuse, choose, on, starts, word, word_of, some_left, contains}
use Rattle.spec.specs.Reading.Refusals.{Refusal, unterminated, unexpected, out_of_order}
use Rattle.spec.specs.Reading.Wellformed.{name}
use Rattle.spec.proofs.Agreement.Algebra.{no_first, no_other}
use Rattle.spec.proofs.Agreement.Choices.{refuse_reads}
use Rattle.spec.proofs.Agreement.Reads.{Reads, Next, seq, alt, weaken_by, as_lang}
use Rattle.spec.proofs.Agreement.Signs.{kind, Class, by_signs, sub_any, sub_refl, sub_either}
use Rattle.spec.proofs.Agreement.Words.{first_of, wd, clash, starts_clash}
use Rattle.spec.proofs.Base.Results.{err_ok, then_ok, by_reader}
use Rattle.spec.proofs.Characters.Text.{cat_before}
use Rattle.spec.proofs.Document.Prolog.{Rooted}
use Rattle.spec.proofs.Wellformed.LongestName.{Named, a_name, no_name, named}
use Rattle.spec.proofs.Wellformed.Names.{start_first, ends_name, name_reads}

-- where a sign stands, and not the end, something is left
left_there : (p : Class) → (T (p 129) → ⊥) → (w : List ℕ) → T (p (kind w)) → some_left w ≡ true
unfolding some_left kind
left_there p n [] t = absurd (n t)
left_there p n (b ∷ w) t = refl

-- so the refusal at the text's end makes no difference to what is read
some_reads : {r : Reader} {L F : Lang} {f : Class} (c : Refusal) → (T (f 129) → ⊥) → Reads r L F f → Reads (choose some_left r (refuse c)) L F f
some_reads {f = f} c n a =
    weaken_by (λ v t. t) (sub_either sub_refl sub_refl)
    (as_lang no_other (alt some_left (λ u v l t. left_there f n (u ++ v) (a.leads u v l t)) (λ u v z t. absurd z) a (refuse_reads c f)))

-- another declaration or a section is none of it
other_reads : (D : Dialect) {F : Lang} (f : Class) → Reads (read_other D) (λ w. ⊥) F f
unfolding read_other choose refuse
other_reads D f = record { sound = λ w k tw e. absurd (refused w k e); complete = λ u v z t. absurd z; leads = λ u v z t. absurd z }
  where
    refused : (w : List ℕ) (k : ℕ) → read_other D w ≡ ok k → ⊥
    refused w k =
        by_reader (contains (ascii ">") w) (refuse unexpected) (word "<!" unexpected >> refuse unterminated) w (ok k) (λ _ f. err_ok unexpected k f)
        (λ _ f. let (i, j, g, h, l) = then_ok (word "<!" unexpected) (refuse unterminated) w k f in err_ok unterminated j h)

module _ (D : Dialect) (A : AsciiNames D) where
  -- what a name begins with, whatever stands after it
  name_leads : (u v : List ℕ) → Name D u → T (start_first (kind (u ++ v)))
  unfolding kind
  name_leads [] v n = absurd ((name_reads D A).leads [] [] n (record { it = tt }))
  name_leads (b ∷ u) v n = (name_reads D A).leads (b ∷ u) [] n (record { it = tt })

  -- so no word begins where a tag does, that does not go on after '<' as a name begins
  pub tag_clear : (s : List ℕ) → T (clash s (ascii "<") start_first) → (u v : List ℕ) → tag D u → starts s (u ++ v) ≡ false
  unfolding tag
  tag_clear s c u v l =
      ap (starts s) (cat_before l v) ∙ ap (λ (z : List ℕ). starts s (z ++ (l.right ++ v))) l.first
      ∙ starts_clash s (ascii "<") start_first (l.right ++ v) c (name_leads l.right v l.second)

  -- nor comment, instruction or DOCTYPE
  pub tag_rooted : (u v : List ℕ) → tag D u → Rooted (u ++ v)
  unfolding item_here
  tag_rooted u v l = record {
    after = record {
      lead = unfold tag in subst (λ (z : List ℕ). T (first_of "<" (kind z))) (sym (cat_before l v)) ((wd "<" unexpected tt).leads l.left (l.right ++ v) l.first (record { it = tt }));
      no_item = (λ i. tag_clear (ascii "<!--") tt u v l i || tag_clear (ascii "<?") tt u v l i);
    };
    no_doctype = tag_clear (ascii "<!DOCTYPE") tt u v l;
  }

  pub tag_reads : Reads (read_tag D) (tag D) (Next ends_name) (first_of "<")
  unfolding read_tag on tag
  tag_reads =
      some_reads unterminated (λ z. z)
      (weaken_by (λ v t. t) (by_signs tt)
      (as_lang no_first (alt (starts (ascii "<!DOCTYPE")) (λ u v z t. absurd z) (λ u v l t. tag_clear (ascii "<!DOCTYPE") tt u v l) (refuse_reads out_of_order (λ k. false))
      (as_lang no_first (alt (starts (ascii "<!")) (λ u v z t. absurd z) (λ u v l t. tag_clear (ascii "<!") tt u v l) (other_reads D (λ k. false))
      (seq (wd "<" unexpected tt) sub_any (some_reads unterminated (λ z. z) (name_reads D A))))))))

  -- and it is read whatever stands after the name: then a longer one may be read
  pub tag_accepts : (u v : List ℕ) → tag D u → (k : ℕ) × (read_tag D (u ++ v) ≡ ok k)
  tag_accepts u v l = go (named D (n ++ v))
    where
      n : List ℕ
      n = (unfold tag in l.right)

      w : List ℕ
      w = 60 ∷ (n ++ v)

      whole : u ++ v ≡ w
      whole = unfold tag in (cat_before l v ∙ ap (λ (z : List ℕ). z ++ (l.right ++ v)) l.first)

      clear : (s : List ℕ) → T (clash s (ascii "<") start_first) → starts s w ≡ false
      clear s c = ap (starts s) (sym whole) ∙ tag_clear s c u v l

      in_tag : Reader
      in_tag = word "<" unexpected >> choose some_left (name D) (refuse unterminated)

      left : some_left (n ++ v) ≡ true
      left = left_there start_first (λ z. z) (n ++ v) (name_leads n v (unfold tag in l.second))

      to_tag : read_tag D w ≡ in_tag w
      to_tag = unfold read_tag on choose some_left in (
          ap (λ (b : Bool). pick b (refuse out_of_order) (on "<!" (read_other D) in_tag) w) (clear (ascii "<!DOCTYPE") tt)
          ∙ ap (λ (b : Bool). pick b (read_other D) in_tag w) (clear (ascii "<!") tt))

      in_name : (k : ℕ) → name D (n ++ v) ≡ ok k → in_tag w ≡ ok (1 + k)
      in_name k e = unfold ◌>>◌ word_of starts choose in (rw (left, e))

      go : Named D (n ++ v) → (k : ℕ) × (read_tag D (u ++ v) ≡ ok k)
      go (a_name k z e t) = (1 + k, ap (read_tag D) whole ∙ to_tag ∙ in_name k e)
      go (no_name e f) = absurd (f n v refl (unfold tag in l.second))

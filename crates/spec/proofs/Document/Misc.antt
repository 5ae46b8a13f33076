-- Misc*: white space, comments and instructions, as they are written and as they are read. Assumes nothing.
use mathlib.Core.Bool.{Bool, true, false, ◌||◌, or-true}
use mathlib.Core.List.{List, [], ◌∷◌, ◌++◌, append_assoc}
use mathlib.Core.Path.{◌≡◌, refl, sym, ◌∙◌, ap, subst}
use Prim.Native.Nat.{ℕ, ◌<◌}
use native.Mathlib.Omega.{arith}
use lib.Dec.{T}
use lib.ListN.{length}
use Rattle.spec.specs.Grammar.Characters.{S, S?, space}
use Rattle.spec.specs.Grammar.Declarations.{PI, Comment}
use Rattle.spec.specs.Grammar.Doctype.{Misc}
use Rattle.spec.specs.Grammar.Languages.{Lang, ascii, Ch, ◌·◌, ◌∣◌, inl, inr, Star, end, more, any}
use Rattle.spec.specs.Grammar.Names.{Dialect, AsciiNames}
use Rattle.spec.specs.Reading.Document.{is_declaration, item_here, read_item, read_misc}
use Rattle.spec.specs.Reading.Readers.{starts, on}
use Rattle.spec.specs.Reading.Refusals.{out_of_order}
use Rattle.spec.proofs.Agreement.Algebra.{no_first, ◌then◌, starred, back, regroup}
use Rattle.spec.proofs.Agreement.Chars.{kind_encode}
use Rattle.spec.proofs.Agreement.Choices.{refuse_reads}
use Rattle.spec.proofs.Agreement.Loops.{loop_by}
use Rattle.spec.proofs.Agreement.Reads.{Reads, Next, seq, alt, weaken_by, as_lang, ◌≅◌}
use Rattle.spec.proofs.Agreement.Runs.{skip, spaces, s_s?, ascii_lead, space_ascii}
use Rattle.spec.proofs.Agreement.Signs.{kind, by_signs, sub_any, ◌∪◌}
use Rattle.spec.proofs.Agreement.Words.{first_of, starts_lit, starts_clash}
use Rattle.spec.proofs.Characters.Text.{star_append, star_bind, star_one, cat_size, cat_before}
use Rattle.spec.proofs.Dtd.Comments.{comment_reads}
use Rattle.spec.proofs.Dtd.Instructions.{pi_reads}
use Rattle.spec.proofs.Dtd.Markup.{never_lit}
use Rattle.spec.proofs.Base.Tests.{or_false_right}
use Rattle.spec.proofs.Document.Declaration.{no_word, starts_front}
use Rattle.spec.proofs.Document.Declared.{not_declared}

-- white space, and items with white space after each: the same as items and white space in any order
module _ (X : Lang) where
  abbrev Spaced : Lang
  Spaced = S? · Star (X · S?)

  unspaced : {u : List ℕ} → Star (X · S?) u → Star (X ∣ S) u
  unspaced = star_bind (λ u c. subst (Star (X ∣ S)) (sym c.split) (star_append (star_one (inl c.first)) (spaces (λ w s. inr s) c.second)))

  spaced_out : {u : List ℕ} → Star (X ∣ S) u → Spaced u
  unfolding S?
  spaced_out {u} (end e) = record { left = []; right = u; split = refl; first = end refl; second = end e }
  spaced_out {u} (more a b e (inl x) s) =
      let c : Spaced b = spaced_out s in
      record {
        left = [];
        right = u;
        split = refl;
        first = end refl;
        second = more (a ++ c.left) c.right (e ∙ ap (λ (z : List ℕ). a ++ z) c.split ∙ sym (append_assoc a c.left c.right))
            (record { left = a; right = c.left; split = refl; first = x; second = c.first }) c.second;
      }
  spaced_out {u} (more a b e (inr x) s) =
      let c : Spaced b = spaced_out s in
      record {
        left = a ++ c.left;
        right = c.right;
        split = e ∙ ap (λ (z : List ℕ). a ++ z) c.split ∙ sym (append_assoc a c.left c.right);
        first = star_append (s_s? a x) c.first;
        second = c.second;
      }

  spaced_star : Spaced ≅ Star (X ∣ S)
  spaced_star = record {
    to = λ w c. subst (Star (X ∣ S)) (sym c.split) (star_append (spaces (λ w s. inr s) c.first) (unspaced c.second));
    from = λ w s. spaced_out s;
  }

-- what may stand after Misc*: a '<' that begins no comment and no instruction
pub record After (v : List ℕ) : Type 0 where
  pub lead : T (first_of "<" (kind v))
  pub no_item : item_here v ≡ false

-- white space begins with a sign of it
space_leads : (x z : List ℕ) → S x → T (space (kind (x ++ z)))
unfolding S
space_leads x z p = let c : Ch space p.left = p.first in rw (cat_before p z, c.bytes, kind_encode c.char (p.right ++ z)) (ascii_lead space space_ascii c.char c.in_class)

module _ (D : Dialect) (A : AsciiNames D) where
  -- a comment or an instruction
  abbrev Item : Lang
  Item = Comment ∣ PI D

  item_reads : Reads (read_item D) Item (Next any) (first_of "<")
  unfolding read_item on PI Comment
  item_reads =
      weaken_by (λ v t. t) (by_signs tt)
      (alt (starts (ascii "<!--")) (λ u v l t. starts_lit "<!--" v l) (λ u v l t. never_lit "<!--" "<?" tt u v l) comment_reads
      (as_lang no_first (alt is_declaration (λ u v z t. absurd z) (λ u v l t. not_declared D A u v l) (refuse_reads out_of_order (λ k. false)) (pi_reads D A))))

  item_some : (u : List ℕ) → Item u → 0 < length u
  unfolding kind
  item_some [] l = absurd (item_reads.leads [] [] l (record { it = tt }))
  item_some (b ∷ u) l = omega arith

  item_there : (u v : List ℕ) → Item u → item_here (u ++ v) ≡ true
  unfolding item_here PI Comment
  item_there u v (inl l) = ap (λ (b : Bool). b || starts (ascii "<?") (u ++ v)) (starts_lit "<!--" v l)
  item_there u v (inr l) = ap (λ (b : Bool). starts (ascii "<!--") (u ++ v) || b) (starts_lit "<?" v l) ∙ or-true (starts (ascii "<!--") (u ++ v))

  pub misc_reads : Reads (read_misc D) (Star (Misc D)) After (space ∪ first_of "<")
  unfolding read_misc Misc
  misc_reads =
      as_lang (spaced_star Item then starred (back regroup))
      (seq (skip (first_of "<") (by_signs tt)) (by_signs tt)
      (loop_by (first_of "<") item_here (λ v a. a.lead)
      (λ u c. let z = item_some c.left c.first in omega (arith, cat_size c))
      (λ u v c t. ap item_here (cat_before c v) ∙ item_there c.left (c.right ++ v) c.first)
      (λ v a. a.no_item) (by_signs tt)
      (seq item_reads sub_any (skip (first_of "<") (by_signs tt)))))

  -- no XML declaration begins with it
  pub misc_undeclared : {u : List ℕ} (v : List ℕ) → Star (Misc D) u → After v → is_declaration (u ++ v) ≡ false
  unfolding Misc item_here Comment
  misc_undeclared v (end e) t = ap (λ (z : List ℕ). is_declaration (z ++ v)) e ∙ no_word v (starts_front (ascii "<?") (ascii "xml") v (or_false_right (starts (ascii "<!--") v) (starts (ascii "<?") v) t.no_item))
  misc_undeclared {u} v (more x y e m s) t = ap (λ (z : List ℕ). is_declaration (z ++ v)) e ∙ ap is_declaration (append_assoc x y v) ∙ go m
    where
      go : (Comment ∣ PI D ∣ S) x → is_declaration (x ++ (y ++ v)) ≡ false
      go (inl c) = no_word (x ++ (y ++ v)) (never_lit "<?xml" "<!--" tt x (y ++ v) c)
      go (inr (inl p)) = not_declared D A x (y ++ v) p
      go (inr (inr p)) = no_word (x ++ (y ++ v)) (space_first x (y ++ v) p)
        where
          space_first : (x z : List ℕ) → S x → starts (ascii "<?xml") (x ++ z) ≡ false
          space_first x z p = starts_clash (ascii "<?xml") [] space (x ++ z) tt (space_leads x z p)

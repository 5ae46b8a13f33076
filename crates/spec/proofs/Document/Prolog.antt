-- The prolog: the XML declaration, Misc*, the DOCTYPE, Misc*. Assumes nothing.
use mathlib.Core.Bool.{false, ◌||◌}
use mathlib.Core.List.{List, ◌++◌}
use mathlib.Core.Path.{◌≡◌, sym, ◌∙◌, ap, subst}
use Prim.Native.Nat.{ℕ}
use lib.Dec.{T}
use Rattle.spec.specs.Grammar.Doctype.{Misc}
use Rattle.spec.specs.Grammar.Languages.{ascii, ◌·◌, inl, inr, Star, Opt, any}
use Rattle.spec.specs.Grammar.Names.{Dialect, AsciiNames}
use Rattle.spec.specs.Grammar.Prolog.{opening, Doctype, prolog}
use Rattle.spec.specs.Reading.Document.{item_here, read_opening, read_ending, read_prolog}
use Rattle.spec.specs.Reading.Readers.{on, starts}
use Rattle.spec.specs.Reading.Refusals.{unexpected}
use Rattle.spec.proofs.Agreement.Choices.{empty_reads}
use Rattle.spec.proofs.Agreement.Reads.{Reads, seq_by, alt, weaken_by}
use Rattle.spec.proofs.Agreement.Signs.{kind, sub_any, sub_refl}
use Rattle.spec.proofs.Agreement.Words.{first_of, wd, starts_lit}
use Rattle.spec.proofs.Characters.Text.{cat_before}
use Rattle.spec.proofs.Document.Declaration.{declaration_reads}
use Rattle.spec.proofs.Document.Doctype.{doctype_reads}
use Rattle.spec.proofs.Document.Misc.{After, misc_reads, misc_undeclared}
use Rattle.spec.proofs.Dtd.Markup.{never_lit}

-- what may stand after the prolog: nor does it begin a DOCTYPE
pub record Rooted (v : List ℕ) : Type 0 where
  pub after : After v
  pub no_doctype : starts (ascii "<!DOCTYPE") v ≡ false

module _ (D : Dialect) (A : AsciiNames D) where
  -- XMLDecl? Misc*
  pub opening_reads : Reads (read_opening D) (opening D) After any
  unfolding read_opening
  opening_reads = seq_by declaration_reads (λ u v m t. record { it = misc_undeclared D A v m t }) (misc_reads D A)

  -- (doctypedecl Misc*)?
  pub ending_reads : Reads (read_ending D) (Opt (Doctype D · Star (Misc D))) Rooted any
  unfolding read_ending on
  ending_reads =
      weaken_by (λ v t. t) sub_any
      (alt (starts (ascii "<!DOCTYPE")) (λ u v l t. ap (starts (ascii "<!DOCTYPE")) (cat_before l v) ∙ starts_lit "<!DOCTYPE" (l.right ++ v) l.first) (λ u v e t. ap (λ (z : List ℕ). starts (ascii "<!DOCTYPE") (z ++ v)) e ∙ t.no_doctype)
      (seq_by (weaken_by (λ v t. t) sub_any (doctype_reads D A)) (λ u v m t. record { it = tt }) (weaken_by (λ v t. t.after) sub_refl (misc_reads D A)))
      (weaken_by (λ v t. record { it = tt }) sub_any (empty_reads any)))

  -- which begins as what may stand after Misc*
  pub ending_after : (u v : List ℕ) → Opt (Doctype D · Star (Misc D)) u → Rooted v → After (u ++ v)
  unfolding item_here
  ending_after u v (inr e) t = subst (λ (z : List ℕ). After (z ++ v)) (sym e) t.after
  ending_after u v (inl l) t = subst After (sym (cat_before l v)) (record {
    lead = subst (λ (z : List ℕ). T (first_of "<" (kind z))) (sym (cat_before l.first (l.right ++ v))) ((wd "<!DOCTYPE" unexpected tt).leads l.first.left (l.first.right ++ (l.right ++ v)) l.first.first (record { it = tt }));
    no_item = (λ i. never_lit "<!--" "<!DOCTYPE" tt l.left (l.right ++ v) l.first i || never_lit "<?" "<!DOCTYPE" tt l.left (l.right ++ v) l.first i);
  })

  -- and the whole
  pub prolog_reads : Reads (read_prolog D) (prolog D) Rooted any
  unfolding read_prolog
  prolog_reads = seq_by opening_reads ending_after ending_reads

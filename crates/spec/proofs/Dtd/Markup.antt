-- The declarations of the internal subset, and the whole DOCTYPE: on UTF-8 the order of reading accepts exactly what the grammar
-- derives, for every dialect with XML's ASCII part. Assumes nothing.
use mathlib.Core.Bool.{Bool, false}
use mathlib.Core.List.{List, ◌++◌, append_assoc}
use mathlib.Core.Path.{◌≡◌, ◌∙◌, ap}
use Prim.Native.Nat.{ℕ}
use Prim.Native.String.{String}
use lib.Dec.{T}
use Rattle.spec.specs.Grammar.Declarations.{PI, Comment, element_body, attlist_body, entity_body, notation_body, markupdecl, declared}
use Rattle.spec.specs.Grammar.Doctype.{intSubset, doctypedecl}
use Rattle.spec.specs.Grammar.Languages.{Lang, lit, ascii, ◌·◌, ◌∣◌, inl, inr, any}
use Rattle.spec.specs.Grammar.Names.{Dialect, AsciiNames}
use Rattle.spec.specs.Reading.Document.{read_doctype_text}
use Rattle.spec.specs.Reading.Dtd.{parse_element_decl, finish_decl, parse_markup_decl, check_doctype}
use Rattle.spec.specs.Reading.Readers.{Reader, ◌>>◌, starts, on, word}
use Rattle.spec.specs.Reading.Refusals.{unexpected, trailing, too_deep}
use Rattle.spec.proofs.Agreement.Algebra.{either, same, no_first, regroup, swap, back, ◌then◌}
use Rattle.spec.proofs.Agreement.Choices.{refuse_reads}
use Rattle.spec.proofs.Agreement.Reads.{Reads, Next, seq, alt, weaken, as_lang, ◌≅◌}
use Rattle.spec.proofs.Agreement.Signs.{by_signs, sub_any, sub_refl}
use Rattle.spec.proofs.Agreement.Tame.{tame_delimited, Within, within_element}
use Rattle.spec.proofs.Agreement.Whole.{Whole, whole, ends_seq, ends_at_end}
use Rattle.spec.proofs.Agreement.Words.{wd, first_of, starts_clash, clash, plain, starts_lit}
use Rattle.spec.proofs.Dtd.Attlists.{attlist_whole}
use Rattle.spec.proofs.Dtd.Bodies.{finish_reads}
use Rattle.spec.proofs.Dtd.Comments.{comment_reads}
use Rattle.spec.proofs.Dtd.ContentModels.{element_reads}
use Rattle.spec.proofs.Dtd.Doctype.{agrees, closed_reads}
use Rattle.spec.proofs.Dtd.Entities.{entity_whole}
use Rattle.spec.proofs.Dtd.Instructions.{pi_reads}
use Rattle.spec.proofs.Dtd.Notations.{notation_whole}
use Rattle.spec.proofs.Dtd.Tame.{within_attlist, within_entity, within_notation}

-- a language that never begins with the word
abbrev pub Never : String → Lang → Type 0
Never s L = (u v : List ℕ) → L u → starts (ascii s) (u ++ v) ≡ false

pub never_lit : (s t : String) {K : Lang} → T (clash (ascii s) (ascii t) any) → Never s (lit t · K)
never_lit s t c u v l =
    ap (starts (ascii s)) (ap (λ (z : List ℕ). z ++ v) (l.split ∙ ap (λ (z : List ℕ). z ++ l.right) l.first) ∙ append_assoc (ascii t) l.right v)
    ∙ starts_clash (ascii s) (ascii t) any (l.right ++ v) c tt

never_either : (s : String) {L M : Lang} → Never s L → Never s M → Never s (L ∣ M)
never_either s a b u v (inl l) = a u v l
never_either s a b u v (inr m) = b u v m

module _ (D : Dialect) (A : AsciiNames D) where
  element_whole : Whole (parse_element_decl D too_deep) (element_body D)
  unfolding parse_element_decl
  element_whole = whole (element_reads D A) (ends_seq _ _ (ends_seq _ _ (ends_seq _ _ (ends_seq _ _ (ends_seq _ _ (ends_at_end trailing))))))

  abbrev pub Decl : Bool → String → Lang → Lang
  Decl pe s B = lit s · declared D pe B · lit ">"

  abbrev pub ReadMarkup : Bool → Lang
  ReadMarkup pe = PI D ∣ Comment ∣ (λ w. ⊥) ∣ Decl pe "<!ELEMENT" (element_body D) ∣ Decl pe "<!ATTLIST" (attlist_body D) ∣ Decl pe "<!ENTITY" (entity_body D) ∣ Decl pe "<!NOTATION" (notation_body D)

  -- the Rust's order, and W3C's
  in_order : {a b c d p q : Lang} → (p ∣ q ∣ (λ w. ⊥) ∣ a ∣ b ∣ c ∣ d) ≅ (a ∣ b ∣ c ∣ d ∣ p ∣ q)
  in_order = either same (either same no_first) then regroup then swap then back regroup then either same (back regroup then either same (back regroup))

  markup_read : (pe : Bool) → Reads (parse_markup_decl D too_deep pe) (ReadMarkup pe) (Next any) (first_of "<")
  unfolding parse_markup_decl on PI Comment
  markup_read pe =
      weaken sub_refl (by_signs tt)
      (alt (starts (ascii "<?")) (λ u v l t. starts_lit "<?" v l) (λ u v l t. never_either "<?" (never_lit "<?" "<!--" tt) (never_either "<?" (λ u v z. absurd z) (never_either "<?" (never_lit "<?" "<!ELEMENT" tt) (never_either "<?" (never_lit "<?" "<!ATTLIST" tt) (never_either "<?" (never_lit "<?" "<!ENTITY" tt) (never_lit "<?" "<!NOTATION" tt))))) u v l) (pi_reads D A)
      (alt (starts (ascii "<!--")) (λ u v l t. starts_lit "<!--" v l) (λ u v l t. never_either "<!--" (λ u v z. absurd z) (never_either "<!--" (never_lit "<!--" "<!ELEMENT" tt) (never_either "<!--" (never_lit "<!--" "<!ATTLIST" tt) (never_either "<!--" (never_lit "<!--" "<!ENTITY" tt) (never_lit "<!--" "<!NOTATION" tt)))) u v l) comment_reads
      (alt (starts (ascii "<![")) (λ u v z t. absurd z) (λ u v l t. never_either "<![" (never_lit "<![" "<!ELEMENT" tt) (never_either "<![" (never_lit "<![" "<!ATTLIST" tt) (never_either "<![" (never_lit "<![" "<!ENTITY" tt) (never_lit "<![" "<!NOTATION" tt))) u v l) (refuse_reads unexpected (λ k. false))
      (alt (starts (ascii "<!ELEMENT")) (λ u v l t. starts_lit "<!ELEMENT" v l) (λ u v l t. never_either "<!ELEMENT" (never_lit "<!ELEMENT" "<!ATTLIST" tt) (never_either "<!ELEMENT" (never_lit "<!ELEMENT" "<!ENTITY" tt) (never_lit "<!ELEMENT" "<!NOTATION" tt)) u v l) (one "<!ELEMENT" tt element_whole (within_element D A))
      (alt (starts (ascii "<!ATTLIST")) (λ u v l t. starts_lit "<!ATTLIST" v l) (λ u v l t. never_either "<!ATTLIST" (never_lit "<!ATTLIST" "<!ENTITY" tt) (never_lit "<!ATTLIST" "<!NOTATION" tt) u v l) (one "<!ATTLIST" tt (attlist_whole D A) (within_attlist D A))
      (alt (starts (ascii "<!ENTITY")) (λ u v l t. starts_lit "<!ENTITY" v l) (λ u v l t. never_lit "<!ENTITY" "<!NOTATION" tt u v l) (one "<!ENTITY" tt (entity_whole D A) (within_entity D A)) (one "<!NOTATION" tt (notation_whole D A) (within_notation D A))))))))
    where
      one : (s : String) → T (plain (ascii s)) → {body : Reader} {B : Lang} → Whole body B → Within B → Reads (word s unexpected >> finish_decl D pe body) (Decl pe s B) (Next any) (first_of s)
      one s h w i = seq (wd s unexpected h) sub_any (finish_reads D pe w (λ u b. tame_delimited (i u b)))

  pub markup_reads : (pe : Bool) → Reads (parse_markup_decl D too_deep pe) (markupdecl D pe) (Next any) (first_of "<")
  unfolding markupdecl
  markup_reads pe = as_lang in_order (markup_read pe)

  pub doctype_whole : Whole (check_doctype D) (doctypedecl D)
  unfolding doctypedecl intSubset
  doctype_whole = agrees D A (markupdecl D) markup_reads

  -- and the parts of the DOCTYPE before a '>'
  pub doctype_closed : Reads (read_doctype_text D) (doctypedecl D · lit ">") (Next any) any
  unfolding doctypedecl intSubset
  doctype_closed = closed_reads D A (markupdecl D) markup_reads

-- What the grammar derives as a DOCTYPE is text. Assumes nothing.
use mathlib.Core.Bool.{Bool, true, false}
use mathlib.Core.List.{[]}
use mathlib.Core.Path.{◌≡◌}
use Rattle.spec.specs.Grammar.Characters.{Text, S}
use Rattle.spec.specs.Grammar.Declarations.{Delimited, Unread, declared, PI, Comment, markupdecl}
use Rattle.spec.specs.Grammar.Doctype.{intSubset, doctypedecl}
use Rattle.spec.specs.Grammar.Languages.{Lang, lit, ◌·◌, ◌∣◌, Star, none_of}
use Rattle.spec.specs.Grammar.Literals.{SystemLiteral}
use Rattle.spec.specs.Grammar.Names.{Dialect, NCName, PITarget, PEReference, AsciiNames}
use Rattle.spec.specs.Reading.Dtd.{check_doctype}
use Rattle.spec.proofs.Agreement.Accepts.{Agrees}
use Rattle.spec.proofs.Agreement.Tame.{Within, tame_delimited, within_element}
use Rattle.spec.proofs.Agreement.Texts.{Texts, texts_cat, texts_star, texts_lit, texts_ch, texts_either, texts_none, texts_s, texts_s?, texts_name}
use Rattle.spec.proofs.Dtd.Markup.{doctype_whole}
use Rattle.spec.proofs.Dtd.Tame.{within_external, within_attlist, within_entity, within_notation}

texts_delimited : Texts Delimited
unfolding Delimited SystemLiteral
texts_delimited =
    texts_star (texts_either (texts_ch (none_of "\"'>"))
    (texts_either (texts_cat (texts_lit "\"" tt) (texts_cat (texts_star (texts_ch (none_of "\""))) (texts_lit "\"" tt))) (texts_cat (texts_lit "'" tt) (texts_cat (texts_star (texts_ch (none_of "'"))) (texts_lit "'" tt)))))

texts_within : {L : Lang} → Within L → Texts L
texts_within i u l = texts_delimited u (tame_delimited (i u l))

pub texts_comment : Texts Comment
unfolding Comment
texts_comment =
    texts_cat (texts_lit "<!--" tt) (texts_cat (texts_star (texts_either (texts_ch (none_of "-")) (texts_cat (texts_lit "-" tt) (texts_ch (none_of "-"))))) (texts_cat (texts_either (texts_lit "-" tt) texts_none) (texts_lit "-->" tt)))

module _ (D : Dialect) (A : AsciiNames D) where
  pub texts_instruction : Texts (PI D)
  unfolding PI PITarget NCName Text
  texts_instruction = texts_cat (texts_lit "<?" tt) (texts_cat (λ u x. texts_name D u x.0.0) (texts_cat (texts_either (texts_cat texts_s (λ u x. x.0)) texts_none) (texts_lit "?>" tt)))

  texts_body : (pe : Bool) {B : Lang} → Within B → Texts (declared D pe B · lit ">")
  unfolding Unread
  texts_body true i = texts_cat texts_delimited (texts_lit ">" tt)
  texts_body false i = texts_cat (texts_either (texts_within i) (λ u n. texts_delimited u n.0)) (texts_lit ">" tt)

  texts_markup : (pe : Bool) → Texts (markupdecl D pe)
  unfolding markupdecl
  texts_markup pe =
      texts_either (texts_cat (texts_lit "<!ELEMENT" tt) (texts_body pe (within_element D A)))
      (texts_either (texts_cat (texts_lit "<!ATTLIST" tt) (texts_body pe (within_attlist D A)))
      (texts_either (texts_cat (texts_lit "<!ENTITY" tt) (texts_body pe (within_entity D A)))
      (texts_either (texts_cat (texts_lit "<!NOTATION" tt) (texts_body pe (within_notation D A))) (texts_either texts_instruction texts_comment))))

  texts_reference : Texts (PEReference D)
  unfolding PEReference
  texts_reference = texts_cat (texts_lit "%" tt) (texts_cat (texts_name D) (texts_lit ";" tt))

  pub doctype_text : Texts (doctypedecl D)
  unfolding doctypedecl intSubset
  doctype_text =
      texts_cat texts_s? (texts_cat (texts_name D) (texts_cat (texts_either (texts_cat texts_s (texts_within within_external)) texts_none) (texts_cat texts_s?
      (texts_either (texts_cat (texts_lit "[" tt) (texts_cat subset (texts_cat (texts_lit "]" tt) texts_s?))) texts_none))))
    where
      subset : Texts (Star (markupdecl D false ∣ S) · ((PEReference D · Star (markupdecl D true ∣ PEReference D ∣ S)) ∣ (λ w. w ≡ [])))
      subset =
          texts_cat (texts_star (texts_either (texts_markup false) texts_s))
          (texts_either (texts_cat texts_reference (texts_star (texts_either (texts_markup true) (texts_either texts_reference texts_s)))) texts_none)

  -- on UTF-8 the order of reading accepts exactly what the grammar derives
  pub doctype_agrees : Agrees (check_doctype D) (doctypedecl D)
  unfolding Text
  doctype_agrees = record {
    sound = (doctype_whole D A).sound;
    complete = λ w d. (_, (doctype_whole D A).complete w d);
    text = doctype_text;
  }

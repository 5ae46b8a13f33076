-- The bodies that are read are tame. Assumes nothing.
use mathlib.Core.Bool.{Bool, false, ◌&&◌, ◌||◌, not, true≢false}
use mathlib.Core.List.{List}
use mathlib.Core.Path.{◌≡◌, refl, sym, ◌∙◌, subst}
use Prim.Native.Nat.{ℕ}
use native.Mathlib.Omega.{arith}
use lib.Dec.{T, eqb}
use Rattle.spec.specs.Grammar.Declarations.{NDataDecl, listed, AttType, DefaultDecl, AttDef, attlist_body, entity_body, notation_body}
use Rattle.spec.specs.Grammar.Languages.{Lang, Ch, inl, inr, Star, any, none_of}
use Rattle.spec.specs.Grammar.Literals.{Quoted, SystemLiteral, PubidLiteral, pubid_char, EntityValue, AttValue, ExternalID, PublicID}
use Rattle.spec.specs.Grammar.Names.{Dialect, Nmtoken, NCName, AsciiNames}
use Rattle.spec.specs.Grammar.References.{Referring}
use Rattle.spec.proofs.Agreement.Tame.{Within, within_cat, within_either, within_star, within_ch, within_lit, within_none, within_s, within_s?, within_name}
use Rattle.spec.proofs.Agreement.Texts.{texts_referring}
use Rattle.spec.proofs.Base.Tests.{T→true, eqb_no}
use Rattle.spec.proofs.Characters.Bytes.{avoids_class, not_one}
use Rattle.spec.proofs.Characters.Text.{star_one, star_map}
use Rattle.spec.proofs.Dtd.Values.{quote_foreign, apostrophe_foreign}
use Rattle.spec.proofs.Wellformed.References.{ref_avoids, Foreign}

-- literals
within_quoted : {D E : Lang} → ((u : List ℕ) → D u → Star (Ch (none_of "\"")) u) → ((u : List ℕ) → E u → Star (Ch (none_of "'")) u) → Within (Quoted D E)
unfolding SystemLiteral
within_quoted f g u (inl l) = star_one (inr (inl (record { left = l.left; right = l.right; split = l.split; first = l.first; second = record { left = l.second.left; right = l.second.right; split = l.second.split; first = f l.second.left l.second.first; second = l.second.second } })))
within_quoted f g u (inr l) = star_one (inr (inr (record { left = l.left; right = l.right; split = l.split; first = l.first; second = record { left = l.second.left; right = l.second.right; split = l.second.split; first = g l.second.left l.second.first; second = l.second.second } })))

without : (p : ℕ → Bool) (a : ℕ) → p a ≡ false → {u : List ℕ} → Star (Ch p) u → Star (Ch (λ c. not (eqb c a || false))) u
without p a n s = star_map (λ w c. record { char = c.char; is_scalar = c.is_scalar; in_class = rw (eqb_no c.char a (λ e. true≢false (sym (T→true (p a) (subst (λ (k : ℕ). T (p k)) e c.in_class)) ∙ n))) tt; bytes = c.bytes }) s

within_system : Within SystemLiteral
unfolding SystemLiteral
within_system = within_quoted (λ u s. s) (λ u s. s)

within_pubid : Within PubidLiteral
unfolding PubidLiteral pubid_char
within_pubid = within_quoted (λ u s. without pubid_char 34 refl s) (λ u s. without (λ c. pubid_char c && none_of "'" c) 39 refl s)

-- text with references, none of which has the quote
referring_without : (p : ℕ → Bool) (a : ℕ) → Foreign a → p a ≡ false → (u : List ℕ) → Referring p u → Star (Ch (λ c. not (eqb c a || false))) u
referring_without p a f n u r = avoids_class any (λ c. not (eqb c a || false)) a f.small (λ c t. not_one a c) (texts_referring p u r) (ref_avoids p a f n u r)

within_value : Within EntityValue
unfolding EntityValue
within_value = within_quoted (referring_without (none_of "\"") 34 quote_foreign refl) (referring_without (none_of "'") 39 apostrophe_foreign refl)

within_att : Within AttValue
unfolding AttValue
within_att = within_quoted (referring_without (none_of "<\"") 34 quote_foreign refl) (referring_without (none_of "<'") 39 apostrophe_foreign refl)

pub within_external : Within ExternalID
unfolding ExternalID
within_external =
    within_either (within_cat (within_lit "SYSTEM" tt) (within_cat within_s within_system))
    (within_cat (within_lit "PUBLIC" tt) (within_cat within_s (within_cat within_pubid (within_cat within_s within_system))))

module _ (D : Dialect) (A : AsciiNames D) where
  pub within_ncname : Within (NCName D)
  unfolding NCName
  within_ncname u n = within_name D A u n.0

  pub within_notation : Within (notation_body D)
  unfolding notation_body PublicID
  within_notation =
      within_cat within_s (within_cat within_ncname (within_cat within_s (within_cat (within_either within_external (within_cat (within_lit "PUBLIC" tt) (within_cat within_s within_pubid))) within_s?)))

  pub within_entity : Within (entity_body D)
  unfolding entity_body NDataDecl
  within_entity =
      within_either
      (within_cat within_s (within_cat within_ncname (within_cat within_s (within_cat
      (within_either within_value (within_cat within_external (within_either (within_cat within_s (within_cat (within_lit "NDATA" tt) (within_cat within_s (within_name D A)))) within_none))) within_s?))))
      (within_cat within_s (within_cat (within_lit "%" tt) (within_cat within_s (within_cat within_ncname (within_cat within_s (within_cat (within_either within_value within_external) within_s?))))))

  within_listed : {L : Lang} → Within L → Within (listed L)
  unfolding listed
  within_listed i = within_cat (within_lit "(" tt) (within_cat within_s? (within_cat i (within_cat (within_star (within_cat within_s? (within_cat (within_lit "|" tt) (within_cat within_s? i)))) (within_cat within_s? (within_lit ")" tt)))))

  pub within_attlist : Within (attlist_body D)
  unfolding attlist_body AttDef AttType DefaultDecl Nmtoken
  within_attlist =
      within_cat within_s (within_cat (within_name D A) (within_cat (within_star (within_cat within_s (within_cat (within_name D A) (within_cat within_s (within_cat types (within_cat within_s defaults)))))) within_s?))
    where
      part : Within (Ch D.part)
      part = within_ch D.part (A.part_ascii 34 (omega arith)) (A.part_ascii 39 (omega arith)) (A.part_ascii 60 (omega arith)) (A.part_ascii 62 (omega arith)) (A.part_ascii 91 (omega arith)) (A.part_ascii 93 (omega arith))

      types : Within (AttType D)
      types =
          within_either (within_lit "CDATA" tt) (within_either (within_lit "ID" tt) (within_either (within_lit "IDREF" tt) (within_either (within_lit "IDREFS" tt) (within_either (within_lit "ENTITY" tt) (within_either (within_lit "ENTITIES" tt) (within_either (within_lit "NMTOKEN" tt) (within_either (within_lit "NMTOKENS" tt)
          (within_either (within_cat (within_lit "NOTATION" tt) (within_cat within_s (within_listed (within_name D A)))) (within_listed (within_cat part (within_star part)))))))))))

      defaults : Within (DefaultDecl)
      defaults =
          within_either (within_lit "#REQUIRED" tt) (within_either (within_lit "#IMPLIED" tt) (within_cat (within_either (within_cat (within_lit "#FIXED" tt) within_s) within_none) within_att))

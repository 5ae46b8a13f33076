-- Of two dialects one holds the other: then it derives every name, comment, instruction and DOCTYPE that the other does. A lemma for each
-- production, by its shape. Assumes nothing.
use mathlib.Core.Bool.{Bool, true, false}
use mathlib.Core.Path.{◌≡◌}
use Prim.Native.Nat.{ℕ, zero, suc, ◌≤◌}
use native.Mathlib.Omega.{arith}
use Rattle.spec.specs.Grammar.AppendixB.{appendix_b}
use Rattle.spec.specs.Grammar.Characters.{S?}
use Rattle.spec.specs.Grammar.ContentModels.{choice, sequence, cp, Group, children, Mixed, contentspec}
use Rattle.spec.specs.Grammar.Declarations.{listed, PI, element_body, AttType, AttDef, attlist_body, NDataDecl, entity_body, notation_body, Unread, declared, markupdecl}
use Rattle.spec.specs.Grammar.Doctype.{intSubset, doctypedecl, Misc}
use Rattle.spec.specs.Grammar.FifthEdition.{fifth_edition}
use Rattle.spec.specs.Grammar.Languages.{Lang, lit, ◌·◌, Star}
use Rattle.spec.specs.Grammar.Names.{Dialect, Name, Nmtoken, NCName, PITarget, PEReference}
use Rattle.spec.proofs.Agreement.Wider.{◌⊑◌, same, ch, ◌··◌, ◌∣∣◌, star, less, also}
use Rattle.spec.proofs.Characters.FifthEdition.{starts_held, parts_held}

-- E holds D: its classes have every character that D's have, and it allows as many open groups
pub record Wider (D E : Dialect) : Type 0 where
  pub starts : (c : ℕ) → D.start c ≡ true → E.start c ≡ true
  pub parts : (c : ℕ) → D.part c ≡ true → E.part c ≡ true
  pub limits : D.groups ≤ E.groups

pub fifth_wider : Wider appendix_b fifth_edition
fifth_wider = record { starts = starts_held; parts = parts_held; limits = omega arith }

-- [49], [50], and the lists of [58] and [59]
choices : {L M : Lang} → L ⊑ M → choice L ⊑ choice M
unfolding choice
choices i = same ·· same ·· i ·· ((same ·· same ·· same ·· i) ·· star (same ·· same ·· same ·· i)) ·· same ·· same

-- in parentheses, with a sign between
rows : {sign L M : Lang} → L ⊑ M → (lit "(" · S? · L · Star (S? · sign · S? · L) · S? · lit ")") ⊑ (lit "(" · S? · M · Star (S? · sign · S? · M) · S? · lit ")")
rows i = same ·· same ·· i ·· star (same ·· same ·· same ·· i) ·· same ·· same

sequences : {L M : Lang} → L ⊑ M → sequence L ⊑ sequence M
unfolding sequence
sequences i = rows i

lists : {L M : Lang} → L ⊑ M → listed L ⊑ listed M
unfolding listed
lists i = rows i

module _ {D E : Dialect} (W : Wider D E) where
  -- names: [5], [7], NCName, [17], [69]
  pub name_wider : Name D ⊑ Name E
  unfolding Name
  name_wider = ch W.starts ·· star (ch W.parts)

  nmtoken : Nmtoken D ⊑ Nmtoken E
  unfolding Nmtoken
  nmtoken = ch W.parts ·· star (ch W.parts)

  ncname : NCName D ⊑ NCName E
  unfolding NCName
  ncname = less name_wider

  target : PITarget D ⊑ PITarget E
  unfolding PITarget
  target = less ncname

  reference : PEReference D ⊑ PEReference E
  unfolding PEReference
  reference = same ·· name_wider ·· same

  -- content models: [46] to [51]
  group : (h i : ℕ) → h ≤ i → Group D h ⊑ Group E i
  unfolding Group
  group zero i l = record { into = λ w z. absurd z }
  group (suc h) zero l = absurd (omega arith)
  group (suc h) (suc i) l =
      let particle : cp D (Group D h) ⊑ cp E (Group E i) = (name_wider ∣∣ group h i (omega arith)) ·· same in
      choices particle ∣∣ sequences particle

  content : contentspec D ⊑ contentspec E
  unfolding contentspec Mixed children
  content =
      same ∣∣ same
      ∣∣ ((same ·· same ·· same ·· star (same ·· same ·· same ·· name_wider) ·· same ·· same) ∣∣ same)
      ∣∣ (group D.groups E.groups W.limits ·· same)

  -- bodies: [45], [52] to [59], [70] to [76], [82], and what is only delimited
  element : element_body D ⊑ element_body E
  unfolding element_body
  element = same ·· name_wider ·· same ·· content ·· same

  att_type : AttType D ⊑ AttType E
  unfolding AttType
  att_type =
      same ∣∣ same ∣∣ same ∣∣ same ∣∣ same ∣∣ same ∣∣ same ∣∣ same ∣∣ (same ·· same ·· lists name_wider) ∣∣ lists nmtoken

  attlist : attlist_body D ⊑ attlist_body E
  unfolding attlist_body AttDef
  attlist = same ·· name_wider ·· star (same ·· name_wider ·· same ·· att_type ·· same ·· same) ·· same

  ndata : NDataDecl D ⊑ NDataDecl E
  unfolding NDataDecl
  ndata = same ·· same ·· same ·· name_wider

  entity : entity_body D ⊑ entity_body E
  unfolding entity_body
  entity =
      (same ·· ncname ·· same ·· (same ∣∣ (same ·· (ndata ∣∣ same))) ·· same)
      ∣∣ (same ·· same ·· same ·· ncname ·· same ·· same ·· same)

  «notation» : notation_body D ⊑ notation_body E
  unfolding notation_body
  «notation» = same ·· ncname ·· same ·· same ·· same

  unread : Unread D ⊑ Unread E
  unfolding Unread
  unread = also same (same ·· same ·· ch W.starts ·· same)

  body : (b : Bool) {L M : Lang} → L ⊑ M → declared D b L ⊑ declared E b M
  body true i = same
  body false i = i ∣∣ unread

  -- [16], [27], [28], [28b], [29]
  instruction : PI D ⊑ PI E
  unfolding PI
  instruction = same ·· target ·· same ·· same

  pub misc_wider : Misc D ⊑ Misc E
  unfolding Misc
  misc_wider = same ∣∣ instruction ∣∣ same

  markup : (b : Bool) → markupdecl D b ⊑ markupdecl E b
  unfolding markupdecl
  markup b =
      (same ·· body b element ·· same) ∣∣ (same ·· body b attlist ·· same) ∣∣ (same ·· body b entity ·· same)
      ∣∣ (same ·· body b «notation» ·· same) ∣∣ instruction ∣∣ same

  subset : intSubset D ⊑ intSubset E
  unfolding intSubset
  subset = star (markup false ∣∣ same) ·· ((reference ·· star (markup true ∣∣ reference ∣∣ same)) ∣∣ same)

  pub doctype_wider : doctypedecl D ⊑ doctypedecl E
  unfolding doctypedecl
  doctype_wider = same ·· name_wider ·· same ·· same ·· ((same ·· subset ·· same ·· same) ∣∣ same)

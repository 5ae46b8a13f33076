-- check_declaration accepts exactly the XML declarations that the grammar derives. Assumes nothing.
use mathlib.Core.Bool.{Bool, true, false}
use mathlib.Core.List.{List, [], ◌++◌}
use mathlib.Core.Path.{◌≡◌, sym, ◌∙◌, ap, subst}
use Prim.Native.Nat.{ℕ}
use Prim.Native.String.{String}
use lib.Dec.{T}
use lib.ListN.{drop}
use Rattle.spec.specs.Grammar.Characters.{Text, S, S?, space}
use Rattle.spec.specs.Grammar.Languages.{Lang, lit, ascii, ◌·◌, inl, inr, Opt, any}
use Rattle.spec.specs.Grammar.Literals.{Quoted}
use Rattle.spec.specs.Grammar.XmlDecl.{Eq, VersionInfo, EncodingDecl, SDDecl, XMLDecl}
use Rattle.spec.specs.Reading.Checks.{valued, is_enc_name, is_yes_or_no, parse_eq_quoted, pseudo_attr, check_declaration}
use Rattle.spec.specs.Reading.Dtd.{skip_s}
use Rattle.spec.specs.Reading.Readers.{Reader, ◌>>◌, nothing, at_end, starts, choose, run}
use Rattle.spec.specs.Reading.Refusals.{unexpected, trailing, bad_value}
use Rattle.spec.proofs.Agreement.Accepts.{Agrees}
use Rattle.spec.proofs.Agreement.Algebra.{ε, back, ◌then◌, cat₂, assoc, none_after}
use Rattle.spec.proofs.Agreement.Choices.{empty_reads}
use Rattle.spec.proofs.Agreement.Reads.{Reads, Next, seq, seq_by, alt, weaken_by, as_lang}
use Rattle.spec.proofs.Agreement.Runs.{not_space, skip, need, past_space, s_s?}
use Rattle.spec.proofs.Agreement.Signs.{kind, Class, Sub, by_signs, sub_any, sub_refl, ◌∪◌, in_left, in_right}
use Rattle.spec.proofs.Agreement.Texts.{Texts, texts_cat, texts_lit, texts_either, texts_none, texts_s, texts_s?}
use Rattle.spec.proofs.Agreement.Whole.{stop, at_end_reads, Whole, whole, ends_seq, ends_at_end}
use Rattle.spec.proofs.Agreement.Words.{plain, first_of, clash, wd, starts_clash, starts_lit}
use Rattle.spec.proofs.Base.Results.{else_refuses}
use Rattle.spec.proofs.Characters.Text.{all_ascii, cat_before}
use Rattle.spec.proofs.Dtd.Literals.{Inside, quote_first, quoted_reads}
use Rattle.spec.proofs.Checks.Values.{Value, version_value, enc_value, yes_no_value}
use Rattle.spec.proofs.Wellformed.References.{Avoiding}

-- Eq and a value in quotes, whatever its test
module _ {test : List ℕ → Bool} {L : Lang} (x : Value test L) where
  value_inside : (a : ℕ) → Avoiding a L → Inside (valued test) L a
  unfolding valued choose nothing
  value_inside a free = record {
    sound_in = λ u j tu h e. (x.decides.answer u tu).0 (else_refuses bad_value (test u) nothing u j e).0;
    complete_in = λ u l. (0, rw ((x.decides.answer u (x.decides.text u l)).1 l));
    free = free;
  }

  pub eq_quoted_reads : Reads (parse_eq_quoted test) (Eq · Quoted L L) (Next any) (space ∪ first_of "=")
  unfolding parse_eq_quoted Eq
  eq_quoted_reads =
      as_lang (back (assoc then cat₂ assoc))
      (seq (skip (first_of "=") (by_signs tt)) sub_refl
      (seq (wd "=" unexpected tt) sub_any
      (seq (skip quote_first (by_signs tt)) sub_refl (quoted_reads (valued test) L L (value_inside 34 x.no_double) (value_inside 39 x.no_single)))))

-- What follows an optional part may begin with white space, as the part does: what settles whether the part is there is the sign
-- after the white space.
pub record Then (g : Class) (v : List ℕ) : Type 0 where
  sign : T (g (kind (drop (run space v) v)))

pub then_past : {g : Class} → Sub g not_space → (x y : List ℕ) → S? x → T (g (kind y)) → Then g (x ++ y)
then_past {g} h x y s t = record { sign = subst (λ (z : List ℕ). T (g (kind z))) (sym (past_space h x y s t)) t }

then_sub : {p q : Class} → ((k : ℕ) → T (p k) → T (q k)) → {v : List ℕ} → Then p v → Then q v
then_sub f {v} t = record { sign = f (kind (drop (run space v) v)) t.sign }

-- the test of pseudo_attr: the name is next after white space
abbrev pub ahead : String → List ℕ → Bool
ahead name w = starts (ascii name) (drop (run space w) w)

pub missed : (name : String) (g : Class) → T (clash (ascii name) [] g) → (u v : List ℕ) → u ≡ [] → Then g v → ahead name (u ++ v) ≡ false
missed name g c u v e t = ap (λ (z : List ℕ). ahead name (z ++ v)) e ∙ starts_clash (ascii name) [] g (drop (run space v) v) c t.sign

-- white space, a name, and whatever belongs to it
module _ (name : String) (good : T (plain (ascii name))) (dark : Sub (first_of name) not_space) {K : Lang} where
  named : (u v : List ℕ) → (lit name · K) u → T (first_of name (kind (u ++ v)))
  named u v l = subst (λ (z : List ℕ). T (first_of name (kind z))) (sym (cat_before l v)) ((wd name unexpected good).leads l.left (l.right ++ v) l.first (record { it = tt }))

  pub found : (u v : List ℕ) → (S · lit name · K) u → ahead name (u ++ v) ≡ true
  found u v l = rw (cat_before l v, past_space dark l.left (l.right ++ v) (s_s? l.left l.first) (named l.right v l.second)) (starts_lit name v l.second)

  -- with it, or without it, in front of what may follow: after the white space stands its name's first sign, or the follower's
  pub met : (g : Class) → {M F : Lang} → ((u v : List ℕ) → M u → F v → Then g (u ++ v))
      → (u v : List ℕ) → (Opt (S · lit name · K) · M) u → F v → Then (first_of name ∪ g) (u ++ v)
  met g {M} {F} after u v c t = subst (Then (first_of name ∪ g)) (sym (cat_before c v)) (go c.left c.first)
    where
      go : (x : List ℕ) → Opt (S · lit name · K) x → Then (first_of name ∪ g) (x ++ (c.right ++ v))
      go x (inl l) =
          let y : List ℕ = l.right ++ (c.right ++ v) in
          let p : Then (first_of name) (l.left ++ y) = then_past dark l.left y (s_s? l.left l.first) (named l.right (c.right ++ v) l.second) in
          subst (Then (first_of name ∪ g)) (sym (cat_before l (c.right ++ v))) (then_sub (λ k. in_left (first_of name k) (g k)) p)
      go x (inr e) = subst (λ (z : List ℕ). Then (first_of name ∪ g) (z ++ (c.right ++ v))) (sym e) (then_sub (λ k. in_right (first_of name k) (g k)) (after c.right v c.second t))

-- pseudo_attr, for both names
attr_reads : (name : String) → T (plain (ascii name)) → Sub (first_of name) not_space → (g : Class) → T (clash (ascii name) [] g) → {test : List ℕ → Bool} {L : Lang} → Value test L
    → Reads (pseudo_attr name test) (Opt (S · lit name · Eq · Quoted L L)) (Then g) any
unfolding pseudo_attr
attr_reads name good dark g c {test} {L} x =
    weaken_by (λ v t. t) sub_any
    (alt (ahead name) (λ u v l t. found name good dark u v l) (missed name g c)
    (weaken_by (λ v t. record { it = tt }) sub_refl (seq (need (first_of name) dark) sub_refl (seq (wd name unexpected good) sub_any (eq_quoted_reads x))))
    (weaken_by (λ v t. record { it = tt }) sub_refl (empty_reads any)))

-- the order of reading, part by part
abbrev rest_reader : Reader
rest_reader = pseudo_attr "encoding" is_enc_name >> pseudo_attr "standalone" is_yes_or_no >> skip_s >> at_end trailing

blank_then : (u v : List ℕ) → (S? · ε) u → Next stop v → Then stop (u ++ v)
blank_then u v c t = then_past (by_signs tt) u v (none_after.to u c) t.it

rest_reads : Reads rest_reader (Opt EncodingDecl · Opt SDDecl · S? · ε) (Next stop) any
unfolding EncodingDecl SDDecl
rest_reads =
    seq_by (attr_reads "encoding" tt (by_signs tt) (first_of "standalone" ∪ stop) tt enc_value) (met "standalone" tt (by_signs tt) stop blank_then)
    (seq_by (attr_reads "standalone" tt (by_signs tt) stop tt yes_no_value) blank_then (seq (skip stop (by_signs tt)) sub_refl (at_end_reads trailing)))

declaration_whole : Whole check_declaration XMLDecl
unfolding check_declaration XMLDecl VersionInfo
declaration_whole =
    whole
    (as_lang (cat₂ (back (assoc then cat₂ assoc) then cat₂ (cat₂ (cat₂ none_after))))
    (seq (wd "xml" unexpected tt) sub_any (seq (need (first_of "version") (by_signs tt)) sub_refl (seq (wd "version" unexpected tt) sub_any (seq (eq_quoted_reads version_value) sub_any rest_reads)))))
    (ends_seq _ _ (ends_seq _ _ (ends_seq _ _ (ends_seq _ _ (ends_seq _ _ (ends_seq _ _ (ends_seq _ _ (ends_at_end trailing))))))))

-- what the grammar derives is text
texts_value : {test : List ℕ → Bool} {L : Lang} → Value test L → Texts L
unfolding Text
texts_value x = x.decides.text

texts_attr : (name : String) → T (all_ascii (ascii name)) → {test : List ℕ → Bool} {L : Lang} → Value test L → Texts (S · lit name · Eq · Quoted L L)
unfolding Eq
texts_attr name h x =
    texts_cat texts_s (texts_cat (texts_lit name h) (texts_cat (texts_cat texts_s? (texts_cat (texts_lit "=" tt) texts_s?))
    (texts_either (texts_cat (texts_lit "\"" tt) (texts_cat (texts_value x) (texts_lit "\"" tt))) (texts_cat (texts_lit "'" tt) (texts_cat (texts_value x) (texts_lit "'" tt))))))

declaration_text : Texts XMLDecl
unfolding XMLDecl VersionInfo EncodingDecl SDDecl
declaration_text =
    texts_cat (texts_lit "xml" tt) (texts_cat (texts_attr "version" tt version_value)
    (texts_cat (texts_either (texts_attr "encoding" tt enc_value) texts_none) (texts_cat (texts_either (texts_attr "standalone" tt yes_no_value) texts_none) texts_s?)))

-- on UTF-8 the order of reading accepts exactly what the grammar derives
pub declaration_agrees : Agrees check_declaration XMLDecl
unfolding Text
declaration_agrees = record {
  sound = declaration_whole.sound;
  complete = λ w d. (_, declaration_whole.complete w d);
  text = declaration_text;
}

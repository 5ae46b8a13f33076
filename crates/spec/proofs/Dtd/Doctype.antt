-- The whole DOCTYPE, over any reader of its declarations. Assumes nothing.
use mathlib.Core.Logic
use mathlib.Core.Bool.{Bool, true, false, ◌||◌, true≢false, or-true}
use mathlib.Core.List.{List, [], ◌∷◌, ◌++◌}
use mathlib.Core.Logic.{◌⊎◌}
use mathlib.Core.Path.{◌≡◌, refl, sym, ◌∙◌, ap, subst}
use Prim.Native.Nat.{ℕ, suc}
use native.Mathlib.Omega.{arith}
use lib.Dec.{T, ltb, eqb}
use lib.ListN.{length, drop}
use lib.Seq.{drop-drop}
use Rattle.spec.specs.Basics.{pick}
use Rattle.spec.specs.Grammar.Characters.{Text, S, S?, space}
use Rattle.spec.specs.Grammar.Languages.{Lang, lit, ascii, ◌·◌, ◌∣◌, inl, inr, Opt, any, one_of}
use Rattle.spec.specs.Grammar.Literals.{ExternalID}
use Rattle.spec.specs.Grammar.Names.{Dialect, Name, AsciiNames}
use Rattle.spec.specs.Reading.Document.{read_doctype_text}
use Rattle.spec.specs.Reading.Dtd.{skip_s, parse_external_id, parse_markup_decl, parse_internal_subset, doctype_before, check_doctype}
use Rattle.spec.specs.Reading.Readers.{ok, Reader, ◌>>◌, nothing, starts, choose, on, word, while, begins, char}
use Rattle.spec.specs.Reading.Refusals.{bad_name, unexpected, trailing, too_deep}
use Rattle.spec.specs.Reading.Utf8.{decode1}
use Rattle.spec.specs.Reading.Wellformed.{parts, name}
use Rattle.spec.proofs.Agreement.Algebra.{ε, same, ◌then◌, cat₂, either, assoc, none_after, over_left, over_right, none_before, plus_or_none, back, cat, swap, regroup}
use Rattle.spec.proofs.Agreement.Choices.{on_word, empty_reads}
use Rattle.spec.proofs.Agreement.Reads.{Took, Leads, Reads, Next, sound_seq, complete_seq, seq, alt, ◌≅◌, weaken, weaken_by, as_lang, sound_after}
use Rattle.spec.proofs.Agreement.Runs.{not_space, skip, need}
use Rattle.spec.proofs.Agreement.Signs.{kind, Class, sub_at, by_signs, sub_any, sub_refl, ◌∪◌}
use Rattle.spec.proofs.Agreement.Whole.{stop, at_end_reads, Ends, ends_seq, ends_at_end, Whole, whole}
use Rattle.spec.proofs.Agreement.Words.{wd, first_of, starts_clash, starts_lit}
use Rattle.spec.proofs.Base.Loops.{while_exit}
use Rattle.spec.proofs.Base.Results.{then_ok}
use Rattle.spec.proofs.Base.Somes.{some_char}
use Rattle.spec.proofs.Base.Tests.{T→true, leb_true, two_signs}
use Rattle.spec.proofs.Characters.Text.{cat_before}
use Rattle.spec.proofs.Characters.Utf8.{decode_1}
use Rattle.spec.proofs.Dtd.Literals.{external_id_reads}
use Rattle.spec.proofs.Dtd.Subset.{Written, subset_reads}
use Rattle.spec.proofs.Wellformed.Names.{ends_name, start_first, name_reads}

module _ (D : Dialect) where
  -- a name ends where no name character stands
  munch : (w : List ℕ) (k : ℕ) → name D w ≡ ok k → begins D.part (drop k w) ≡ false
  unfolding name parts while begins decode1
  munch w k e =
      let (i, j, _, g, l) = then_ok (char D.start bad_name) (parts D) w k e in
      ap (λ (q : ℕ). begins D.part (drop q w)) (sym l) ∙ ap (begins D.part) (sym (drop-drop j i w))
      ∙ while_exit (begins D.part) (char D.part bad_name) refl (some_char D.part bad_name) (length (drop i w)) (drop i w) j (omega arith) g

-- what ends a DOCTYPE's text: the text's own end, or the '>' after it
abbrev ending : Class
ending k = one_of ">" k || eqb k 129

module _ (D : Dialect) (A : AsciiNames D) (M : Bool → Lang) (reads_markup : (pe : Bool) → Reads (parse_markup_decl D too_deep pe) (M pe) (Next any) (first_of "<")) where
  -- what stands after the name, as it is read and as it is written
  abbrev InBrackets : Lang
  InBrackets = lit "[" · (Written D M · lit "]") · S?

  abbrev Bracketed : Lang
  Bracketed = Opt (lit "[" · Written D M · lit "]" · S?)

  abbrev pub Tail : Lang
  Tail = Opt (S · ExternalID) · S? · Bracketed

  abbrev before_end : Class
  before_end k = one_of "[" k || ending k

  abbrev tail_first : Class
  tail_first k = space k || one_of "SP[" k || ending k

  -- where no name character stands first, white space stands before the external identifier
  named : (w : List ℕ) → T (one_of "SP" (kind w)) → begins D.part w ≡ true
  unfolding begins kind decode1
  named [] t = absurd t
  named (b ∷ w) t = go (ltb b 128) refl t
    where
      is_part : (b ≡ 83) ⊎ (b ≡ 80) → D.part b ≡ true
      is_part (Logic.inl e) = ap D.part e ∙ A.part_ascii 83 (omega arith)
      is_part (Logic.inr e) = ap D.part e ∙ A.part_ascii 80 (omega arith)

      go : (x : Bool) → ltb b 128 ≡ x → T (one_of "SP" (pick x b 128)) → begins D.part (b ∷ w) ≡ true
      go true e h = rw (decode_1 b w (leb_true (suc b) 128 e)) (is_part (two_signs 83 80 b (T→true (one_of "SP" b) h)))
      go false e h = absurd h

  -- whatever reads the end of it
  module _ {ender : Reader} {Z F : Lang} (reads_end : Reads ender Z F ending) where
    abbrev Raw : Lang
    Raw = S? · ((ExternalID · S?) ∣ ε) · (InBrackets ∣ ε) · Z

    abbrev BracketedEnd : Lang
    BracketedEnd = Bracketed · Z

    abbrev TailEnd : Lang
    TailEnd = Opt (S · ExternalID) · S? · BracketedEnd

    abbrev tail_reader : Reader
    tail_reader = skip_s >> choose (λ w. starts (ascii "SYSTEM") w || starts (ascii "PUBLIC") w) (parse_external_id >> skip_s) nothing >> on "[" (word "[" unexpected >> parse_internal_subset D too_deep >> skip_s) nothing >> ender

    raw_reads : Reads tail_reader Raw F tail_first
    unfolding ExternalID
    raw_reads =
        weaken_by (λ v t. t) (by_signs tt)
        (seq (skip (one_of "SP" ∪ before_end) (by_signs tt)) sub_refl
        (seq (alt (λ w. starts (ascii "SYSTEM") w || starts (ascii "PUBLIC") w) ahead (λ u v e t. none u v e t.it) (seq external_id_reads sub_any (skip before_end (by_signs tt))) (empty_reads before_end)) (by_signs tt)
        (seq (on_word "[" tt (seq (wd "[" unexpected tt) sub_any (seq (subset_reads D A M reads_markup) sub_any (skip ending (by_signs tt)))) (empty_reads ending)) sub_refl reads_end)))
      where
        ahead : (u v : List ℕ) → (ExternalID · S?) u → Next before_end v → (starts (ascii "SYSTEM") (u ++ v) || starts (ascii "PUBLIC") (u ++ v)) ≡ true
        ahead u v l t = subst (λ (q : List ℕ). (starts (ascii "SYSTEM") q || starts (ascii "PUBLIC") q) ≡ true) (sym (cat_before l v)) (go l.first)
          where
            go : ExternalID l.left → (starts (ascii "SYSTEM") (l.left ++ (l.right ++ v)) || starts (ascii "PUBLIC") (l.left ++ (l.right ++ v))) ≡ true
            go (inl x) = ap (λ (b : Bool). b || starts (ascii "PUBLIC") (l.left ++ (l.right ++ v))) (starts_lit "SYSTEM" (l.right ++ v) x)
            go (inr x) = ap (λ (b : Bool). starts (ascii "SYSTEM") (l.left ++ (l.right ++ v)) || b) (starts_lit "PUBLIC" (l.right ++ v) x) ∙ or-true (starts (ascii "SYSTEM") (l.left ++ (l.right ++ v)))

        none : (u v : List ℕ) → ε u → T (before_end (kind v)) → (starts (ascii "SYSTEM") (u ++ v) || starts (ascii "PUBLIC") (u ++ v)) ≡ false
        none u v e t =
            ap (λ (x : List ℕ). starts (ascii "SYSTEM") (x ++ v) || starts (ascii "PUBLIC") (x ++ v)) e
            ∙ (λ i. starts_clash (ascii "SYSTEM") [] before_end v tt t i || starts_clash (ascii "PUBLIC") [] before_end v tt t i)

    bracket : ((InBrackets ∣ ε) · Z) ≅ BracketedEnd
    bracket = cat (either (cat₂ assoc) same) same

    -- what is written, with an external identifier and without
    tail_split : TailEnd ≅ ((S · ExternalID · S? · BracketedEnd) ∣ (S? · BracketedEnd))
    tail_split = over_left then either assoc none_before

    -- what is read is what is written, or begins with the external identifier itself
    raw_tail : Raw ≅ (TailEnd ∣ (ExternalID · S? · BracketedEnd))
    raw_tail =
        cat₂ (cat₂ bracket then over_left then either assoc none_before) then over_right then either some_space same
        then back regroup then either same swap then regroup then either (back tail_split) same
      where
        some_space : {X : Lang} → (S? · X) ≅ ((S · X) ∣ X)
        some_space = unfold S S? in (cat (back plus_or_none) same then over_left then either same none_before)

    -- which it cannot where no name character stands
    tail_of : (w v : List ℕ) → begins D.part (w ++ v) ≡ false → Raw w → TailEnd w
    tail_of w v n c = go (raw_tail.to w c)
      where
        go : (TailEnd ∣ (ExternalID · S? · BracketedEnd)) w → TailEnd w
        go (inl t) = t
        go (inr l) = absurd (true≢false (sym (named (w ++ v) (subst (λ (q : List ℕ). T (one_of "SP" (kind q))) (sym (cat_before l v)) (external_id_reads.leads l.left (l.right ++ v) l.first (record { it = tt })))) ∙ n))

    -- what may follow a name
    abbrev tail_after : Class
    tail_after k = space k || before_end k

    tail_leads : Leads TailEnd F tail_after
    tail_leads u v c t = go (tail_split.to u c)
      where
        x_leads : (x y : List ℕ) → Bracketed x → T (ending (kind y)) → T (before_end (kind (x ++ y)))
        x_leads x y (inl l) h = sub_at (first_of "[") before_end (by_signs tt) (x ++ y)
            (subst (λ (q : List ℕ). T (first_of "[" (kind q))) (sym (cat_before l y)) ((wd "[" unexpected tt).leads l.left (l.right ++ y) l.first (record { it = tt })))
        x_leads x y (inr o) h = sub_at ending before_end (by_signs tt) (x ++ y) (subst (λ (q : List ℕ). T (ending (kind (q ++ y)))) (sym o) h)

        z : (x : List ℕ) → BracketedEnd x → T (before_end (kind (x ++ v)))
        z x l = subst (λ (q : List ℕ). T (before_end (kind q))) (sym (cat_before l v)) (x_leads l.left (l.right ++ v) l.first (reads_end.leads l.right v l.second t))

        go : ((S · ExternalID · S? · BracketedEnd) ∣ (S? · BracketedEnd)) u → T (tail_after (kind (u ++ v)))
        go (inl l) =
            let i : (ExternalID · S? · BracketedEnd) l.right = l.second in
            sub_at space tail_after (by_signs tt) (u ++ v)
            (subst (λ (q : List ℕ). T (space (kind q))) (sym (cat_before l v))
            ((need (one_of "SP") (by_signs tt)).leads l.left (l.right ++ v) l.first
            (record { it = subst (λ (q : List ℕ). T (one_of "SP" (kind q))) (sym (cat_before i v)) (external_id_reads.leads i.left (i.right ++ v) i.first (record { it = tt })) })))
        go (inr l) =
            subst (λ (q : List ℕ). T (tail_after (kind q))) (sym (cat_before l v))
            ((skip before_end (by_signs tt)).leads l.left (l.right ++ v) l.first (record { it = z l.right l.second }))

    tail_sound : (w : List ℕ) (k : ℕ) → begins D.part w ≡ false → Text w → tail_reader w ≡ ok k → Took TailEnd k w
    tail_sound w k n tw e =
        let t : Took Raw k w = raw_reads.sound w k tw e in
        record { taken = t.taken; rest = t.rest; split = t.split; size = t.size; holds = tail_of t.taken t.rest (ap (begins D.part) (sym t.split) ∙ n) t.holds; left = t.left }

    pub text_reads : Reads (doctype_before D too_deep ender) (S? · Name D · TailEnd) F any
    unfolding doctype_before
    text_reads = record {
      sound = sound_seq skip_s _ S? (Name D · TailEnd) (skip not_space sub_refl).sound
          (sound_after (λ w. begins D.part w ≡ false) (name D) tail_reader (Name D) TailEnd (name_reads D A).sound (munch D) tail_sound);
      complete = complete_seq skip_s _ S? (Name D · TailEnd) (Next start_first) F (skip start_first (by_signs tt)).complete
          (complete_seq (name D) tail_reader (Name D) TailEnd (Next ends_name) F (name_reads D A).complete (λ u v c t. raw_reads.complete u v (raw_tail.from u (inl c)) t) meet)
          (λ u v c t. record { it = subst (λ (q : List ℕ). T (start_first (kind q))) (sym (cat_before c v)) ((name_reads D A).leads c.left (c.right ++ v) c.first (meet c.right v c.second t)) });
      leads = λ u v c t. tt;
    }
      where
        meet : (u v : List ℕ) → TailEnd u → F v → Next ends_name (u ++ v)
        meet u v c t = record { it = sub_at tail_after ends_name (by_signs tt) (u ++ v) (tail_leads u v c t) }

  -- before the text's end
  doctype_reads : Reads (check_doctype D) (S? · Name D · Tail) (Next stop) any
  unfolding check_doctype
  doctype_reads = as_lang (cat₂ (cat₂ (cat₂ (cat₂ none_after)))) (text_reads (weaken sub_refl (by_signs tt) (at_end_reads trailing)))

  doctype_ends : Ends (check_doctype D)
  unfolding check_doctype doctype_before
  doctype_ends = ends_seq _ _ (ends_seq _ _ (ends_seq _ _ (ends_seq _ _ (ends_seq _ _ (ends_at_end trailing)))))

  -- on UTF-8 the reader accepts exactly the texts that the grammar derives
  pub agrees : Whole (check_doctype D) (S? · Name D · Tail)
  agrees = whole doctype_reads doctype_ends

  -- before a '>'
  pub closed_reads : Reads (read_doctype_text D) ((S? · Name D · Tail) · lit ">") (Next any) any
  unfolding read_doctype_text
  closed_reads =
      as_lang (back (assoc then cat₂ (assoc then cat₂ (assoc then cat₂ assoc))))
      (text_reads (weaken sub_refl (by_signs tt) (wd ">" trailing tt)))

-- Attribute-list declarations. Assumes nothing.
use mathlib.Core.Bool.{Bool, true, false, ◌&&◌}
use mathlib.Core.List.{List, [], ◌∷◌, ◌++◌, append_assoc}
use mathlib.Core.Path.{◌≡◌, refl, sym, ◌∙◌, ap}
use Prim.Native.Nat.{ℕ, suc, ◌+◌, ◌≤◌, ◌<◌}
use Prim.Native.String.{String}
use native.Mathlib.Omega.{arith}
use borrow.Author.Tests.{eqb-false}
use lib.Dec.{T, ltb, eqb}
use lib.ListN.{length, drop, length-append, drop_of_length-le}
use lib.Seq.{drop-drop}
use Rattle.spec.specs.Grammar.Characters.{S, S?, space}
use Rattle.spec.specs.Grammar.Declarations.{listed, AttType, DefaultDecl, AttDef, attlist_body}
use Rattle.spec.specs.Grammar.Languages.{Lang, lit, ascii, ◌·◌, ◌∣◌, inl, inr, Star, Opt, any, one_of}
use Rattle.spec.specs.Grammar.Literals.{AttValue}
use Rattle.spec.specs.Grammar.Names.{Dialect, Name, Nmtoken, AsciiNames}
use Rattle.spec.specs.Reading.Dtd.{skip_s, require_s, parse_quoted, check_att_value, nmtoken, after, bar_list, tokenized, word_among, parse_att_type, parse_default_decl, parse_att_def, parse_attlist_decl}
use Rattle.spec.specs.Reading.Readers.{ok, Reader, ◌>>◌, nothing, refuse, starts, on, word, run, while, required}
use Rattle.spec.specs.Reading.Refusals.{no_space, unexpected}
use Rattle.spec.specs.Reading.Wellformed.{name}
use Rattle.spec.proofs.Agreement.Algebra.{same, back, ◌then◌, cat, cat₂, assoc, starred, rotate, no_other, either, sink}
use Rattle.spec.proofs.Agreement.Choices.{on_word, empty_reads, refuse_reads}
use Rattle.spec.proofs.Agreement.Loops.{loop, loop_by}
use Rattle.spec.proofs.Agreement.Reads.{Reads, Next, Leads, seq, seq_by, alt, weaken, as_lang, ◌≅◌}
use Rattle.spec.proofs.Agreement.Runs.{skip, need, spaced, blank_run}
use Rattle.spec.proofs.Agreement.Signs.{kind, Class, by_signs, sub_any, sub_refl, sub_either, ◌∪◌}
use Rattle.spec.proofs.Agreement.Whole.{stop, Whole, whole, Ends, ends_seq, blank_first, blank_end}
use Rattle.spec.proofs.Agreement.Words.{wd, first_of, plain, starts_self, starts_clash, clash, starts_lit}
use Rattle.spec.proofs.Base.Loops.{Somes, while_exit}
use Rattle.spec.proofs.Base.Results.{ok_inj, unless_refused, then_ok}
use Rattle.spec.proofs.Base.Somes.{some_then}
use Rattle.spec.proofs.Base.Tests.{true→T, leb_yes, leb_no, leb_false, and_left, and_right}
use Rattle.spec.proofs.Characters.Text.{cat_size}
use Rattle.spec.proofs.Dtd.Literals.{quote_first}
use Rattle.spec.proofs.Dtd.Values.{att_value_reads}
use Rattle.spec.proofs.Wellformed.Names.{start_first, part_first, name_reads, nmtoken_reads}

-- a table of words, tried in order: no word begins a later word that is followed by a sign of p, nor what else there is
abbrev Words : List String → Lang → Lang
Words [] M = M
Words (s ∷ ss) M = lit s ∣ Words ss M

abbrev apart_from : Class → String → List String → Bool
apart_from p s [] = true
apart_from p s (t ∷ ts) = clash (ascii s) (ascii t) p && apart_from p s ts

abbrev apart : Class → Class → List String → Bool
apart p g [] = true
apart p g (s ∷ ss) = plain (ascii s) && clash (ascii s) [] g && apart_from p s ss && apart p g ss

abbrev firsts : List String → Class → Class
firsts [] g = g
firsts (s ∷ ss) g = first_of s ∪ firsts ss g

never : (p g : Class) (s : String) (ss : List String) (M : Lang) → clash (ascii s) [] g ≡ true → apart_from p s ss ≡ true → Leads M (Next p) g → (u v : List ℕ) → Words ss M u → Next p v → starts (ascii s) (u ++ v) ≡ false
never p g s [] M c a ll u v m t = starts_clash (ascii s) [] g (u ++ v) (true→T (clash (ascii s) [] g) c) (ll u v m t)
never p g s (w ∷ ws) M c a ll u v (inl l) t =
    ap (λ (x : List ℕ). starts (ascii s) (x ++ v)) l ∙ starts_clash (ascii s) (ascii w) p v (true→T (clash (ascii s) (ascii w) p) (and_left (clash (ascii s) (ascii w) p) (apart_from p s ws) a)) t.it
never p g s (w ∷ ws) M c a ll u v (inr m) t = never p g s ws M c (and_right (clash (ascii s) (ascii w) p) (apart_from p s ws) a) ll u v m t

words_reads : (D : Dialect) (p g : Class) (ss : List String) {q : Reader} {M : Lang} → apart p g ss ≡ true → Reads q M (Next p) g → Reads (word_among ss q) (Words ss M) (Next p) (firsts ss g)
unfolding word_among on
words_reads D p g [] h b = b
words_reads D p g (s ∷ ss) {M = M} h b =
    let e₁ : (plain (ascii s) && clash (ascii s) [] g && apart_from p s ss) ≡ true = and_left (plain (ascii s) && clash (ascii s) [] g && apart_from p s ss) (apart p g ss) h in
    let e₂ : (plain (ascii s) && clash (ascii s) [] g) ≡ true = and_left (plain (ascii s) && clash (ascii s) [] g) (apart_from p s ss) e₁ in
    alt (starts (ascii s)) (λ u v l t. ap (λ (x : List ℕ). starts (ascii s) (x ++ v)) l ∙ starts_self (ascii s) v)
    (λ u v m t. never p g s ss M (and_right (plain (ascii s)) (clash (ascii s) [] g) e₂) (and_right (plain (ascii s) && clash (ascii s) [] g) (apart_from p s ss) e₁) b.leads u v m t)
    (weaken sub_any sub_refl (wd s unexpected (true→T (plain (ascii s)) (and_left (plain (ascii s)) (clash (ascii s) [] g) e₂))))
    (words_reads D p g ss (and_right (plain (ascii s) && clash (ascii s) [] g && apart_from p s ss) (apart p g ss) h) b)

module _ (D : Dialect) (A : AsciiNames D) where
  abbrev Barred : Lang → Lang
  Barred L = lit "|" · S? · L · S?

  barred : {L M C K : Lang} → (L · M · C · K) ≅ ((L · M · C) · K)
  barred = back (assoc then cat₂ assoc)

  bar_reads : {r : Reader} {L : Lang} → Reads r L (Next (space ∪ one_of "|)")) part_first → Reads (bar_list r) (listed L) (Next any) (first_of "(")
  unfolding bar_list listed after
  bar_reads {r} {L} a =
      as_lang (cat₂ (cat₂ (cat₂ (back assoc then cat (cat₂ (starred barred) then rotate) same then assoc))))
      (seq (wd "(" unexpected tt) sub_any (seq (skip part_first (by_signs tt)) sub_refl (seq a (by_signs tt) (seq (skip (one_of "|)") (by_signs tt)) (by_signs tt)
      (seq (loop (first_of ")") (starts (ascii "|")) some (λ u v l t. starts_lit "|" v l) (λ v t. starts_clash (ascii "|") [] (first_of ")") v tt t) (by_signs tt) item) (by_signs tt) (wd ")" unexpected tt))))))
    where
      item : Reads (after "|" r) (Barred L) (Next (one_of "|)")) (first_of "|")
      item = seq (wd "|" unexpected tt) sub_any (seq (skip part_first (by_signs tt)) sub_refl (seq a (by_signs tt) (skip (one_of "|)") (by_signs tt))))

      some : (u : List ℕ) → Barred L u → 0 < length u
      some u l =
          let x : length u ≡ length l.left + length l.right = cat_size l in
          let y : length l.left ≡ 1 = ap length l.first in
          omega arith

  -- the Rust's order of the words, and W3C's
  abbrev Rest : Lang
  Rest = listed (Nmtoken D)

  in_order : ((lit "NOTATION" · S · listed (Name D)) ∣ Words (tokenized) Rest) ≅ AttType D
  unfolding AttType
  in_order = lower (either same reversed then lower (lower (lower (lower (lower reversed)))))
    where
      -- the first alternative goes down past the second
      lower : {L M N K : Lang} → (L ∣ N) ≅ K → (L ∣ M ∣ N) ≅ (M ∣ K)
      lower i = sink then either same i

      reversed : {L M N K : Lang} → (L ∣ M ∣ N ∣ K) ≅ (N ∣ M ∣ L ∣ K)
      reversed = sink then either same sink then sink

  rest_reads : Reads (on "(" (bar_list (nmtoken D)) (refuse unexpected)) Rest (Next space) (first_of "(")
  unfolding on listed
  rest_reads =
      weaken sub_refl (sub_either sub_refl sub_refl)
      (as_lang no_other (alt (starts (ascii "(")) (λ u v l t. starts_lit "(" v l) (λ u v z t. absurd z) (weaken sub_any sub_refl (bar_reads (weaken (by_signs tt) sub_refl (nmtoken_reads D A)))) (refuse_reads unexpected (first_of "("))))

  type_reads : Reads (parse_att_type D) (AttType D) (Next space) (one_of "CIENN(")
  unfolding parse_att_type on
  type_reads =
      as_lang in_order
      (weaken sub_refl (by_signs tt)
      (alt (starts (ascii "NOTATION")) (λ u v l t. starts_lit "NOTATION" v l) (λ u v m t. never space (first_of "(") "NOTATION" (tokenized) Rest refl refl rest_reads.leads u v m t)
      (weaken sub_any sub_refl (seq (wd "NOTATION" unexpected tt) sub_any (seq (need (first_of "(") (by_signs tt)) sub_refl (bar_reads (weaken (by_signs tt) (by_signs tt) (name_reads D A))))))
      (words_reads D space (first_of "(") (tokenized) refl rest_reads)))

  -- DefaultDecl
  abbrev Fixed : Lang
  Fixed = Opt (lit "#FIXED" · S) · AttValue

  fixed_reads : Reads (on "#FIXED" (word "#FIXED" unexpected >> require_s) nothing >> parse_quoted check_att_value) Fixed (Next any) (first_of "#" ∪ quote_first)
  fixed_reads = seq (on_word "#FIXED" tt (seq (wd "#FIXED" unexpected tt) sub_any (need quote_first (by_signs tt))) (empty_reads quote_first)) sub_refl att_value_reads

  not_fixed : (s : String) → T (clash (ascii s) (ascii "#FIXED") any) → T (clash (ascii s) [] quote_first) → (u v : List ℕ) → Fixed u → starts (ascii s) (u ++ v) ≡ false
  not_fixed s c d u v l = go l.left l.first l.split
    where
      go : (x : List ℕ) → Opt (lit "#FIXED" · S) x → u ≡ x ++ l.right → starts (ascii s) (u ++ v) ≡ false
      go x (inl f) e =
          ap (starts (ascii s)) (ap (λ (z : List ℕ). z ++ v) (e ∙ ap (λ (z : List ℕ). z ++ l.right) (f.split ∙ ap (λ (z : List ℕ). z ++ f.right) f.first) ∙ append_assoc (ascii "#FIXED") f.right l.right) ∙ append_assoc (ascii "#FIXED") (f.right ++ l.right) v)
          ∙ starts_clash (ascii s) (ascii "#FIXED") any ((f.right ++ l.right) ++ v) c tt
      go x (inr o) e =
          ap (λ (z : List ℕ). starts (ascii s) (z ++ v)) (e ∙ ap (λ (z : List ℕ). z ++ l.right) o)
          ∙ starts_clash (ascii s) [] quote_first (l.right ++ v) d (att_value_reads.leads l.right v l.second (record { it = tt }))

  default_reads : Reads (parse_default_decl) (DefaultDecl) (Next any) (first_of "#" ∪ quote_first)
  unfolding parse_default_decl DefaultDecl on
  default_reads =
      weaken sub_refl (by_signs tt)
      (alt (starts (ascii "#REQUIRED")) (λ u v l t. ap (λ (x : List ℕ). starts (ascii "#REQUIRED") (x ++ v)) l ∙ starts_self (ascii "#REQUIRED") v) other (wd "#REQUIRED" unexpected tt)
      (alt (starts (ascii "#IMPLIED")) (λ u v l t. ap (λ (x : List ℕ). starts (ascii "#IMPLIED") (x ++ v)) l ∙ starts_self (ascii "#IMPLIED") v) (λ u v l t. not_fixed "#IMPLIED" tt tt u v l) (wd "#IMPLIED" unexpected tt) fixed_reads))
    where
      other : (u v : List ℕ) → (lit "#IMPLIED" ∣ Fixed) u → Next any v → starts (ascii "#REQUIRED") (u ++ v) ≡ false
      other u v (inl l) t = ap (λ (x : List ℕ). starts (ascii "#REQUIRED") (x ++ v)) l ∙ starts_clash (ascii "#REQUIRED") (ascii "#IMPLIED") any v tt tt
      other u v (inr l) t = not_fixed "#REQUIRED" tt tt u v l

  named_def : Reads (name D >> require_s >> parse_att_type D >> require_s >> parse_default_decl) (Name D · S · AttType D · S · DefaultDecl) (Next any) start_first
  named_def =
      seq (weaken (by_signs tt) sub_refl (name_reads D A)) sub_refl
      (seq (need (one_of "CIENN(") (by_signs tt)) sub_refl (seq type_reads sub_refl (seq (need (first_of "#" ∪ quote_first) (by_signs tt)) sub_refl default_reads)))

  def_reads : Reads (parse_att_def D) (AttDef D) (Next any) space
  unfolding parse_att_def AttDef
  def_reads = seq (need start_first (by_signs tt)) sub_refl named_def

  -- definitions until only white space is left
  abbrev more_than_space : List ℕ → Bool
  more_than_space w = ltb (run space w) (length w)

  defs_reads : Reads (while more_than_space (parse_att_def D)) (Star (AttDef D)) S? (space ∪ space ∪ stop)
  unfolding AttDef
  defs_reads = loop_by (space ∪ stop) more_than_space (λ v s. blank_first v s) some yes none sub_any def_reads
    where
      length_spaced : (u : List ℕ) (l : (S · Name D · S · AttType D · S · DefaultDecl) u) → length u ≡ length l.left + length l.right
      length_spaced u l = cat_size l

      right_some : (x : List ℕ) → (Name D · S · AttType D · S · DefaultDecl) x → 0 < length x
      right_some [] c = absurd (unfold kind in (named_def.leads [] [] c (record { it = tt })))
      right_some (b ∷ x) c = omega arith

      some : (u : List ℕ) → (S · Name D · S · AttType D · S · DefaultDecl) u → 0 < length u
      some u l = omega (arith, length_spaced u l, right_some l.right l.second)

      yes : (u v : List ℕ) → (S · Name D · S · AttType D · S · DefaultDecl) u → Next any v → more_than_space (u ++ v) ≡ true
      yes u v l t =
          let (r, d, n) = spaced start_first (by_signs tt) named_def.leads u v l t in
          rw r (leb_yes (suc (length l.left)) (length (u ++ v)) (omega (arith, length-append u v, length_spaced u l, right_some l.right l.second)))

      none : (v : List ℕ) → S? v → more_than_space v ≡ false
      none v s = rw (blank_run v s) (leb_no (suc (length v)) (length v) (omega arith))

  some_def : Somes (parse_att_def D)
  unfolding parse_att_def require_s required skip_s
  some_def = some_then require_s _ (record {
    some = λ b w j e.
        let n : ℕ = run space (b ∷ w) in
        let (f, g) = unless_refused no_space 0 (eqb n 0) (ok n) j e in
        let z : n ≡ 0 → ⊥ = eqb-false n 0 f in
        let k : n ≡ j = ok_inj n j g in
        omega arith;
  })

  list_ends : Ends (while more_than_space (parse_att_def D) >> skip_s)
  unfolding while skip_s
  list_ends w n e =
      let (k, j, f, g, l) = then_ok (while more_than_space (parse_att_def D)) skip_s w n e in
      let h : length (drop k w) ≤ run space (drop k w) =
      omega (arith, leb_false (suc (run space (drop k w))) (length (drop k w)) (while_exit more_than_space (parse_att_def D) (unfold run in refl) some_def (length w) w k (omega arith) f)) in
      ap (λ (q : ℕ). drop q w) (sym l) ∙ sym (drop-drop j k w) ∙ ap (λ (q : ℕ). drop q (drop k w)) (sym (ok_inj (run space (drop k w)) j g)) ∙ drop_of_length-le (drop k w) h

  pub attlist_whole : Whole (parse_attlist_decl D) (attlist_body D)
  unfolding parse_attlist_decl attlist_body
  attlist_whole =
      whole
      (seq (need start_first (by_signs tt)) sub_refl
      (seq (weaken (by_signs tt) sub_refl (name_reads D A)) sub_refl (seq_by defs_reads blank_end (skip stop (by_signs tt)))))
      (ends_seq _ _ (ends_seq _ _ list_ends))

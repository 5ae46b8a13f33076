-- Content models: mixed ones, and groups in groups to a height. Assumes nothing.
use mathlib.Core.Bool.{Bool, true, false, ◌&&◌, ◌||◌, not, or-true}
use mathlib.Core.List.{List, [], ◌∷◌, ◌++◌, append_assoc}
use mathlib.Core.Path.{◌≡◌, refl, ◌∙◌, ap}
use Prim.Native.Nat.{ℕ, zero, suc, ◌+◌, ◌<◌}
use Prim.Native.String.{String}
use native.Mathlib.Omega.{arith}
use lib.Dec.{T, ltb, eqb}
use lib.ListN.{length, drop}
use lib.Seq.{drop-append_seam}
use Rattle.spec.specs.Grammar.Characters.{S?, space}
use Rattle.spec.specs.Grammar.ContentModels.{Mixed, choice, sequence, occurrence, cp, Group, children, contentspec}
use Rattle.spec.specs.Grammar.Declarations.{element_body}
use Rattle.spec.specs.Grammar.Languages.{Lang, lit, ascii, ◌·◌, ◌∣◌, inl, inr, Star, Plus, Opt, any, one_of}
use Rattle.spec.specs.Grammar.Names.{Dialect, Name, AsciiNames}
use Rattle.spec.specs.Reading.Dtd.{skip_s, after, parse_mixed, connector, connected, group_of, occurs, cp_of, parse_group, parse_children, parse_contentspec, parse_element_decl}
use Rattle.spec.specs.Reading.Readers.{Reader, ◌>>◌, nothing, starts, on, word, run, while, begins}
use Rattle.spec.specs.Reading.Refusals.{unexpected, trailing, bad_connector, too_deep}
use Rattle.spec.specs.Reading.Wellformed.{name}
use Rattle.spec.proofs.Agreement.Algebra.{ε, same, back, ◌then◌, cat, cat₂, either, assoc, over_right, over_left, plus_or_none, no_other, starred, rotate, rotate_plus, swap, regroup, none_before, none_after, words}
use Rattle.spec.proofs.Agreement.Chars.{one_char, begins_ch, begins_stop}
use Rattle.spec.proofs.Agreement.Choices.{on_begun, on_lit, empty_reads, refuse_reads, on_or_refuse}
use Rattle.spec.proofs.Agreement.Loops.{loop}
use Rattle.spec.proofs.Agreement.Reads.{Reads, Next, Leads, seq, alt, weaken, as_lang, ◌≅◌}
use Rattle.spec.proofs.Agreement.Runs.{not_space, skip, need, run_complete, space_ascii, among_ascii, ascii_lead}
use Rattle.spec.proofs.Agreement.Signs.{kind, Class, Sub, sub_at, by_signs, sub_any, sub_refl, ◌∪◌}
use Rattle.spec.proofs.Agreement.Whole.{stop, at_end_reads}
use Rattle.spec.proofs.Agreement.Words.{wd, first_of, plain, starts_self, starts_clash, starts_lit, starts_lit₂}
use Rattle.spec.proofs.Base.Results.{one-add}
use Rattle.spec.proofs.Base.Tests.{T→true, and_left, and_right, not-true}
use Rattle.spec.proofs.Characters.Text.{cat_size, cat_before}
use Rattle.spec.proofs.Wellformed.Names.{start_first, name_reads}

-- the signs after a particle, after a connector's particle and its white space, and before a particle
abbrev pub after_cp : Class
after_cp k = space k || one_of "|,)" k || eqb k 129

abbrev pub joint : Class
joint = one_of "|,)"

abbrev pub cp_first : Class
cp_first k = start_first k || one_of "(" k

abbrev pub mark : ℕ → Bool
mark = one_of "?*+"

-- X S* with X a connector and a particle: what follows a particle in a group
abbrev pub Joined : String → Lang → Lang
Joined s C = lit s · S? · C · S?

joined : {L M C K : Lang} → (L · M · C · K) ≅ ((L · M · C) · K)
joined = back (assoc then cat₂ assoc)

module _ (D : Dialect) (A : AsciiNames D) where
  after_reads : (s : String) → T (plain (ascii s)) → {r : Reader} {C : Lang} → Reads r C (Next after_cp) cp_first → Reads (after s r) (Joined s C) (Next joint) (first_of s)
  unfolding after
  after_reads s h a = seq (wd s unexpected h) sub_any (seq (skip cp_first (by_signs tt)) sub_refl (seq a (by_signs tt) (skip joint (by_signs tt))))

  joined_some : (s : String) (a : ℕ) (p : List ℕ) → ascii s ≡ a ∷ p → {M : Lang} (u : List ℕ) → (lit s · M) u → 0 < length u
  joined_some s a p e u l =
      let x : length u ≡ length l.left + length l.right = cat_size l in
      let y : length l.left ≡ suc (length p) = ap length (l.first ∙ e) in
      omega arith

  -- the loop of a connector
  stop_connector : (v : List ℕ) → T (first_of ")" (kind v)) → connector v ≡ false
  unfolding connector
  stop_connector v t = rw (starts_clash (ascii "|") [] (first_of ")") v tt t, starts_clash (ascii ",") [] (first_of ")") v tt t)

  connected_reads : {r : Reader} {C : Lang} (s : String) (a : ℕ) (p : List ℕ) → ascii s ≡ a ∷ p → T (plain (ascii s)) → Sub (first_of s ∪ first_of ")") joint → ((w : List ℕ) → starts (ascii s) w ≡ true → connector w ≡ true)
      → Reads r C (Next after_cp) cp_first → Reads (connected s r) (Plus (Joined s C)) (Next (first_of ")")) (first_of s)
  unfolding connected
  connected_reads s a p is good h joins b =
      seq (after_reads s good b) h
      (loop (first_of ")") connector (λ u l. joined_some s a p is u l) (λ u v l t. joins (u ++ v) (starts_lit s v l)) stop_connector h (on_or_refuse s bad_connector (after_reads s good b)))

  bar_connected : {r : Reader} {C : Lang} → Reads r C (Next after_cp) cp_first → Reads (connected "|" r) (Plus (Joined "|" C)) (Next (first_of ")")) (first_of "|")
  unfolding connector
  bar_connected = connected_reads "|" 124 [] refl tt (by_signs tt) (λ w e. ap (λ (b : Bool). b || starts (ascii ",") w) e)

  comma_connected : {r : Reader} {C : Lang} → Reads r C (Next after_cp) cp_first → Reads (connected "," r) (Plus (Joined "," C)) (Next (first_of ")")) (first_of ",")
  unfolding connector
  comma_connected = connected_reads "," 44 [] refl tt (by_signs tt) (λ w e. ap (λ (b : Bool). starts (ascii "|") w || b) e ∙ or-true (starts (ascii "|") w))

  -- a group, as it is read
  abbrev Inner : Lang → Lang
  Inner C = C · S? · (Plus (Joined "|" C) ∣ Plus (Joined "," C) ∣ ε) · lit ")"

  inner_reads : {r : Reader} {C : Lang} → Reads r C (Next after_cp) cp_first
      → Reads (r >> skip_s >> on "|" (connected "|" r) (on "," (connected "," r) nothing) >> word ")" unexpected) (Inner C) (Next any) cp_first
  inner_reads a =
      seq a (by_signs tt)
      (seq (skip joint (by_signs tt)) (by_signs tt)
      (seq (on_begun "|" tt (λ u v l. starts_lit₂ "|" u v l) (bar_connected a) (on_begun "," tt (λ u v l. starts_lit₂ "," u v l) (comma_connected a) (empty_reads (first_of ")")))) (by_signs tt) (wd ")" unexpected tt)))

  group_read : {r : Reader} {C : Lang} → Reads r C (Next after_cp) cp_first → Reads (group_of r) (lit "(" · S? · Inner C) (Next any) (first_of "(")
  unfolding group_of
  group_read a = seq (wd "(" unexpected tt) sub_any (seq (skip cp_first (by_signs tt)) sub_refl (inner_reads a))

  -- and as it is written
  group_written : {C : Lang} → (lit "(" · S? · Inner C) ≅ (choice C ∣ sequence C)
  unfolding choice sequence
  group_written {C} = cat₂ (cat₂ (cat₂ tails)) then cat₂ (cat₂ over_right) then cat₂ over_right then over_right
    where
      barred : (S? · Plus (Joined "|" C)) ≅ (Plus (S? · lit "|" · S? · C) · S?)
      barred = cat₂ (cat joined (starred joined)) then rotate_plus

      comma : (S? · (Plus (Joined "," C) ∣ ε)) ≅ (Star (S? · lit "," · S? · C) · S?)
      comma = cat₂ (either (cat joined (starred joined)) same then plus_or_none) then rotate

      tails : (S? · (Plus (Joined "|" C) ∣ Plus (Joined "," C) ∣ ε) · lit ")") ≅ ((Plus (S? · lit "|" · S? · C) · S? · lit ")") ∣ (Star (S? · lit "," · S? · C) · S? · lit ")"))
      tails = back assoc then cat (over_right then either barred comma) same then over_left then either assoc assoc

  pub group_reads : {r : Reader} {C : Lang} → Reads r C (Next after_cp) cp_first → Reads (group_of r) (choice C ∣ sequence C) (Next any) (first_of "(")
  group_reads a = as_lang group_written (group_read a)

  -- ('?' | '*' | '+')?
  mark_ascii : (c : ℕ) → T (mark c) → c < 128
  mark_ascii = among_ascii (ascii "?*+") tt

  pub occurs_reads : Reads occurs occurrence (Next after_cp) (mark ∪ after_cp)
  unfolding occurs occurrence
  occurs_reads =
      alt (begins mark) (λ u v c t. begins_ch mark u v c) (λ u v e t. ap (λ (x : List ℕ). begins mark (x ++ v)) e ∙ stop v t.it)
      (weaken sub_any sub_refl (one_char mark unexpected mark (ascii_lead mark mark_ascii))) (empty_reads after_cp)
    where
      stop : (v : List ℕ) → T (after_cp (kind v)) → begins mark v ≡ false
      stop v t = begins_stop mark (λ k. after_cp k && ltb k 130 && not (mark k) && not (eqb k 128)) (λ z. z) small v (sub_at after_cp (λ k. after_cp k && ltb k 130 && not (mark k) && not (eqb k 128)) (by_signs tt) v t)
        where
          small : (b : ℕ) → b < 128 → T (after_cp b && ltb b 130 && not (mark b) && not (eqb b 128)) → mark b ≡ false
          small b l h = not-true (mark b) (and_right (after_cp b && ltb b 130) (not (mark b)) (and_left (after_cp b && ltb b 130 && not (mark b)) (not (eqb b 128)) (T→true (after_cp b && ltb b 130 && not (mark b) && not (eqb b 128)) h)))

  -- a particle over what a group in it may be, and groups to a height
  cp_reads : {r : Reader} {G : Lang} → ((u v : List ℕ) → G u → starts (ascii "(") (u ++ v) ≡ true) → Reads r G (Next any) (first_of "(") → Reads (cp_of D r) (cp D G) (Next after_cp) cp_first
  unfolding cp_of
  cp_reads begun a =
      weaken sub_refl (by_signs tt)
      (seq (as_lang swap (on_begun "(" tt begun (weaken {p = mark ∪ after_cp} sub_any sub_refl a) (weaken (by_signs tt) sub_refl (name_reads D A)))) sub_refl occurs_reads)

  group_begun : (h : ℕ) (u v : List ℕ) → Group D h u → starts (ascii "(") (u ++ v) ≡ true
  unfolding Group choice sequence
  group_begun zero u v z = absurd z
  group_begun (suc h) u v (inl l) = starts_lit "(" v l
  group_begun (suc h) u v (inr l) = starts_lit "(" v l

  pub groups_read : (h : ℕ) → Reads (parse_group D too_deep h) (Group D h) (Next any) (first_of "(")
  unfolding parse_group Group
  groups_read zero = refuse_reads too_deep (first_of "(")
  groups_read (suc h) = group_reads (cp_reads (group_begun h) (groups_read h))

  -- Mixed, as it is read and as it is written
  abbrev MixedTail : Lang
  MixedTail = (Joined "|" (Name D) · Star (Joined "|" (Name D)) · lit ")" · lit "*") ∣ (lit ")" · Opt (lit "*"))

  name_cp : Reads (name D) (Name D) (Next after_cp) cp_first
  name_cp = weaken (by_signs tt) (by_signs tt) (name_reads D A)

  -- the signs after a content specification
  abbrev pub after_spec : Class
  after_spec k = space k || eqb k 129

  mixed_inner : Reads (word "#PCDATA" unexpected >> skip_s >> on "|" (after "|" (name D) >> while (starts (ascii "|")) (after "|" (name D)) >> word ")" unexpected >> word "*" bad_connector) (word ")" unexpected >> on "*" (word "*" unexpected) nothing))
      (lit "#PCDATA" · S? · MixedTail) (Next after_spec) (first_of "#")
  mixed_inner =
      seq (wd "#PCDATA" unexpected tt) sub_any
      (seq (skip (one_of "|)") (by_signs tt)) (by_signs tt)
      (on_begun "|" tt (λ u v l. starts_lit₂ "|" u v l)
      (seq (after_reads "|" tt name_cp) (by_signs tt)
      (seq (loop (first_of ")") (starts (ascii "|")) (λ u l. joined_some "|" 124 [] refl u l) (λ u v l t. starts_lit "|" v l) (λ v t. starts_clash (ascii "|") [] (first_of ")") v tt t) (by_signs tt) (after_reads "|" tt name_cp))
      (by_signs tt) (seq (wd ")" unexpected tt) sub_any (weaken sub_any sub_refl (wd "*" bad_connector tt)))))
      (seq (wd ")" unexpected tt) sub_any (on_lit "*" tt (weaken sub_any sub_refl (wd "*" unexpected tt)) (empty_reads after_spec)))))

  mixed_read : Reads (parse_mixed D) (lit "(" · S? · lit "#PCDATA" · S? · MixedTail) (Next after_spec) (first_of "(")
  unfolding parse_mixed
  mixed_read = seq (wd "(" unexpected tt) sub_any (seq (skip (first_of "#") (by_signs tt)) sub_refl mixed_inner)

  mixed_written : (lit "(" · S? · lit "#PCDATA" · S? · MixedTail) ≅ Mixed D
  unfolding Mixed
  mixed_written = cat₂ (cat₂ (cat₂ tails)) then cat₂ (cat₂ over_right) then cat₂ over_right then over_right
    where
      X : Lang
      X = lit "|" · S? · Name D

      named : (S? · Joined "|" (Name D) · Star (Joined "|" (Name D)) · lit ")" · lit "*") ≅ (Plus (S? · X) · S? · lit ")*")
      named = cat₂ (back assoc) then back assoc then cat (cat₂ (cat joined (starred joined)) then rotate_plus) (words ")" "*" ")*" refl) then assoc

      bare : (S? · lit ")" · Opt (lit "*")) ≅ ((S? · lit ")*") ∣ (S? · lit ")"))
      bare = cat₂ (over_right then either (words ")" "*" ")*" refl) none_after) then over_right

      starred_tail : ((Plus (S? · X) · S? · lit ")*") ∣ (S? · lit ")*")) ≅ (Star (S? · X) · S? · lit ")*")
      starred_tail = either same (back none_before) then back over_left then cat plus_or_none same

      tails : (S? · MixedTail) ≅ ((Star (S? · X) · S? · lit ")*") ∣ (S? · lit ")"))
      tails = over_right then either named bare then regroup then either starred_tail same

  -- what stands after "(" and white space
  abbrev look : List ℕ → Bool
  look w = starts (ascii "(") w && starts (ascii "#PCDATA") (drop (1 + run space (drop 1 w)) w)

  looks : (M F : Lang) (g : Class) → Sub g not_space → Leads M F g → (u v : List ℕ) → (l : (lit "(" · S? · M) u) → F v → look (u ++ v) ≡ starts (ascii "#PCDATA") (l.second.right ++ v)
  unfolding S?
  looks M F g h ll u v l t =
      let x : List ℕ = l.second.left in
      let y : List ℕ = l.second.right in
      let e : u ++ v ≡ 40 ∷ (x ++ (y ++ v)) =
      ap (λ (z : List ℕ). z ++ v) (l.split ∙ (λ i. l.first i ++ l.second.split i)) ∙ ap (λ (z : List ℕ). 40 ∷ z) (append_assoc x y v) in
      let r : run space (x ++ (y ++ v)) ≡ length x = run_complete space space_ascii g h (y ++ v) l.second.first (ll y v l.second.second t) in
      let d : drop (1 + length x) (40 ∷ (x ++ (y ++ v))) ≡ y ++ v = ap (λ (n : ℕ). drop n (40 ∷ (x ++ (y ++ v)))) (one-add (length x)) ∙ drop-append_seam x (y ++ v) in
      rw (e, starts_self (ascii "(") (x ++ (y ++ v)), r, d)

  -- contentspec
  inner_first : {r : Reader} {C : Lang} → Reads r C (Next after_cp) cp_first → Leads (Inner C · occurrence) (Next after_spec) cp_first
  inner_first a = (seq (inner_reads a) sub_any (weaken (by_signs tt) sub_refl occurs_reads)).leads

  begun_looks : (h : ℕ) (u v : List ℕ) → (Group D h · occurrence) u → Next after_spec v → look (u ++ v) ≡ false
  unfolding Group
  begun_looks zero u v l t = absurd l.first
  begun_looks (suc h) u v l t =
      let C : Lang = cp D (Group D h) in
      let first : Leads (Inner C · occurrence) (Next after_spec) cp_first = inner_first (cp_reads (group_begun h) (groups_read h)) in
      let m : (lit "(" · S? · Inner C · occurrence) u = (cat (back group_written) same then assoc then cat₂ assoc).to u l in
      looks (Inner C · occurrence) (Next after_spec) cp_first (by_signs tt) first u v m t
      ∙ starts_clash (ascii "#PCDATA") [] cp_first (m.second.right ++ v) tt (first m.second.right v m.second.second t)

  children_reads : Reads (parse_children D too_deep) (children D) (Next after_spec) (first_of "(")
  unfolding parse_children children
  children_reads = seq (groups_read D.groups) sub_any (weaken (by_signs tt) sub_refl occurs_reads)

  children_begun : (u v : List ℕ) → children D u → starts (ascii "(") (u ++ v) ≡ true
  unfolding children
  children_begun u v l = ap (starts (ascii "(")) (cat_before l v) ∙ group_begun D.groups l.left (l.right ++ v) l.first

  pub contents_reads : Reads (parse_contentspec D too_deep) (contentspec D) (Next after_spec) (one_of "EA(")
  unfolding parse_contentspec contentspec children
  contents_reads =
      weaken sub_refl (by_signs tt)
      (on_lit "EMPTY" tt (weaken sub_any sub_refl (wd "EMPTY" unexpected tt))
      (on_lit "ANY" tt (weaken sub_any sub_refl (wd "ANY" unexpected tt))
      (as_lang (either mixed_written same)
      (alt look mixed_looks (begun_looks D.groups) mixed_read
      (as_lang no_other (on_begun "(" tt children_begun children_reads (refuse_reads unexpected (λ k. false))))))))
    where
      mixed_looks : (u v : List ℕ) → (lit "(" · S? · lit "#PCDATA" · S? · MixedTail) u → Next after_spec v → look (u ++ v) ≡ true
      mixed_looks u v l t =
          looks (lit "#PCDATA" · S? · MixedTail) (Next after_spec) (first_of "#") (by_signs tt) mixed_inner.leads u v l t ∙ starts_lit "#PCDATA" v l.second.second

  -- elementdecl's body
  pub element_reads : Reads (parse_element_decl D too_deep) (element_body D) (Next stop) space
  unfolding parse_element_decl element_body
  element_reads =
      as_lang (cat₂ (cat₂ (cat₂ (cat₂ none_after))))
      (seq (need start_first (by_signs tt)) sub_refl
      (seq (weaken (by_signs tt) sub_refl (name_reads D A)) sub_refl
      (seq (need (one_of "EA(") (by_signs tt)) sub_refl (seq contents_reads sub_refl (seq (skip stop (by_signs tt)) sub_refl (at_end_reads trailing))))))

-- Parts of a text that a scan passes: what it finds after them is what it would find there alone. Assumes nothing.
use mathlib.Core.Bool.{Bool, true, false, ◌&&◌, ◌||◌, not, true≢false, or-false}
use mathlib.Core.List.{List, [], ◌∷◌, ◌++◌, append_assoc}
use mathlib.Core.Path.{◌≡◌, refl, sym, ◌∙◌, ap, subst}
use Prim.Native.Nat.{ℕ, zero, suc, ◌+◌, ◌-◌, ◌≤◌, ◌<◌}
use Prim.Native.String.{String}
use native.Mathlib.Omega.{arith}
use lib.Dec.{T, eqb}
use lib.ListN.{length, take, drop, length-append}
use lib.Seq.{take_at, drop-append_seam}
use Rattle.spec.specs.Basics.{pick}
use Rattle.spec.specs.Grammar.Declarations.{PI, Comment, Delimited, Unread, declared}
use Rattle.spec.specs.Grammar.Division.{Kind, element, attlist, entity, notation, instruction, comment, reference, entry_of, Front}
use Rattle.spec.specs.Grammar.Languages.{Lang, lit, ascii, Ch, ◌·◌, ◌∣◌, inl, inr, Star, end, more, one_of, none_of}
use Rattle.spec.specs.Grammar.Literals.{SystemLiteral}
use Rattle.spec.specs.Grammar.Names.{Dialect, PEReference, AsciiNames}
use Rattle.spec.specs.Premise.{quiet, bare, premised}
use Rattle.spec.specs.Reading.Dtd.{has_pe_reference}
use Rattle.spec.specs.Reading.Readers.{starts, contains, before}
use Rattle.spec.specs.Reading.Places.{Place, at, nowhere, later, outside}
use Rattle.spec.specs.Reading.Scan.{subset_open, subset_end}
use Rattle.spec.proofs.Agreement.Holds.{starts_cut}
use Rattle.spec.proofs.Agreement.Tame.{Tame, Within, plain_bytes, within_cat, within_either, within_lit, within_none, within_s, within_s?, within_name, within_element, every_plain}
use Rattle.spec.proofs.Agreement.Words.{contains_at}
use Rattle.spec.proofs.Base.Outside.{later_suc, later_later, later_zero}
use Rattle.spec.proofs.Base.Tests.{T→true, eqb_yes, eqb_no, and_right, all_among, none_sub, not-true, and_left, both_left, both_right}
use Rattle.spec.proofs.Characters.Bytes.{all_high, high_head, high_tail, avoids, class_avoids, avoids_head, avoids_tail, Sized, low, high, sized}
use Rattle.spec.proofs.Characters.Text.{between}
use Rattle.spec.proofs.Division.Parts.{Filling, last, next, Premise}
use Rattle.spec.proofs.Division.Quoting.{paired, quoting}
use Rattle.spec.proofs.Dtd.Bodies.{del, delimited_del, refers_complete}
use Rattle.spec.proofs.Dtd.Comments.{twice, first_close, Shaped, shape}
use Rattle.spec.proofs.Dtd.Tame.{within_external, within_attlist, within_entity, within_notation}

abbrev pub Clear : (List ℕ → Place) → List ℕ → Type 0
Clear f x = (r : List ℕ) → f (x ++ r) ≡ later (length x) (f r)

pub clear_append : (f : List ℕ → Place) (x y : List ℕ) → Clear f x → Clear f y → Clear f (x ++ y)
clear_append f x y a b r =
    ap f (append_assoc x y r) ∙ a (y ++ r) ∙ ap (later (length x)) (b r) ∙ later_later (length x) (length y) (f r)
    ∙ ap (λ (n : ℕ). later n (f r)) (sym (length-append x y))

-- a scan whose state is the open quote, or 0: what it passes inside quotes, and outside them
pub record Quoting (f : ℕ → List ℕ → Place) : Type 0 where
  pub inside : (q b : ℕ) (w : List ℕ) → f (suc q) (b ∷ w) ≡ later 1 (f (pick (eqb b (suc q)) 0 (suc q)) w)
  pub double : (w : List ℕ) → f 0 (34 ∷ w) ≡ later 1 (f 34 w)
  pub single : (w : List ℕ) → f 0 (39 ∷ w) ≡ later 1 (f 39 w)
  pub plain : (b : ℕ) (w : List ℕ) → one_of "\"'<>[]" b ≡ false → f 0 (b ∷ w) ≡ later 1 (f 0 w)

module _ {f : ℕ → List ℕ → Place} (P : Quoting f) where
  clear_cons : (b : ℕ) (x : List ℕ) → one_of "\"'<>[]" b ≡ false → Clear (f 0) x → Clear (f 0) (b ∷ x)
  clear_cons b x t c r = P.plain b (x ++ r) t ∙ ap (later 1) (c r) ∙ later_suc (length x) (f 0 r)

  clear_none : Clear (f 0) []
  clear_none r = later_zero (f 0 r)

  clear_high : (x : List ℕ) → T (all_high x) → Clear (f 0) x
  clear_high [] h = clear_none
  clear_high (b ∷ x) h =
      let g : 128 ≤ b = high_head b x h in
      clear_cons b x
      (rw (eqb_no b 34 (λ e. omega arith), eqb_no b 39 (λ e. omega arith), eqb_no b 60 (λ e. omega arith), eqb_no b 62 (λ e. omega arith), eqb_no b 91 (λ e. omega arith), eqb_no b 93 (λ e. omega arith)))
      (clear_high x (high_tail b x h))

  clear_ch : (x : List ℕ) → Ch (none_of "\"'<>[]") x → Clear (f 0) x
  clear_ch x c = go (sized c)
    where
      go : Sized c → Clear (f 0) x
      go (low t is) = subst (Clear (f 0)) (sym is) (clear_cons c.char [] (not-true (one_of "\"'<>[]" c.char) (T→true (none_of "\"'<>[]" c.char) c.in_class)) clear_none)
      go (high t h) = clear_high x h

  pass_inside : (q : ℕ) (x r : List ℕ) → avoids (suc q) x ≡ true → f (suc q) (x ++ r) ≡ later (length x) (f (suc q) r)
  pass_inside q [] r h = later_zero (f (suc q) r)
  pass_inside q (b ∷ x) r h =
      P.inside q b (x ++ r) ∙ (rw (avoids_head (suc q) b x h, pass_inside q x r (avoids_tail (suc q) b x h)) (later_suc (length x) (f (suc q) r)))

  -- a quote, its inside d and the quote again
  clear_quoted : (q : ℕ) (p : ℕ → Bool) (x d : List ℕ) → ((w : List ℕ) → f 0 (suc q ∷ w) ≡ later 1 (f (suc q) w)) → suc q < 128 → p (suc q) ≡ false → Star (Ch p) d → x ≡ suc q ∷ (d ++ (suc q ∷ [])) → Clear (f 0) x
  clear_quoted q p x d opens small n s e r =
      ap (λ (z : List ℕ). f 0 (z ++ r)) e ∙ ap (λ (z : List ℕ). f 0 (suc q ∷ z)) (append_assoc d (suc q ∷ []) r) ∙ opens (d ++ (suc q ∷ r))
      ∙ (rw (pass_inside q d (suc q ∷ r) (class_avoids p (suc q) small n s), P.inside q (suc q) r, eqb_yes (suc q) (suc q) refl) (ap (later 1) (later_later (length d) 1 (f 0 r)) ∙ later_suc (length d + 1) (f 0 r)))
      ∙ ap (λ (n : ℕ). later (suc n) (f 0 r)) (sym (length-append d (suc q ∷ []))) ∙ ap (λ (z : List ℕ). later (length z) (f 0 r)) (sym e)

  clear_literal : (x : List ℕ) → SystemLiteral x → Clear (f 0) x
  unfolding SystemLiteral
  clear_literal x (inl l) = clear_quoted 33 (none_of "\"") x l.second.left P.double (omega arith) refl l.second.first (between "\"" "\"" l)
  clear_literal x (inr l) = clear_quoted 38 (none_of "'") x l.second.left P.single (omega arith) refl l.second.first (between "'" "'" l)

  pub clear_tame : {x : List ℕ} → Tame x → Clear (f 0) x
  clear_tame (end e) = subst (Clear (f 0)) (sym e) clear_none
  clear_tame (more u v e i s) = subst (Clear (f 0)) (sym e) (clear_append (f 0) u v (item i) (clear_tame s))
    where
      item : (Ch (none_of "\"'<>[]") ∣ SystemLiteral) u → Clear (f 0) u
      item (inl c) = clear_ch u c
      item (inr l) = clear_literal u l

-- the search for one of some signs, none of which is a quote mark
pub outside_quoting : (s : String) → one_of s 34 ≡ false → one_of s 39 ≡ false → T (all_among (ascii s) (ascii "\"'<>[]")) → Quoting (outside (one_of s))
unfolding outside
outside_quoting s d e h = record {
  inside = λ q b w. refl;
  double = λ w. rw d;
  single = λ w. rw e;
  plain = λ b w n. rw (none_sub (ascii s) (ascii "\"'<>[]") h b n, none_sub (ascii "\"'") (ascii "\"'<>[]") tt b n);
}

pub end_quoting : Quoting (subset_end 0)
unfolding subset_end starts
end_quoting = record {
  inside = λ q b w. refl;
  double = λ w. refl;
  single = λ w. refl;
  plain = λ b w n. rw (none_sub (ascii "]") (ascii "\"'<>[]") tt b n, none_sub (ascii "\"'") (ascii "\"'<>[]") tt b n, not_less b n);
}
  where
    not_less : (b : ℕ) → one_of "\"'<>[]" b ≡ false → eqb b 60 ≡ false
    not_less b n = sym (or-false (eqb b 60)) ∙ none_sub (ascii "<") (ascii "\"'<>[]") tt b n

-- a comment
end_skip : (q : ℕ) (x r : List ℕ) → subset_end (length x) q (x ++ r) ≡ later (length x) (subset_end 0 q r)
unfolding subset_end
end_skip q [] r = later_zero (subset_end 0 q r)
end_skip q (b ∷ x) r = ap (later 1) (end_skip q x r) ∙ later_suc (length x) (subset_end 0 q r)

pub clear_comment : (x : List ℕ) → Comment x → Clear (subset_end 0 0) x
unfolding subset_end starts
clear_comment x c r =
    let s : Shaped x = shape x c in
    ap (λ (z : List ℕ). subset_end 0 0 (z ++ r)) s.is ∙ ap (λ (z : List ℕ). subset_end 0 0 (60 ∷ 33 ∷ 45 ∷ 45 ∷ z)) (append_assoc s.text (45 ∷ 45 ∷ 62 ∷ []) r)
    ∙ passed s.text s.single ∙ ap (λ (z : List ℕ). later (length z) (subset_end 0 0 r)) (sym s.is)
  where
    passed : (t : List ℕ) → twice t ≡ false → subset_end 0 0 (60 ∷ 33 ∷ 45 ∷ 45 ∷ (t ++ (45 ∷ 45 ∷ 62 ∷ r))) ≡ later (length (60 ∷ 33 ∷ 45 ∷ 45 ∷ (t ++ (45 ∷ 45 ∷ 62 ∷ [])))) (subset_end 0 0 r)
    passed t n =
        let x : List ℕ = 33 ∷ 45 ∷ 45 ∷ (t ++ (45 ∷ 45 ∷ 62 ∷ [])) in
        let m : length t + 6 ≡ length x = omega (arith, length-append t (45 ∷ 45 ∷ 62 ∷ [])) in
        rw (contains_at 45 (45 ∷ 62 ∷ []) t r, first_close t r n)
        (ap (λ (k : ℕ). later 1 (subset_end k 0 (33 ∷ 45 ∷ 45 ∷ (t ++ (45 ∷ 45 ∷ 62 ∷ r))))) m
        ∙ ap (λ (z : List ℕ). later 1 (subset_end (length x) 0 (33 ∷ 45 ∷ 45 ∷ z))) (sym (append_assoc t (45 ∷ 45 ∷ 62 ∷ []) r))
        ∙ ap (later 1) (end_skip 0 x r) ∙ later_suc (length x) (subset_end 0 0 r))

-- what ends in '>', with its quotes in pairs and nothing outside them that the scan would stop at
clear_quiet : (q : ℕ) (y r : List ℕ) → quiet q (y ++ 62 ∷ []) ≡ true → paired q (y ++ 62 ∷ []) ≡ true → subset_end 0 q (y ++ 62 ∷ r) ≡ later (suc (length y)) (subset_end 0 0 r)
unfolding quiet paired subset_end starts
clear_quiet zero [] r h k = refl
clear_quiet (suc q) [] r h k = go (eqb 62 (suc q)) k
  where
    go : (t : Bool) → paired (pick t 0 (suc q)) [] ≡ true → later 1 (subset_end 0 (pick t 0 (suc q)) r) ≡ later 1 (subset_end 0 0 r)
    go true e = refl
    go false e = absurd (true≢false (sym e))
clear_quiet zero (b ∷ y) r h k =
    by_close (one_of "]" b) (starts (ascii "<!--") (b ∷ (y ++ 62 ∷ []))) h (starts_cut 62 (ascii "<!--") (b ∷ y) r refl ∙ sym (starts_cut 62 (ascii "<!--") (b ∷ y) [] refl))
    (λ g. clear_quiet (pick (one_of "\"'" b) b 0) y r g k)
  where
    by_close : (s t : Bool) → ((not s && not t) && quiet (pick (one_of "\"'" b) b 0) (y ++ 62 ∷ [])) ≡ true → starts (ascii "<!--") (b ∷ (y ++ 62 ∷ r)) ≡ t
        → (quiet (pick (one_of "\"'" b) b 0) (y ++ 62 ∷ []) ≡ true → subset_end 0 (pick (one_of "\"'" b) b 0) (y ++ 62 ∷ r) ≡ later (suc (length y)) (subset_end 0 0 r))
        → pick s (at 0) (pick (starts (ascii "<!--") (b ∷ (y ++ 62 ∷ r)))
        (pick (contains (ascii "-->") (drop 3 (y ++ 62 ∷ r))) (later 1 (subset_end (before (ascii "-->") (drop 3 (y ++ 62 ∷ r)) + 6) 0 (y ++ 62 ∷ r))) nowhere)
        (later 1 (subset_end 0 (pick (one_of "\"'" b) b 0) (y ++ 62 ∷ r)))) ≡ later (suc (suc (length y))) (subset_end 0 0 r)
    by_close true t e f ih = absurd (true≢false (sym e))
    by_close false true e f ih = absurd (true≢false (sym e))
    by_close false false e f ih = rw f (ap (later 1) (ih e) ∙ later_suc (suc (length y)) (subset_end 0 0 r))
clear_quiet (suc q) (b ∷ y) r h k = ap (later 1) (clear_quiet (pick (eqb b (suc q)) 0 (suc q)) y r h k) ∙ later_suc (suc (length y)) (subset_end 0 0 r)

clear_ended : (y : List ℕ) → quiet 0 (y ++ 62 ∷ []) ≡ true → paired 0 (y ++ 62 ∷ []) ≡ true → Clear (subset_end 0 0) (y ++ 62 ∷ [])
clear_ended y h k r =
    ap (subset_end 0 0) (append_assoc y (62 ∷ []) r) ∙ clear_quiet 0 y r h k
    ∙ ap (λ (n : ℕ). later n (subset_end 0 0 r)) (let e : suc (length y) ≡ length (y ++ 62 ∷ []) = omega (arith, length-append y (62 ∷ [])) in e)

-- a delimited body has its quotes in pairs
del_paired : (q : ℕ) (u : List ℕ) → del q u ≡ true → paired q (u ++ 62 ∷ []) ≡ true
unfolding del paired
del_paired zero [] h = refl
del_paired (suc q) [] h = absurd (true≢false (sym h))
del_paired zero (b ∷ u) h = del_paired (pick (one_of "\"'" b) b 0) u (and_right (not (one_of ">" b)) (del (pick (one_of "\"'" b) b 0) u) h)
del_paired (suc q) (b ∷ u) h = del_paired (pick (eqb b (suc q)) 0 (suc q)) u h

-- an instruction without quote marks has them in pairs
pub bare_quoting : (w : List ℕ) → bare w ≡ true → (paired 0 w ≡ true) × (quiet 0 w ≡ true)
unfolding bare paired quiet
bare_quoting [] h = (refl, refl)
bare_quoting (b ∷ w) h =
    let here : (none_of "\"']" b && not (starts (ascii "<!--") (b ∷ w))) ≡ true = and_left (none_of "\"']" b && not (starts (ascii "<!--") (b ∷ w))) (bare w) h in
    let n : one_of "\"']" b ≡ false = not-true (one_of "\"']" b) (and_left (none_of "\"']" b) (not (starts (ascii "<!--") (b ∷ w))) here) in
    let (p, q) = bare_quoting w (and_right (none_of "\"']" b && not (starts (ascii "<!--") (b ∷ w))) (bare w) h) in
    let m : one_of "\"'" b ≡ false = none_sub (ascii "\"'") (ascii "\"']") tt b n in
    (rw (m, paired) p, rw (m, none_sub (ascii "]") (ascii "\"']") tt b n, and_right (none_of "\"']" b) (not (starts (ascii "<!--") (b ∷ w))) here) q)

-- the entries of a subset: what a declaration begins with
clear_keyword : (b : ℕ) (x : List ℕ) → eqb b 45 ≡ false → T (every_plain (b ∷ x)) → Clear (subset_end 0 0) (60 ∷ 33 ∷ b ∷ x)
unfolding subset_end starts
clear_keyword b x n h r =
    rw n (ap (later 1) (clear_tame end_quoting (plain_bytes (33 ∷ b ∷ x) (T→true (every_plain (33 ∷ b ∷ x)) h)) r) ∙ later_suc (length (33 ∷ b ∷ x)) (subset_end 0 0 r))

module _ (D : Dialect) (A : AsciiNames D) where
  -- a declaration, read or unread
  clear_declaration : (pe : Bool) (s : String) {B : Lang} → Clear (subset_end 0 0) (ascii s) → ((u : List ℕ) → paired 0 (ascii s ++ u) ≡ paired 0 u) → Within B
      → (y : List ℕ) → (lit s · declared D pe B · lit ">") y
      → T (not (pe || has_pe_reference D (drop (length (ascii s)) (take (length y - 1) y))) || quiet 0 y) → Clear (subset_end 0 0) y
  unfolding Delimited Unread
  clear_declaration pe s {B} key pairs inner y l h = by pe l.second.first (subst (λ (z : List ℕ). T (not (pe || has_pe_reference D z) || quiet 0 y)) body_is h)
    where
      u : List ℕ
      u = l.second.left

      whole : y ≡ (ascii s ++ u) ++ (62 ∷ [])
      whole = l.split ∙ (λ i. l.first i ++ (l.second.split ∙ ap (λ (z : List ℕ). u ++ z) l.second.second) i) ∙ sym (append_assoc (ascii s) u (62 ∷ []))

      body_is : drop (length (ascii s)) (take (length y - 1) y) ≡ u
      body_is =
          let n : length (ascii s ++ u) ≡ length y - 1 = omega (arith, ap length whole, length-append (ascii s ++ u) (62 ∷ [])) in
          ap (drop (length (ascii s))) (ap (take (length y - 1)) whole ∙ take_at (ascii s ++ u) (62 ∷ []) (length y - 1) n) ∙ drop-append_seam (ascii s) u

      when_unread : Star (Ch (none_of "\"'>") ∣ SystemLiteral) u → T (quiet 0 y) → Clear (subset_end 0 0) y
      when_unread d q =
          subst (Clear (subset_end 0 0)) (sym whole)
          (clear_ended (ascii s ++ u) (ap (quiet 0) (sym whole) ∙ T→true (quiet 0 y) q)
          (ap (paired 0) (append_assoc (ascii s) u (62 ∷ [])) ∙ pairs (u ++ (62 ∷ [])) ∙ del_paired 0 u (delimited_del d)))

      when_read : B u → Clear (subset_end 0 0) y
      when_read b = subst (Clear (subset_end 0 0)) (sym whole) (clear_append (subset_end 0 0) (ascii s ++ u) (62 ∷ []) (clear_append (subset_end 0 0) (ascii s) u key (clear_tame end_quoting (inner u b))) closing)
        where
          closing : Clear (subset_end 0 0) (62 ∷ [])
          closing r = clear_quiet 0 [] r (unfold quiet starts in refl) (unfold paired in refl)

      by : (pe : Bool) → declared D pe B u → T (not (pe || has_pe_reference D u) || quiet 0 y) → Clear (subset_end 0 0) y
      by true d q = when_unread d q
      by false (inl b) q = when_read b
      by false (inr n) q = when_unread n.0 (rw (refers_complete D u n.1) at q)

  clear_instruction : (y : List ℕ) → PI D y → T (quoting y) → Clear (subset_end 0 0) y
  unfolding PI
  clear_instruction y l h =
      let a : List ℕ = l.left ++ (l.second.left ++ l.second.second.left) in
      let e : y ≡ (a ++ (63 ∷ [])) ++ (62 ∷ []) = shape a refl in
      subst (Clear (subset_end 0 0)) (sym e)
      (clear_ended (a ++ (63 ∷ [])) (ap (quiet 0) (sym e) ∙ T→true (quiet 0 y) (both_right (paired 0 y) (quiet 0 y) h)) (ap (paired 0) (sym e) ∙ T→true (paired 0 y) (both_left (paired 0 y) (quiet 0 y) h)))
    where
      shape : (a : List ℕ) → a ≡ l.left ++ (l.second.left ++ l.second.second.left) → y ≡ (a ++ (63 ∷ [])) ++ (62 ∷ [])
      shape a e =
          l.split ∙ ap (λ (z : List ℕ). l.left ++ z) (l.second.split ∙ ap (λ (z : List ℕ). l.second.left ++ z) (l.second.second.split ∙ ap (λ (z : List ℕ). l.second.second.left ++ z) l.second.second.second))
          ∙ ap (λ (z : List ℕ). l.left ++ z) (sym (append_assoc l.second.left l.second.second.left (63 ∷ 62 ∷ []))) ∙ sym (append_assoc l.left (l.second.left ++ l.second.second.left) (63 ∷ 62 ∷ []))
          ∙ ap (λ (z : List ℕ). z ++ (63 ∷ 62 ∷ [])) (sym e) ∙ sym (append_assoc a (63 ∷ []) (62 ∷ []))

  pub within_reference : Within (PEReference D)
  unfolding PEReference
  within_reference = within_cat (within_lit "%" tt) (within_cat (within_name D A) (within_lit ";" tt))

  clear_entry : (pe : Bool) (k : Kind) (y : List ℕ) → entry_of D pe k y → T (premised D quoting pe k y) → Clear (subset_end 0 0) y
  unfolding paired
  clear_entry pe element y l h = clear_declaration pe "<!ELEMENT" (clear_keyword 69 (ascii "LEMENT") refl tt) (λ u. refl) (within_element D A) y l h
  clear_entry pe attlist y l h = clear_declaration pe "<!ATTLIST" (clear_keyword 65 (ascii "TTLIST") refl tt) (λ u. refl) (within_attlist D A) y l h
  clear_entry pe entity y l h = clear_declaration pe "<!ENTITY" (clear_keyword 69 (ascii "NTITY") refl tt) (λ u. refl) (within_entity D A) y l h
  clear_entry pe notation y l h = clear_declaration pe "<!NOTATION" (clear_keyword 78 (ascii "OTATION") refl tt) (λ u. refl) (within_notation D A) y l h
  clear_entry pe instruction y l h = clear_instruction y l h
  clear_entry pe comment y l h = clear_comment y l
  clear_entry pe reference y l h = clear_tame end_quoting (within_reference y l)

  pub clear_filling : {pe : Bool} {w : List ℕ} (f : Filling D pe w) → T (Premise D quoting f) → Clear (subset_end 0 0) w
  clear_filling (last b) h = clear_tame end_quoting (within_s? _ b)
  clear_filling (next {pe = pe} k s y z e b l f) h =
      subst (Clear (subset_end 0 0)) (sym e)
      (clear_append (subset_end 0 0) s (y ++ z) (clear_tame end_quoting (within_s? s b))
      (clear_append (subset_end 0 0) y z (clear_entry pe k y l (both_left (premised D quoting pe k y) (Premise D quoting f) h)) (clear_filling f (both_right (premised D quoting pe k y) (Premise D quoting f) h))))

  -- what stands before the subset
  pub within_front : Within (Front D)
  within_front = within_cat within_s? (within_cat (within_name D A) (within_cat (within_either (within_cat within_s within_external) within_none) within_s?))

  pub clear_front : (w : List ℕ) → Front D w → Clear subset_open w
  clear_front w l = clear_tame (outside_quoting "[" refl refl tt) (within_front w l)

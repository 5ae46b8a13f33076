-- The grammar divides the internal subset into entries, and in one way only. Assumes nothing.
use mathlib.Core.Logic
use Rattle.spec.proofs.Characters.Text.{put}
use Rattle.spec.proofs.Dtd.Subset.{Items, refer, declare, written}
use Rattle.spec.proofs.Dtd.Subset as Subset
use mathlib.Core.Bool.{Bool, true, false, ◌||◌, or-false, or-true}
use mathlib.Core.List.{List, [], ◌∷◌, ◌++◌, append_assoc, append-nil}
use mathlib.Core.Logic.{◌⊎◌}
use mathlib.Core.Path.{◌≡◌, refl, sym, ◌∙◌, ap, subst}
use Prim.Native.Nat.{ℕ, suc, ◌+◌}
use Prim.Native.String.{String}
use lib.Dec.{T}
use lib.ListN.{length, take, drop}
use lib.Seq.{take-append_seam, take_at, drop-append_seam, drop_at}
use Rattle.spec.specs.Grammar.Characters.{S?}
use Rattle.spec.specs.Grammar.Declarations.{PI, Comment, markupdecl}
use Rattle.spec.specs.Grammar.Division.{Kind, element, attlist, entity, notation, instruction, comment, reference, refers, entry_of, Front}
use Rattle.spec.specs.Grammar.Doctype.{intSubset, doctypedecl}
use Rattle.spec.specs.Grammar.Languages.{Lang, lit, ascii, ◌·◌, ◌∣◌, inl, inr, Opt, any}
use Rattle.spec.specs.Grammar.Names.{Dialect, PEReference, AsciiNames}
use Rattle.spec.specs.Reading.Refusals.{too_deep}
use Rattle.spec.specs.Reading.Dtd.{skip_s, parse_pe_reference, parse_markup_decl}
use Rattle.spec.specs.Reading.Readers.{ok, Reader, starts, on}
use Rattle.spec.specs.Reading.Places.{at, outside}
use Rattle.spec.specs.Reading.Scan.{subset_open}
use Rattle.spec.proofs.Agreement.Algebra.{◌then◌, cat₂, assoc}
use Rattle.spec.proofs.Agreement.Choices.{on_begun}
use Rattle.spec.proofs.Agreement.Reads.{Reads, Next, ◌≅◌}
use Rattle.spec.proofs.Agreement.Runs.{not_space, skip}
use Rattle.spec.proofs.Agreement.Signs.{kind, Class, ◌∪◌, sub_refl, by_signs, sub_at}
use Rattle.spec.proofs.Agreement.Words.{first_of, starts_lit}
use Rattle.spec.proofs.Base.Results.{ok_inj}
use Rattle.spec.proofs.Division.Clear.{clear_front}
use Rattle.spec.specs.Reading.Entries.{kind_at}
use Rattle.spec.proofs.Base.Outside.{at_inj}
use Rattle.spec.proofs.Division.Parts.{Filling, last, next, entries, Parts, DividedParts, OneParts}
use Rattle.spec.proofs.Division.Scans.{found_after}
use Rattle.spec.proofs.Dtd.Markup.{markup_reads}

-- parts of one length, at the front of one text
same_length : (x y v w : List ℕ) → length x ≡ length y → x ++ v ≡ y ++ w → (x ≡ y) × (v ≡ w)
same_length x y v w n e = (
  sym (take-append_seam x v) ∙ ap (take (length x)) e ∙ take_at y w (length x) (sym n),
  sym (drop-append_seam x v) ∙ ap (drop (length x)) e ∙ drop_at y w (length x) (sym n),
)

same_taken : (r : Reader) (x y v w : List ℕ) → r (x ++ v) ≡ ok (length x) → r (y ++ w) ≡ ok (length y) → x ++ v ≡ y ++ w → (x ≡ y) × (v ≡ w)
same_taken r x y v w a b e = same_length x y v w (ok_inj (length x) (length y) (sym a ∙ ap r e ∙ b)) e

-- white space ends where none stands
same_space : (x y v w : List ℕ) → S? x → S? y → T (not_space (kind v)) → T (not_space (kind w)) → x ++ v ≡ y ++ w → (x ≡ y) × (v ≡ w)
same_space x y v w a b c d e =
    same_taken skip_s x y v w ((skip not_space sub_refl).complete x v a (record { it = c })) ((skip not_space sub_refl).complete y w b (record { it = d })) e

begun : (s : String) {M : Lang} {y : List ℕ} (v : List ℕ) (l : (lit s · M) y) → y ++ v ≡ ascii s ++ (l.right ++ v)
begun s v l = ap (λ (z : List ℕ). z ++ v) (l.split ∙ ap (λ (z : List ℕ). z ++ l.right) l.first) ∙ append_assoc (ascii s) l.right v

module _ (D : Dialect) (A : AsciiNames D) where
  pub kind_is : (pe : Bool) (k : Kind) (y v : List ℕ) → entry_of D pe k y → kind_at (y ++ v) ≡ k
  unfolding kind_at starts PI Comment PEReference
  kind_is pe element y v l = ap kind_at (begun "<!ELEMENT" v l)
  kind_is pe attlist y v l = ap kind_at (begun "<!ATTLIST" v l)
  kind_is pe entity y v l = ap kind_at (begun "<!ENTITY" v l)
  kind_is pe notation y v l = ap kind_at (begun "<!NOTATION" v l)
  kind_is pe instruction y v l = ap kind_at (begun "<?" v l)
  kind_is pe comment y v l = ap kind_at (begun "<!--" v l)
  kind_is pe reference y v l = ap kind_at (begun "%" v l)

  pe_reads : Reads (parse_pe_reference D) (PEReference D) (Next any) (first_of "%")
  pe_reads = Subset.pe_reads D A

  entry_reads : (pe : Bool) → Reads (on "%" (parse_pe_reference D) (parse_markup_decl D too_deep pe)) (PEReference D ∣ markupdecl D pe) (Next any) (first_of "%" ∪ first_of "<")
  unfolding PEReference
  entry_reads pe = on_begun "%" tt (λ u v l. starts_lit "%" v l) pe_reads (markup_reads D A pe)

  abbrev Sorted : Bool → Kind → List ℕ → Type 0
  Sorted pe k y = ((refers k ≡ true) × PEReference D y) ⊎ ((refers k ≡ false) × markupdecl D pe y)

  sort : (pe : Bool) (k : Kind) (y : List ℕ) → entry_of D pe k y → Sorted pe k y
  unfolding markupdecl
  sort pe element y l = Logic.inr (refl, inl l)
  sort pe attlist y l = Logic.inr (refl, inr (inl l))
  sort pe entity y l = Logic.inr (refl, inr (inr (inl l)))
  sort pe notation y l = Logic.inr (refl, inr (inr (inr (inl l))))
  sort pe instruction y l = Logic.inr (refl, inr (inr (inr (inr (inl l)))))
  sort pe comment y l = Logic.inr (refl, inr (inr (inr (inr (inr l)))))
  sort pe reference y l = Logic.inl (refl, l)

  sorted : (pe : Bool) (k : Kind) (y : List ℕ) → Sorted pe k y → (PEReference D ∣ markupdecl D pe) y
  sorted pe k y (Logic.inl x) = inl x.1
  sorted pe k y (Logic.inr x) = inr x.1

  -- an entry is what its reader takes, and begins with one of two signs
  pub entry_taken : (pe : Bool) (k : Kind) (y v : List ℕ) → entry_of D pe k y → on "%" (parse_pe_reference D) (parse_markup_decl D too_deep pe) (y ++ v) ≡ ok (length y)
  entry_taken pe k y v l = (entry_reads pe).complete y v (sorted pe k y (sort pe k y l)) (record { it = tt })

  abbrev pub entry_first : Class
  entry_first = first_of "%" ∪ first_of "<"

  pub entry_leads : (pe : Bool) (k : Kind) (y v : List ℕ) → entry_of D pe k y → T (entry_first (kind (y ++ v)))
  entry_leads pe k y v l = (entry_reads pe).leads y v (sorted pe k y (sort pe k y l)) (record { it = tt })

  pub entry_no_space : (pe : Bool) (k : Kind) (y v : List ℕ) → entry_of D pe k y → T (not_space (kind (y ++ v)))
  entry_no_space pe k y v l = sub_at entry_first not_space (by_signs tt) (y ++ v) (entry_leads pe k y v l)

  pub close_no_space : (b : List ℕ) → T (not_space (kind (93 ∷ b)))
  unfolding kind
  close_no_space b = tt

  not_close : (pe : Bool) (k : Kind) (y v b : List ℕ) → entry_of D pe k y → 93 ∷ b ≡ y ++ v → ⊥
  unfolding kind
  not_close pe k y v b l e = subst (λ (z : List ℕ). T (entry_first (kind z))) (sym e) (entry_leads pe k y v l)

  -- two entries at one place are the same
  same_entry : (pe : Bool) (k m : Kind) (x y v w : List ℕ) → entry_of D pe k x → entry_of D pe m y → x ++ v ≡ y ++ w → (k ≡ m) × (x ≡ y) × (v ≡ w)
  same_entry pe k m x y v w a b e =
      let (f, g) = same_taken (on "%" (parse_pe_reference D) (parse_markup_decl D too_deep pe)) x y v w (entry_taken pe k x v a) (entry_taken pe m y w b) e in
      (sym (kind_is pe k x v a) ∙ ap kind_at e ∙ kind_is pe m y w b, f, g)

  regroup : {w : List ℕ} (s y z c : List ℕ) → w ≡ s ++ (y ++ z) → w ++ c ≡ s ++ (y ++ (z ++ c))
  regroup s y z c e = ap (λ (q : List ℕ). q ++ c) e ∙ append_assoc s (y ++ z) c ∙ ap (λ (q : List ℕ). s ++ q) (append_assoc y z c)

  -- two fillings before a ']' each, of one text
  same_filling : {p q : Bool} {x y : List ℕ} (f : Filling D p x) (g : Filling D q y) (n : ℕ) (b c : List ℕ) → p ≡ q → x ++ 93 ∷ b ≡ y ++ 93 ∷ c → (entries D n f ≡ entries D n g) × (x ≡ y)
  same_filling {x = x} {y = y} (last s) (last t) n b c pq e =
      (refl, (same_space x y (93 ∷ b) (93 ∷ c) s t (close_no_space b) (close_no_space c) e).0)
  same_filling {q = q} {x = x} (last s) (next m t y z h a l g) n b c pq e =
      let (_, d) = same_space x t (93 ∷ b) (y ++ (z ++ 93 ∷ c)) s a (close_no_space b) (entry_no_space q m y (z ++ 93 ∷ c) l) (e ∙ regroup t y z (93 ∷ c) h) in
      absurd (not_close q m y (z ++ 93 ∷ c) b l d)
  same_filling {p = p} {y = w} (next k s x z h a l f) (last t) n b c pq e =
      let (_, d) = same_space w s (93 ∷ c) (x ++ (z ++ 93 ∷ b)) t a (close_no_space c) (entry_no_space p k x (z ++ 93 ∷ b) l) (sym e ∙ regroup s x z (93 ∷ b) h) in
      absurd (not_close p k x (z ++ 93 ∷ b) c l d)
  same_filling {p = p} {q = q} (next k s x z h a l f) (next m t y u j d o g) n b c pq e =
      let (st, r) = same_space s t (x ++ (z ++ 93 ∷ b)) (y ++ (u ++ 93 ∷ c)) a d (entry_no_space p k x (z ++ 93 ∷ b) l) (entry_no_space q m y (u ++ 93 ∷ c) o) (sym (regroup s x z (93 ∷ b) h) ∙ e ∙ regroup t y u (93 ∷ c) j) in
      let (km, xy, v) = same_entry p k m x y (z ++ 93 ∷ b) (u ++ 93 ∷ c) l (subst (λ (v : Bool). entry_of D v m y) (sym pq) o) r in
      let (es, zu) = same_filling f g (n + length s + length x) b c (λ i. pq i || refers (km i)) v in (
        (λ i. record { kind = km i; first = n + length (st i); past = n + length (st i) + length (xy i) } ∷ (es ∙ (λ j. entries D (n + length (st j) + length (xy j)) g)) i),
        h ∙ (λ i. st i ++ (xy i ++ zu i)) ∙ sym j,
      )

  pub one_parts : OneParts D
  unfolding outside
  one_parts w a b =
      let o : length a.front ≡ length b.front = at_inj (length a.front) (length b.front) (sym (opened a) ∙ opened b) in
      let (f, r) = same_length a.front b.front _ _ o (sym a.split ∙ b.split) in
      let i : a.inner ++ (93 ∷ a.back) ≡ b.inner ++ (93 ∷ b.back) = ap (drop 1) r in
      let (es, xy) = same_filling a.fills b.fills (suc (length a.front)) a.back b.back refl i in
      (es ∙ ap (λ (n : ℕ). entries D (suc n) b.fills) o, o, (λ j. suc (o j) + length (xy j)))
    where
      opened : (d : Parts D w) → subset_open w ≡ at (length d.front)
      opened d = ap subset_open d.split ∙ found_after subset_open d.front (91 ∷ (d.inner ++ (93 ∷ d.back))) (clear_front D A d.front d.heads) refl

  -- what W3C's text derives, divided; and the other way round
  to_filling : {pe : Bool} {w : List ℕ} → Items D (markupdecl D) pe w → Filling D pe w
  unfolding markupdecl
  to_filling (Subset.last b) = last b
  to_filling {pe} (Subset.next x y z e s (refer p) i) = next reference x y z e s p (subst (λ (b : Bool). Filling D b z) (sym (or-true pe)) (to_filling i))
  to_filling {pe} {w} (Subset.next x y z e s (declare m) i) = go m (to_filling i)
    where
      one : (k : Kind) → refers k ≡ false → entry_of D pe k y → Filling D pe z → Filling D pe w
      one k h l f = next k x y z e s l (subst (λ (b : Bool). Filling D b z) (sym (ap (λ (b : Bool). pe || b) h ∙ or-false pe)) f)

      go : markupdecl D pe y → Filling D pe z → Filling D pe w
      go (inl l) = one element refl l
      go (inr (inl l)) = one attlist refl l
      go (inr (inr (inl l))) = one entity refl l
      go (inr (inr (inr (inl l)))) = one notation refl l
      go (inr (inr (inr (inr (inl l))))) = one instruction refl l
      go (inr (inr (inr (inr (inr l))))) = one comment refl l

  of_filling : {pe : Bool} {w : List ℕ} → Filling D pe w → Items D (markupdecl D) pe w
  of_filling (last b) = Subset.last b
  of_filling {pe} {w} (next k s y z e b l f) = go (sort pe k y l) (of_filling f)
    where
      go : Sorted pe k y → Items D (markupdecl D) (pe || refers k) z → Items D (markupdecl D) pe w
      go (Logic.inl x) i = Subset.next s y z e b (refer x.1) (subst (λ (v : Bool). Items D (markupdecl D) v z) (ap (λ (v : Bool). pe || v) x.0 ∙ or-true pe) i)
      go (Logic.inr x) i = Subset.next s y z e b (declare x.1) (subst (λ (v : Bool). Items D (markupdecl D) v z) (ap (λ (v : Bool). pe || v) x.0 ∙ or-false pe) i)

  abbrev Bracket : Lang
  Bracket = lit "[" · intSubset D · lit "]" · S?

  front_first : (Front D · Opt Bracket) ≅ doctypedecl D
  unfolding doctypedecl
  front_first = assoc then cat₂ (assoc then cat₂ assoc)

  pub divided_parts : DividedParts D
  divided_parts w = (λ d. to_parts (front_first.from w d), from_parts)
    where
      to_parts : (Front D · Opt Bracket) w → Front D w ⊎ Parts D w
      to_parts c = go c.second
        where
          go : Opt Bracket c.right → Front D w ⊎ Parts D w
          go (inr n) = Logic.inl (subst (Front D) (sym (c.split ∙ ap (λ (z : List ℕ). c.left ++ z) n ∙ append-nil c.left)) c.first)
          go (inl l) = Logic.inr (unfold intSubset in record {
            front = c.left;
            inner = l.second.left;
            back = l.second.second.right;
            split = c.split ∙ ap (λ (z : List ℕ). c.left ++ z) (l.split ∙ (λ i. l.first i ++ (l.second.split ∙ ap (λ (z : List ℕ). l.second.left ++ z) (l.second.second.split ∙ ap (λ (z : List ℕ). z ++ l.second.second.right) l.second.second.first)) i));
            heads = c.first;
            fills = to_filling ((written D (markupdecl D)).from l.second.left l.second.first);
            ends = l.second.second.second;
          })

      from_parts : Front D w ⊎ Parts D w → doctypedecl D w
      from_parts (Logic.inl f) = front_first.to w (record { left = w; right = []; split = sym (append-nil w); first = f; second = inr refl })
      from_parts (Logic.inr d) =
          let inner : intSubset D d.inner = unfold intSubset in (written D (markupdecl D)).to d.inner (of_filling d.fills) in
          let bracket : Bracket (ascii "[" ++ (d.inner ++ (ascii "]" ++ d.back))) = put (ascii "[") _ refl (put d.inner _ inner (put (ascii "]") d.back refl d.ends)) in
          front_first.to w (subst (Front D · Opt Bracket) (sym d.split) (put d.front _ d.heads (inl bracket)))

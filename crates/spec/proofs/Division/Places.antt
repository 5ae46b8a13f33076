-- Divisions by places and by parts are the same. Assumes nothing.
use mathlib.Core.Bool.{Bool, false, ◌&&◌, ◌||◌}
use mathlib.Core.List.{List, [], ◌∷◌, ◌++◌, append_assoc}
use mathlib.Core.Logic.{◌↔◌, ◌⊎◌, inl, inr, ⊎_elim}
use mathlib.Core.Path.{◌≡◌, refl, sym, ◌∙◌, ap, subst}
use Prim.Native.Nat.{ℕ, suc, ◌+◌, ◌-◌, ◌≤◌, ◌<◌}
use native.Mathlib.Omega.{arith}
use lib.Dec.{T}
use lib.ListN.{length, take, drop, length-append, length-drop, take-append-drop}
use lib.Seq.{slice, length-slice, length-take-le, take-add, take-append_seam, drop-append-le, drop-append_seam, drop_at, drop-drop}
use Rattle.spec.specs.Grammar.Characters.{S?}
use Rattle.spec.specs.Grammar.Division.{Entry, refers, entry_of, Front, Fills, Division}
use Rattle.spec.specs.Grammar.Names.{Dialect, AsciiNames}
use Rattle.spec.specs.Premise.{promised, bare, premised, premise}
use Rattle.spec.specs.Grammar.Doctype.{doctypedecl}
use Rattle.spec.specs.Reading.Entries.{from_open, declarations}
use Rattle.spec.specs.Reading.Places.{at, nowhere, outside}
use Rattle.spec.specs.Reading.Scan.{scan, subset_open}
use Rattle.spec.proofs.Division.Clear.{clear_front}
use Rattle.spec.proofs.Division.Delimited.{parts_declare}
use Rattle.spec.proofs.Base.Outside.{nowhere_at}
use Rattle.spec.proofs.Division.Parting.{divided_parts, one_parts}
use Rattle.spec.proofs.Division.Parts.{Filling, last, next, entries, Parts, open_at, close_at, list_of, Premise, CutsParts}
use Rattle.spec.proofs.Division.Quoting.{quoting}
use Rattle.spec.proofs.Division.Scans.{found_after, found_none, cuts_parts, cuts_parts_quoting}

-- what the scan says at each cut of a text with a division, where instructions pass the test
abbrev pub Cuts : Dialect → (List ℕ → Bool) → Type 0
Cuts D test =
    (w : List ℕ) (d : Division D w) → T (premise D test w false d.entries) → (cut : ℕ) → scan (take cut w) ≡ promised d.opening d.closing cut

-- a part, and what stands after it
part_rest : (i j : ℕ) (w : List ℕ) → i ≤ j → j ≤ length w → drop i w ≡ slice i j w ++ drop j w
part_rest i j w h k =
    ap (drop i) (sym (take-append-drop j w)) ∙ drop-append-le i (take j w) (drop j w) (let n : length (take j w) ≡ j = length-take-le j w k in omega arith)

-- a part at a known place
part_at : (i : ℕ) (w s r : List ℕ) → i ≤ length w → drop i w ≡ s ++ r → slice i (i + length s) w ≡ s
part_at i w s r h e =
    ap (drop i) (take-add i (length s) w ∙ ap (λ (z : List ℕ). take i w ++ z) (ap (take (length s)) e ∙ take-append_seam s r)) ∙ drop_at (take i w) s i (length-take-le i w h)

part_split : (i a j : ℕ) (w : List ℕ) → i ≤ a → a ≤ j → j ≤ length w → slice i j w ≡ slice i a w ++ slice a j w
part_split i a j w h k l =
    let n : i + length (slice i a w ++ slice a j w) ≡ j =
    (let x : length (slice i a w) ≡ a - i = length-slice i a w (omega arith) in
    let y : length (slice a j w) ≡ j - a = length-slice a j w l in
    omega (arith, length-append (slice i a w) (slice a j w))) in
    ap (λ (m : ℕ). slice i m w) (sym n)
    ∙ part_at i w (slice i a w ++ slice a j w) (drop j w) (omega arith)
    (part_rest i a w h (omega arith) ∙ ap (λ (z : List ℕ). slice i a w ++ z) (part_rest a j w k l) ∙ sym (append_assoc (slice i a w) (slice a j w) (drop j w)))

part_size : (i j : ℕ) (w : List ℕ) → i ≤ j → j ≤ length w → i + length (slice i j w) ≡ j
part_size i j w h k = let n : length (slice i j w) ≡ j - i = length-slice i j w k in omega arith

-- what stands after a part, one place on
rest_after : (i : ℕ) (w s r : List ℕ) → drop i w ≡ s ++ r → drop (i + length s) w ≡ r
rest_after i w s r e = sym (drop-drop (length s) i w) ∙ ap (drop (length s)) e ∙ drop-append_seam s r

rest_in : (i : ℕ) (w s r : List ℕ) → i ≤ length w → drop i w ≡ s ++ r → i + length s ≤ length w
rest_in i w s r h e =
    let n : length (drop i w) ≡ length s + length r = ap length e ∙ length-append s r in
    omega (arith, length-drop i w)

module _ (D : Dialect) (A : AsciiNames D) where
  -- the places of an entry y after white space s, where z and then r follow
  record Reached (w : List ℕ) (i : ℕ) (s y z r : List ℕ) : Type 0 where
    space_at : drop i w ≡ s ++ (y ++ (z ++ r))
    entry_at : drop (i + length s) w ≡ y ++ (z ++ r)
    entry_in : i + length s ≤ length w
    rest_at : drop (i + length s + length y) w ≡ z ++ r
    past_in : i + length s + length y ≤ length w

  reached : {x : List ℕ} (w s y z r : List ℕ) (i : ℕ) → i ≤ length w → drop i w ≡ x ++ r → x ≡ s ++ (y ++ z) → Reached w i s y z r
  reached w s y z r i h e p =
      let e₁ : drop i w ≡ s ++ (y ++ (z ++ r)) = e ∙ ap (λ (q : List ℕ). q ++ r) p ∙ append_assoc s (y ++ z) r ∙ ap (λ (q : List ℕ). s ++ q) (append_assoc y z r) in
      let e₂ : drop (i + length s) w ≡ y ++ (z ++ r) = rest_after i w s (y ++ (z ++ r)) e₁ in
      let h₂ : i + length s ≤ length w = rest_in i w s (y ++ (z ++ r)) h e₁ in
      record { space_at = e₁; entry_at = e₂; entry_in = h₂; rest_at = rest_after (i + length s) w y (z ++ r) e₂; past_in = rest_in (i + length s) w y (z ++ r) h₂ e₂ }

  fills_order : (es : List Entry) (w : List ℕ) (pe : Bool) (i j : ℕ) → Fills D w pe i j es → i ≤ j
  fills_order [] w pe i j (h, s) = h
  fills_order (e ∷ es) w pe i j (h, k, s, l, f) = let g : e.past ≤ j = fills_order es w (pe || refers e.kind) e.past j f in omega arith

  -- from places to parts
  to_parts : (es : List Entry) (w : List ℕ) (pe : Bool) (i j : ℕ) → j ≤ length w → Fills D w pe i j es → (f : Filling D pe (slice i j w)) × (entries D i f ≡ es)
  to_parts [] w pe i j l (h, s) = (last s, refl)
  to_parts (e ∷ es) w pe i j l (h, k, s, d, r) =
      let o : e.past ≤ j = fills_order es w (pe || refers e.kind) e.past j r in
      let (f, q) = to_parts es w (pe || refers e.kind) e.past j l r in
      let a : i + length (slice i e.first w) ≡ e.first = part_size i e.first w h (omega arith) in
      let b : e.first + length (slice e.first e.past w) ≡ e.past = part_size e.first e.past w k (omega arith) in
      let c : i + length (slice i e.first w) + length (slice e.first e.past w) ≡ e.past = omega arith in (
        next e.kind (slice i e.first w) (slice e.first e.past w) (slice e.past j w)
            (part_split i e.first j w h (omega arith) l ∙ ap (λ (z : List ℕ). slice i e.first w ++ z) (part_split e.first e.past j w k o l)) s d f,
        (λ t. record { kind = e.kind; first = a t; past = c t } ∷ (ap (λ (m : ℕ). entries D m f) c ∙ q) t),
      )

  -- from parts to places
  to_places : {pe : Bool} {x : List ℕ} (f : Filling D pe x) (w r : List ℕ) (i : ℕ) → i ≤ length w → drop i w ≡ x ++ r → Fills D w pe i (i + length x) (entries D i f)
  to_places {x = x} (last s) w r i h e = (omega arith, subst S? (sym (part_at i w x r h e)) s)
  to_places {pe} {x} (next k s y z p b l f) w r i h e =
      let o : Reached w i s y z r = reached w s y z r i h e p in
      let n : i + length s + length y + length z ≡ i + length x = omega (arith, ap length p, length-append s (y ++ z), length-append y z) in (
        omega arith,
        omega arith,
        subst S? (sym (part_at i w s (y ++ (z ++ r)) h o.space_at)) b,
        subst (entry_of D pe k) (sym (part_at (i + length s) w y (z ++ r) o.entry_in o.entry_at)) l,
        subst (λ (m : ℕ). Fills D w (pe || refers k) (i + length s + length y) m (entries D (i + length s + length y) f)) n (to_places f w r (i + length s + length y) o.past_in o.rest_at),
      )

  -- the two kinds of division
  of_parts : {w : List ℕ} → Parts D w → Division D w
  of_parts {w} d =
      let x : List ℕ = d.front in
      let y : List ℕ = d.inner in
      let z : List ℕ = d.back in
      let l : length w ≡ length x + suc (length y + suc (length z)) = ap length d.split ∙ length-append x (91 ∷ (y ++ (93 ∷ z))) ∙ ap (λ (n : ℕ). length x + suc n) (length-append y (93 ∷ z)) in
      let e₁ : drop (length x) w ≡ (91 ∷ []) ++ (y ++ (93 ∷ z)) = ap (drop (length x)) d.split ∙ drop-append_seam x (91 ∷ (y ++ (93 ∷ z))) in
      let n₁ : length x + 1 ≡ suc (length x) = omega arith in
      let e₂ : drop (suc (length x)) w ≡ y ++ (93 ∷ z) = ap (λ (n : ℕ). drop n w) (sym n₁) ∙ rest_after (length x) w (91 ∷ []) (y ++ (93 ∷ z)) e₁ in
      let e₃ : drop (suc (length x) + length y) w ≡ (93 ∷ []) ++ z = rest_after (suc (length x)) w y (93 ∷ z) e₂ in
      let n₃ : suc (length x) + length y + 1 ≡ suc (suc (length x) + length y) = omega arith in
      record {
        opening = length x;
        closing = suc (length x) + length y;
        entries = entries D (suc (length x)) d.fills;
        within = omega arith;
        heads = subst (Front D) (sym (ap (take (length x)) d.split ∙ take-append_seam x (91 ∷ (y ++ (93 ∷ z))))) d.heads;
        opens = ap (λ (n : ℕ). slice (length x) n w) (sym n₁) ∙ part_at (length x) w (91 ∷ []) (y ++ (93 ∷ z)) (omega arith) e₁;
        fills = to_places d.fills w (93 ∷ z) (suc (length x)) (omega arith) e₂;
        closes = ap (λ (n : ℕ). slice (suc (length x) + length y) n w) (sym n₃) ∙ part_at (suc (length x) + length y) w (93 ∷ []) z (omega arith) e₃;
        ends = subst S? (sym (ap (λ (n : ℕ). drop n w) (sym n₃) ∙ rest_after (suc (length x) + length y) w (93 ∷ []) z e₃)) d.ends;
      }

  -- the parts of a division, which have its places and its list
  record Same {w : List ℕ} (v : Division D w) : Type 0 where
    parts : Parts D w
    opening : open_at D parts ≡ v.opening
    closing : close_at D parts ≡ v.closing
    entries : list_of D parts ≡ v.entries

  parts_of : {w : List ℕ} (v : Division D w) → Same v
  parts_of {w} v =
      let o : ℕ = v.opening in
      let c : ℕ = v.closing in
      let k : suc o ≤ c = fills_order v.entries w false (suc o) c v.fills in
      let h : c < length w = v.within in
      let (f, q) = to_parts v.entries w false (suc o) c (omega arith) v.fills in
      let a : length (take o w) ≡ o = length-take-le o w (omega arith) in
      let b : suc o + length (slice (suc o) c w) ≡ c = part_size (suc o) c w k (omega arith) in
      record {
        parts = record {
          front = take o w;
          inner = slice (suc o) c w;
          back = drop (suc c) w;
          split = sym (take-append-drop o w) ∙ ap (λ (z : List ℕ). take o w ++ z)
              (part_rest o (suc o) w (omega arith) (omega arith)
              ∙ (λ i. v.opens i ++ (part_rest (suc o) c w k (omega arith) ∙ ap (λ (z : List ℕ). slice (suc o) c w ++ z) (part_rest c (suc c) w (omega arith) h ∙ ap (λ (z : List ℕ). z ++ drop (suc c) w) v.closes)) i));
          heads = v.heads;
          fills = f;
          ends = v.ends;
        };
        opening = a;
        closing = ap (λ (n : ℕ). suc n + length (slice (suc o) c w)) a ∙ b;
        entries = ap (λ (n : ℕ). entries D (suc n) f) a ∙ q;
      }

  -- the premise by places
  same_premise : (calm : List ℕ → Bool) {pe : Bool} {x : List ℕ} (f : Filling D pe x) (w r : List ℕ) (i : ℕ) → i ≤ length w → drop i w ≡ x ++ r → premise D calm w pe (entries D i f) ≡ Premise D calm f
  same_premise calm (last s) w r i h e = refl
  same_premise calm {pe} {x} (next k s y z p b l f) w r i h e =
      let o : Reached w i s y z r = reached w s y z r i h e p in
      (λ t. premised D calm pe k (part_at (i + length s) w y (z ++ r) o.entry_in o.entry_at t) && same_premise calm f w r (i + length s + length y) o.past_in o.rest_at t)

  -- a division that meets the premise, as parts that meet it
  record Calm (calm : List ℕ → Bool) {w : List ℕ} (v : Division D w) : Type 0 where
    same : Same v
    meets : T (Premise D calm same.parts.fills)

  calm_parts : (calm : List ℕ → Bool) (w : List ℕ) (v : Division D w) → T (premise D calm w false v.entries) → Calm calm v
  calm_parts calm w v t =
      let m : Same v = parts_of v in
      let d : Parts D w = m.parts in
      let l : length w ≡ length d.front + suc (length (d.inner ++ (93 ∷ d.back))) = ap length d.split ∙ length-append d.front (91 ∷ (d.inner ++ (93 ∷ d.back))) in
      let n₁ : length d.front + 1 ≡ suc (length d.front) = omega arith in
      let e : drop (suc (length d.front)) w ≡ d.inner ++ (93 ∷ d.back) =
      ap (λ (n : ℕ). drop n w) (sym n₁) ∙ rest_after (length d.front) w (91 ∷ []) (d.inner ++ (93 ∷ d.back)) (ap (drop (length d.front)) d.split ∙ drop-append_seam d.front (91 ∷ (d.inner ++ (93 ∷ d.back)))) in
      record { same = m; meets = subst T (ap (premise D calm w false) (sym m.entries) ∙ same_premise calm d.fills w (93 ∷ d.back) (suc (length d.front)) (omega arith) e) t }

  pub parts_met : (calm : List ℕ → Bool) (w : List ℕ) (v : Division D w) → T (premise D calm w false v.entries) → (d : Parts D w) × T (Premise D calm d.fills)
  parts_met calm w v t = let c : Calm calm v = calm_parts calm w v t in (c.same.parts, c.meets)

  from_parts : (calm : List ℕ → Bool) → CutsParts D calm → Cuts D calm
  from_parts calm law w v t cut =
      let c : Calm calm v = calm_parts calm w v t in
      law w c.same.parts c.meets cut ∙ (λ i. promised (c.same.opening i) (c.same.closing i) cut)

  -- THE THEOREMS, for every name class with XML's ASCII part
  pub divided : (w : List ℕ) → doctypedecl D w ↔ (Front D w ⊎ Division D w)
  divided w = (
    λ d. ⊎_elim (λ f. inl f) (λ p. inr (of_parts p)) ((divided_parts D A w).0 d),
    λ x. (divided_parts D A w).1 (⊎_elim (λ f. inl f) (λ v. inr (parts_of v).parts) x),
  )

  -- the first '[' outside quotes is the subset's; without a subset there is none
  pub unopened : (w : List ℕ) → Front D w → subset_open w ≡ nowhere
  unfolding outside
  unopened w f = found_none subset_open w (clear_front D A w f) refl

  pub opened : (w : List ℕ) (v : Division D w) → subset_open w ≡ at v.opening
  unfolding outside
  opened w v =
      let m : Same v = parts_of v in
      let d : Parts D w = m.parts in
      ap subset_open d.split ∙ found_after subset_open d.front (91 ∷ (d.inner ++ (93 ∷ d.back))) (clear_front D A d.front d.heads) refl ∙ ap at m.opening

  pub apart : (w : List ℕ) → Front D w → Division D w → ⊥
  apart w f v = nowhere_at v.opening (sym (unopened w f) ∙ opened w v)

  pub one_division : (w : List ℕ) (a b : Division D w) → (a.entries ≡ b.entries) × (a.opening ≡ b.opening) × (a.closing ≡ b.closing)
  one_division w u v =
      let a : Same u = parts_of u in
      let b : Same v = parts_of v in
      let (l, m, n) = one_parts D A w a.parts b.parts in
      (sym a.entries ∙ l ∙ b.entries, sym a.opening ∙ m ∙ b.opening, sym a.closing ∙ n ∙ b.closing)

  -- the entries that the order of reading meets are those of the one division, and none where there is no subset
  pub front_declares : (w : List ℕ) → Front D w → declarations D w ≡ []
  unfolding declarations
  front_declares w f = ap (from_open D w) (unopened w f)

  pub division_declares : (w : List ℕ) (v : Division D w) → declarations D w ≡ v.entries
  division_declares w v = let m : Same v = parts_of v in parts_declare D A w m.parts ∙ m.entries

  pub cuts : Cuts D bare
  cuts = from_parts bare (cuts_parts D A)

  -- where instructions may hold paired quotes, a wider premise
  pub cuts_quoting : Cuts D quoting
  cuts_quoting = from_parts quoting (cuts_parts_quoting D A)

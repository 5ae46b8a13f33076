-- What is refused of a beginning stands, whatever follows, with a byte order mark in front or without one. Assumes nothing.
use mathlib.Core.Logic
use mathlib.Core.Bool.{Bool, true, false, ◌||◌, true≢false, or-true}
use mathlib.Core.List.{List, [], ◌∷◌, ◌++◌}
use mathlib.Core.Logic.{◌⊎◌}
use mathlib.Core.Path.{◌≡◌, refl, sym, ◌∙◌, ap, subst}
use Prim.Native.Nat.{ℕ, ◌+◌}
use native.Mathlib.Omega.{arith}
use lib.Dec.{eqb}
use lib.ListN.{take}
use Rattle.spec.specs.Basics.{pick}
use Rattle.spec.specs.Grammar.Characters.{xml_char}
use Rattle.spec.specs.Grammar.Encodings.{Wide, narrow, goes_on, anything, looks_like}
use Rattle.spec.specs.Grammar.Languages.{ascii}
use Rattle.spec.specs.Grammar.Names.{Dialect}
use Rattle.spec.specs.Reading.Document.{is_declaration, legal_length, legal_part}
use Rattle.spec.specs.Reading.Readers.{taken, starts, begins, char, while, while_fuel}
use Rattle.spec.specs.Reading.Refusals.{Refusal, not_utf8, illegal_char}
use Rattle.spec.specs.Reading.Utf8.{decode1, decode4}
use Rattle.spec.specs.Reading.Verdict.{Verdict, accepted, refused, ended, rootless, verdict, mark_length, moved, by_width, check_document}
use Rattle.spec.proofs.Agreement.Words.{starts_split}
use Rattle.spec.proofs.Base.Loops.{while_stop}
use Rattle.spec.proofs.Base.Tests.{and_left, and_right, decide}
use Rattle.spec.proofs.Document.Front.{mark, opens_narrow, uncut}
use Rattle.spec.proofs.Document.Known.{Decided}
use Rattle.spec.proofs.Document.Stands.{refused_decided, refused_stays}
use Rattle.spec.proofs.Document.Steady.{begins_longer}

-- one of the signs of UTF-16 or UTF-32 stands first
abbrev wide : List ℕ → Bool
wide w =
    (goes_on (0 ∷ 0 ∷ 0xFE ∷ 0xFF ∷ []) anything w || goes_on (0 ∷ 0 ∷ 0 ∷ 0x3C ∷ []) anything w)
    || ((goes_on (0xFF ∷ 0xFE ∷ 0 ∷ 0 ∷ []) anything w || goes_on (0x3C ∷ 0 ∷ 0 ∷ 0 ∷ []) anything w)
    || ((goes_on (0xFE ∷ 0xFF ∷ []) anything w || goes_on (0 ∷ 0x3C ∷ []) anything w)
    || (goes_on (0xFF ∷ 0xFE ∷ []) anything w || goes_on (0x3C ∷ 0 ∷ []) anything w)))

width : (w : List ℕ) (x : Verdict) → by_width (looks_like w) x ≡ pick (wide w) (refused not_utf8 0) x
unfolding looks_like
width w x =
    go (goes_on (0 ∷ 0 ∷ 0xFE ∷ 0xFF ∷ []) anything w || goes_on (0 ∷ 0 ∷ 0 ∷ 0x3C ∷ []) anything w) (goes_on (0xFF ∷ 0xFE ∷ 0 ∷ 0 ∷ []) anything w || goes_on (0x3C ∷ 0 ∷ 0 ∷ 0 ∷ []) anything w)
    (goes_on (0xFE ∷ 0xFF ∷ []) anything w || goes_on (0 ∷ 0x3C ∷ []) anything w) (goes_on (0xFF ∷ 0xFE ∷ []) anything w || goes_on (0x3C ∷ 0 ∷ []) anything w)
  where
    go : (a b c d : Bool) → by_width (pick a Wide.utf_32_be (pick b Wide.utf_32_le (pick c Wide.utf_16_be (pick d Wide.utf_16_le narrow)))) x ≡ pick (a || (b || (c || d))) (refused not_utf8 0) x
    go true b c d = refl
    go false true c d = refl
    go false false true d = refl
    go false false false true = refl
    go false false false false = refl

-- so none of them does, where the text does not look so
narrow_wide : (w : List ℕ) → looks_like w ≡ narrow → wide w ≡ false
narrow_wide w e = go (decide (wide w))
  where
    go : (wide w ≡ true) ⊎ (wide w ≡ false) → wide w ≡ false
    go (Logic.inr f) = f
    go (Logic.inl f) =
        let x : Verdict = rootless not_utf8 0 in
        let g : rootless not_utf8 0 ≡ refused not_utf8 0 = ap (λ (t : Wide). by_width t x) (sym e) ∙ width w x ∙ ap (λ (t : Bool). pick t (refused not_utf8 0) x) f in
        absurd (let z : ◌≡◌ {A = ℕ} 0 1 = cc in omega arith)

-- and it stands whatever follows
goes_longer : (p w v : List ℕ) → goes_on p anything w ≡ true → goes_on p anything (w ++ v) ≡ true
goes_longer [] w v e = refl
goes_longer (a ∷ p) [] v e = absurd (true≢false (sym e))
goes_longer (a ∷ p) (b ∷ w) v e = rw (and_left (eqb b a) (goes_on p anything w) e) (goes_longer p w v (and_right (eqb b a) (goes_on p anything w) e))

or_longer : (a b c d : Bool) → (a ≡ true → c ≡ true) → (b ≡ true → d ≡ true) → (a || b) ≡ true → (c || d) ≡ true
or_longer a b true d f g e = refl
or_longer true b false d f g e = absurd (true≢false (sym (f refl)))
or_longer false b false d f g e = g e

wide_longer : (w v : List ℕ) → wide w ≡ true → wide (w ++ v) ≡ true
wide_longer w v =
    or_longer _ _ _ _ (pair (0 ∷ 0 ∷ 0xFE ∷ 0xFF ∷ []) (0 ∷ 0 ∷ 0 ∷ 0x3C ∷ [])) (or_longer _ _ _ _ (pair (0xFF ∷ 0xFE ∷ 0 ∷ 0 ∷ []) (0x3C ∷ 0 ∷ 0 ∷ 0 ∷ []))
    (or_longer _ _ _ _ (pair (0xFE ∷ 0xFF ∷ []) (0 ∷ 0x3C ∷ [])) (pair (0xFF ∷ 0xFE ∷ []) (0x3C ∷ 0 ∷ []))))
  where
    pair : (p q : List ℕ) → (goes_on p anything w || goes_on q anything w) ≡ true → (goes_on p anything (w ++ v) || goes_on q anything (w ++ v)) ≡ true
    pair p q = or_longer _ _ _ _ (goes_longer p w v) (goes_longer q w v)

-- where a character stands first, and more than '<', none of them is cut off
narrow_stays : (w v : List ℕ) → begins xml_char w ≡ true → (w ≡ 0x3C ∷ [] → ⊥) → wide w ≡ false → wide (w ++ v) ≡ false
narrow_stays w v b n e = narrow_wide (w ++ v) (opens_narrow (w ++ v) (record { lead = begins_longer xml_char w v b; second = uncut_less w b n e }))
  where
    uncut_less : (w : List ℕ) → begins xml_char w ≡ true → (w ≡ 0x3C ∷ [] → ⊥) → wide w ≡ false → (x : List ℕ) → w ++ v ≡ 0x3C ∷ 0 ∷ x → ⊥
    uncut_less [] b n e x f = true≢false (sym b ∙ (unfold begins decode1 in refl))
    uncut_less (a ∷ []) b n e x f = n (let g : a ≡ 0x3C = cc in ap (λ (c : ℕ). c ∷ []) g)
    uncut_less (a ∷ c ∷ u) b n e x f =
        let g : a ≡ 0x3C = cc in
        let h : c ≡ 0 = cc in
        true≢false (sym (less u) ∙ (λ i. wide (sym g i ∷ sym h i ∷ u)) ∙ e)
      where
        less : (u : List ℕ) → wide (0x3C ∷ 0 ∷ u) ≡ true
        less u = or-true (goes_on (0 ∷ 0 ∷ []) anything u)

-- of what is refused, a Char stands first, and more than '<'
undecided : Decided [] → ⊥
unfolding is_declaration starts begins decode1 decode4
undecided d = true≢false (d.declaration (ascii "<?xml "))

undecided_less : Decided (0x3C ∷ []) → ⊥
unfolding is_declaration starts begins decode1 decode4
undecided_less d = true≢false (d.declaration (ascii "?xml "))

moved_refused : (m : ℕ) (x : Verdict) (r : Refusal) (i : ℕ) → moved m x ≡ refused r i → (j : ℕ) × (x ≡ refused r j) × (m + j ≡ i)
moved_refused m (accepted k t) r i e = absurd (let z : ◌≡◌ {A = ℕ} 0 1 = cc in omega arith)
moved_refused m (refused s j) r i e = (j, cc, cc)
moved_refused m (ended s j k) r i e = absurd (let z : ◌≡◌ {A = ℕ} 0 1 = cc in omega arith)
moved_refused m (rootless s j) r i e = absurd (let z : ◌≡◌ {A = ℕ} 0 1 = cc in omega arith)

module _ (D : Dialect) where
  some_char : (part : Bool) (w : List ℕ) (r : Refusal) (i : ℕ) → verdict D part w ≡ refused r i → begins xml_char w ≡ true
  unfolding legal_length
  some_char part w r i e = go (decide (begins xml_char w))
    where
      go : (begins xml_char w ≡ true) ⊎ (begins xml_char w ≡ false) → begins xml_char w ≡ true
      go (Logic.inl f) = f
      go (Logic.inr f) =
          absurd (undecided (subst Decided (ap (λ (k : ℕ). take k w) (ap taken (while_stop (begins xml_char) (char xml_char illegal_char) w f))) (refused_decided D part w r i e)))

  more_than_less : (part : Bool) (w : List ℕ) (r : Refusal) (i : ℕ) → verdict D part w ≡ refused r i → w ≡ 0x3C ∷ [] → ⊥
  unfolding legal_length while while_fuel begins char decode1 decode4 xml_char
  more_than_less part w r i e f = undecided_less (subst (λ (x : List ℕ). Decided (legal_part xml_char x)) f (refused_decided D part w r i e))

  -- by what stands first
  in_wide : (whole : Bool) (w : List ℕ) → wide w ≡ true → check_document D whole w ≡ refused not_utf8 0
  unfolding check_document
  in_wide whole w e = width w _ ∙ (rw e)

  with_mark : (whole : Bool) (u : List ℕ) → check_document D whole (mark ++ u) ≡ moved 3 (verdict D whole u)
  unfolding check_document looks_like mark_length starts
  with_mark whole u = refl

  without : (whole : Bool) (w : List ℕ) → starts mark w ≡ false → check_document D whole w ≡ pick (wide w) (refused not_utf8 0) (moved 0 (verdict D whole w))
  unfolding check_document mark_length
  without whole w e = width w _ ∙ (rw e)

  -- The theorem, for the whole check.
  pub check_refused_stays : (part whole : Bool) (w v : List ℕ) (r : Refusal) (i : ℕ) → check_document D part w ≡ refused r i → check_document D whole (w ++ v) ≡ refused r i
  check_refused_stays part whole w v r i e = go (decide (starts mark w)) (decide (wide w))
    where
      again : (m : ℕ) (u : List ℕ) → moved m (verdict D part u) ≡ refused r i → moved m (verdict D whole (u ++ v)) ≡ refused r i
      again m u f = let (j, g, l) = moved_refused m (verdict D part u) r i f in ap (moved m) (refused_stays D part whole u v r j g) ∙ ap (refused r) l

      go : (starts mark w ≡ true) ⊎ (starts mark w ≡ false) → (wide w ≡ true) ⊎ (wide w ≡ false) → check_document D whole (w ++ v) ≡ refused r i
      go (Logic.inl f) g =
          let (u, h) = starts_split mark w f in
          ap (λ (z : List ℕ). check_document D whole (z ++ v)) h ∙ with_mark whole (u ++ v) ∙ again 3 u (sym (with_mark part u) ∙ ap (check_document D part) (sym h) ∙ e)
      go (Logic.inr f) (Logic.inl g) = in_wide whole (w ++ v) (wide_longer w v g) ∙ sym (in_wide part w g) ∙ e
      go (Logic.inr f) (Logic.inr g) =
          let a : moved 0 (verdict D part w) ≡ refused r i = ap (λ (t : Bool). pick t (refused not_utf8 0) (moved 0 (verdict D part w))) (sym g) ∙ sym (without part w f) ∙ e in
          let (j, h, l) = moved_refused 0 (verdict D part w) r i a in
          let c = some_char part w r j h in
          without whole (w ++ v) (uncut w v c f) ∙ ap (λ (t : Bool). pick t (refused not_utf8 0) (moved 0 (verdict D whole (w ++ v)))) (narrow_stays w v c (more_than_less part w r j h) g) ∙ again 0 w a

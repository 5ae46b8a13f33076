-- Processing instructions. Assumes nothing.
use mathlib.Core.Logic
use mathlib.Core.Bool.{Bool, true, false, ◌&&◌, not, true≢false}
use mathlib.Core.List.{List, [], ◌∷◌, ◌++◌, append-nil}
use mathlib.Core.Logic.{◌⊎◌}
use mathlib.Core.Path.{◌≡◌, refl, sym, ◌∙◌, ap, subst}
use Prim.Native.Nat.{ℕ, suc, ◌+◌, ◌<◌}
use Prim.Native.String.{String}
use native.Mathlib.Nat.{zero-add}
use native.Mathlib.Omega.{arith}
use lib.Dec.{T, ltb}
use lib.ListN.{length, take, drop, take-append-drop}
use lib.Seq.{take-append_seam}
use Rattle.spec.specs.Basics.{pick}
use Rattle.spec.specs.Grammar.Characters.{Text, S, space}
use Rattle.spec.specs.Grammar.Declarations.{PI}
use Rattle.spec.specs.Grammar.Languages.{Lang, lit, ascii, Ch, ◌·◌, inl, inr, Star, end, Plus, Opt, any, one_of, none_of, ◌∖◌}
use Rattle.spec.specs.Grammar.Names.{Dialect, Name, NCName, PITarget, AsciiNames, start_sign, part_sign}
use Rattle.spec.specs.Reading.Dtd.{reserved, check_target, check_pi, parse_pi}
use Rattle.spec.specs.Reading.Readers.{ok, err, run, contains, before}
use Rattle.spec.specs.Reading.Refusals.{has_colon, unterminated, unexpected, reserved_target}
use Rattle.spec.specs.Reading.Wellformed.{check_name}
use Rattle.spec.proofs.Agreement.Algebra.{cat₂, assoc}
use Rattle.spec.proofs.Agreement.Reads.{Reads, Next, seq, as_lang}
use Rattle.spec.proofs.Agreement.Runs.{space_ascii, among_ascii}
use Rattle.spec.proofs.Agreement.Signs.{sub_any}
use Rattle.spec.proofs.Agreement.UpTo.{up_to_reads}
use Rattle.spec.proofs.Agreement.Words.{wd, first_of}
use Rattle.spec.proofs.Base.Results.{on_ok_ok, unless_refused}
use Rattle.spec.proofs.Base.Tests.{T→true, true→T, no→false, and_left, and_right, each_of, each_at, not-true, leb_true}
use Rattle.spec.proofs.Characters.Bytes.{avoids, avoids_append, class_avoids, text_front, avoids_all, avoids_each}
use Rattle.spec.proofs.Characters.Text.{text_rest, ascii_char, star_one, all_ascii, plus_star}
use Rattle.spec.proofs.Characters.Utf8.{encode_1}
use Rattle.spec.proofs.Agreement.Holds.{contains_avoid, contains_after, free_holds, holds_free, first_after, after_first}
use Rattle.spec.proofs.Dtd.Notations.{no_colon}
use Rattle.spec.proofs.Wellformed.Names.{check_name_whole}

-- what ends an instruction
abbrev pub pi_close : List ℕ
pi_close = ascii "?>"

abbrev pub Unmarked : Lang
Unmarked = Text ∖ (Text · lit "?>" · Text)

unmarked_free : (u : List ℕ) → Unmarked u → contains pi_close u ≡ false
unmarked_free u x = holds_free "?>" 63 (62 ∷ []) refl tt u x.0 x.1

free_unmarked : (u : List ℕ) → Star (Ch any) u → contains pi_close u ≡ false → Unmarked u
unfolding Text
free_unmarked u s f = (s, free_holds "?>" 63 (62 ∷ []) refl tt u f)

abbrev pub solid : ℕ → Bool
solid = none_of " \t\r\n"

solid_split : (u : List ℕ) → (drop (run solid u) u ≡ []) ⊎ ((b : ℕ) × (r : List ℕ) × (drop (run solid u) u ≡ b ∷ r) × T (space b))
unfolding run
solid_split [] = Logic.inl refl
solid_split (b ∷ u) = go (space b) refl (solid_split u)
  where
    go : (t : Bool) → space b ≡ t → (drop (run solid u) u ≡ []) ⊎ ((d : ℕ) × (r : List ℕ) × (drop (run solid u) u ≡ d ∷ r) × T (space d))
        → (drop (pick (not t) (suc (run solid u)) 0) (b ∷ u) ≡ []) ⊎ ((d : ℕ) × (r : List ℕ) × (drop (pick (not t) (suc (run solid u)) 0) (b ∷ u) ≡ d ∷ r) × T (space d))
    go true e ih = Logic.inr (b, u, refl, true→T (space b) e)
    go false e ih = ih

pub run_solid : (x o : List ℕ) → avoids_all (ascii " \t\r\n") x ≡ true → run solid (x ++ o) ≡ length x + run solid o
unfolding run
run_solid [] o h = sym (zero-add (run solid o))
run_solid (b ∷ x) o h =
    rw (and_left (solid b) (avoids_all (ascii " \t\r\n") x) h) (ap suc (run_solid x o (and_right (solid b) (avoids_all (ascii " \t\r\n") x) h)) ∙ (let e : suc (length x + run solid o) ≡ suc (length x) + run solid o = omega arith in e))

-- xml in any case
abbrev Xml : Lang
Xml = Ch (one_of "Xx") · Ch (one_of "Mm") · Ch (one_of "Ll")

module _ (D : Dialect) (A : AsciiNames D) where
  one_byte : (s : String) → T (all_ascii (ascii s)) → (u : List ℕ) (c : Ch (one_of s) u) → u ≡ c.char ∷ []
  one_byte s h u c = c.bytes ∙ encode_1 c.char (among_ascii (ascii s) h c.char c.in_class)

  xml_reserved : (t : List ℕ) → Xml t → reserved t ≡ true
  unfolding reserved
  xml_reserved t l =
      let x : Ch (one_of "Xx") l.left = l.first in
      let m : Ch (one_of "Mm") l.second.left = l.second.first in
      let k : Ch (one_of "Ll") l.second.right = l.second.second in
      let e : t ≡ x.char ∷ m.char ∷ k.char ∷ [] =
      l.split ∙ (λ i. one_byte "Xx" tt l.left x i ++ (l.second.split ∙ (λ j. one_byte "Mm" tt l.second.left m j ++ one_byte "Ll" tt l.second.right k j)) i) in
      ap (reserved) e ∙ (λ i. T→true (one_of "Xx" x.char) x.in_class i && T→true (one_of "Mm" m.char) m.in_class i && T→true (one_of "Ll" k.char) k.in_class i)

  one_sign : (s : String) → T (all_ascii (ascii s)) → (b : ℕ) → one_of s b ≡ true → Ch (one_of s) (b ∷ [])
  one_sign s h b e = ascii_char (one_of s) b (among_ascii (ascii s) h b (true→T (one_of s b) e)) (true→T (one_of s b) e)

  pub reserved_xml : (t : List ℕ) → reserved t ≡ true → Xml t
  unfolding reserved
  reserved_xml [] e = absurd (true≢false (sym e))
  reserved_xml (x ∷ []) e = absurd (true≢false (sym e))
  reserved_xml (x ∷ m ∷ []) e = absurd (true≢false (sym e))
  reserved_xml (x ∷ m ∷ l ∷ y ∷ ys) e = absurd (true≢false (sym e))
  reserved_xml (x ∷ m ∷ l ∷ []) e =
      let f : (one_of "Xx" x && one_of "Mm" m) ≡ true = and_left (one_of "Xx" x && one_of "Mm" m) (one_of "Ll" l) e in
      record {
        left = x ∷ [];
        right = m ∷ l ∷ [];
        split = refl;
        first = one_sign "Xx" tt x (and_left (one_of "Xx" x) (one_of "Mm" m) f);
        second = record { left = m ∷ []; right = l ∷ []; split = refl; first = one_sign "Mm" tt m (and_right (one_of "Xx" x) (one_of "Mm" m) f); second = one_sign "Ll" tt l (and_right (one_of "Xx" x && one_of "Mm" m) (one_of "Ll" l) e) };
      }

  target_sound : (t : List ℕ) (j : ℕ) → Text t → check_target D t ≡ ok j → PITarget D t
  unfolding check_target PITarget NCName
  target_sound t j tt' e =
      let (i, f, g) = on_ok_ok (check_name D t) (λ _. pick (contains (ascii ":") t) (err has_colon (before (ascii ":") t)) (pick (reserved t) (err reserved_target 0) (ok 0))) j e in
      let (c, h) = unless_refused has_colon (before (ascii ":") t) (contains (ascii ":") t) (pick (reserved t) (err reserved_target 0) (ok 0)) j g in
      let (r, _) = unless_refused reserved_target 0 (reserved t) (ok 0) j h in
      (((check_name_whole D A).sound t i tt' f, free_holds ":" 58 [] refl tt t c), λ x. true≢false (sym (xml_reserved t x) ∙ r))

  target_complete : (t : List ℕ) → PITarget D t → (j : ℕ) × (check_target D t ≡ ok j)
  unfolding check_target PITarget NCName
  target_complete t p =
      let n : check_name D t ≡ ok (length t) = (check_name_whole D A).complete t p.0.0 in
      let c : contains (58 ∷ []) t ≡ false = no_colon D A t p.0 in
      let r : reserved t ≡ false = no→false (reserved t) (λ q. p.1 (reserved_xml t (T→true (reserved t) q))) in
      (0, rw (n, c, r))

  -- the whole instruction
  abbrev pub Inner : Lang
  Inner = PITarget D · Opt (S · Unmarked)

  name_avoids : (a : ℕ) → a < 128 → D.start a ≡ false → D.part a ≡ false → (t : List ℕ) → Name D t → avoids a t ≡ true
  unfolding Name
  name_avoids a l s p t n = ap (avoids a) n.split ∙ avoids_append a n.left n.right ∙ (λ i. class_avoids D.start a l s (star_one n.first) i && class_avoids D.part a l p n.second i)

  sign_avoids : (a : ℕ) → a < 128 → start_sign a ≡ false → part_sign a ≡ false → (t : List ℕ) → Name D t → avoids a t ≡ true
  sign_avoids a l s p = name_avoids a l (A.start_ascii a l ∙ s) (A.part_ascii a l ∙ p)

  -- so a name has none of some signs, if a computed test says that none is of a name; and a target is a name
  pub name_avoids_all : (s : List ℕ) → each_of (λ a. ltb a 128 && (not (start_sign a) && not (part_sign a))) s ≡ true → (t : List ℕ) → Name D t → avoids_all s t ≡ true
  name_avoids_all s h t x = avoids_each s t
      (λ a m.
      let e : (ltb a 128 && (not (start_sign a) && not (part_sign a))) ≡ true = each_at (λ a. ltb a 128 && (not (start_sign a) && not (part_sign a))) s h a m in
      let f : (not (start_sign a) && not (part_sign a)) ≡ true = and_right (ltb a 128) (not (start_sign a) && not (part_sign a)) e in
      sign_avoids a (leb_true (suc a) 128 (and_left (ltb a 128) (not (start_sign a) && not (part_sign a)) e)) (not-true (start_sign a) (and_left (not (start_sign a)) (not (part_sign a)) f)) (not-true (part_sign a) (and_right (not (start_sign a)) (not (part_sign a)) f)) t x)

  target_name : (t : List ℕ) → PITarget D t → Name D t
  unfolding PITarget NCName
  target_name t x = x.0.0

  pub target_avoids : (s : List ℕ) → each_of (λ a. ltb a 128 && (not (start_sign a) && not (part_sign a))) s ≡ true → (t : List ℕ) → PITarget D t → avoids_all s t ≡ true
  target_avoids s h t x = name_avoids_all s h t (target_name t x)

  pub inner_free : (u : List ℕ) → Inner u → contains pi_close u ≡ false
  unfolding S contains
  inner_free u c = ap (contains pi_close) c.split ∙ contains_avoid 63 (62 ∷ []) c.left c.right (sign_avoids 63 (omega arith) refl refl c.left (target_name c.left c.first)) ∙ go c.right c.second
    where
      go : (o : List ℕ) → Opt (S · Unmarked) o → contains pi_close o ≡ false
      go o (inr e) = ap (contains pi_close) e
      go o (inl l) =
          let s : Plus (Ch space) l.left = l.first in
          ap (contains pi_close) l.split ∙ contains_avoid 63 (62 ∷ []) l.left l.right (class_avoids space 63 (omega arith) refl (plus_star s)) ∙ unmarked_free l.right l.second

  space_run : (o : List ℕ) → Opt (S · Unmarked) o → run solid o ≡ 0
  unfolding S run
  space_run o (inr e) = ap (run solid) e
  space_run o (inl l) =
      let s : Plus (Ch space) l.left = l.first in
      let c : Ch space s.left = s.first in
      let e : o ≡ c.char ∷ (s.right ++ l.right) = l.split ∙ ap (λ (z : List ℕ). z ++ l.right) (s.split ∙ ap (λ (z : List ℕ). z ++ s.right) (c.bytes ∙ encode_1 c.char (space_ascii c.char c.in_class))) in
      ap (run solid) e ∙ ap (λ (b : Bool). pick (not b) (suc (run solid (s.right ++ l.right))) 0) (T→true (space c.char) c.in_class)

  inner_complete : (u : List ℕ) → Inner u → (j : ℕ) × (check_pi D u ≡ ok j)
  unfolding check_pi
  inner_complete u c =
      let t : List ℕ = c.left in
      let (j, e) = target_complete t c.first in
      let z : run solid c.right ≡ 0 = space_run c.right c.second in
      let r : run solid (t ++ c.right) ≡ length t = omega (arith, run_solid t c.right (target_avoids (ascii " \t\r\n") refl t c.first)) in
      (j, rw (c.split, r, take-append_seam t c.right) e)

  inner_sound : (u : List ℕ) (j : ℕ) → Star (Ch any) u → contains pi_close u ≡ false → check_pi D u ≡ ok j → Inner u
  unfolding check_pi Text S
  inner_sound u j tu f e = go (solid_split u)
    where
      n : ℕ
      n = run solid u

      t : List ℕ
      t = take n u

      go : (drop n u ≡ []) ⊎ ((b : ℕ) × (r : List ℕ) × (drop n u ≡ b ∷ r) × T (space b)) → Inner u
      go (Logic.inl d) =
          let k : u ≡ t = sym (take-append-drop n u) ∙ ap (λ (z : List ℕ). t ++ z) d ∙ append-nil t in
          record { left = t; right = []; split = k ∙ sym (append-nil t); first = target_sound t j (subst (Star (Ch any)) k tu) e; second = inr refl }
      go (Logic.inr (b, r, d, s)) =
          let k : u ≡ t ++ b ∷ r = sym (take-append-drop n u) ∙ ap (λ (z : List ℕ). t ++ z) d in
          let l : b < 128 = space_ascii b s in
          let te : Star (Ch any) t = text_front t b r l k tu in
          let tr : Star (Ch any) r = text_rest r (star_one (ascii_char any b l tt)) (text_rest (b ∷ r) te (subst (Star (Ch any)) k tu)) in
          let g : contains pi_close r ≡ false = contains_after pi_close (b ∷ []) r (contains_after pi_close t (b ∷ r) (ap (contains pi_close) (sym k) ∙ f)) in
          record {
            left = t;
            right = b ∷ r;
            split = k;
            first = target_sound t j te e;
            second = inl (record { left = b ∷ []; right = r; split = refl; first = record { left = b ∷ []; right = []; split = refl; first = ascii_char space b l s; second = end refl }; second = free_unmarked r tr g });
          }

  pub pi_reads : Reads (parse_pi D) (PI D) (Next any) (first_of "<")
  unfolding parse_pi PI Text
  pi_reads =
      as_lang (cat₂ assoc)
      (seq (wd "<?" unexpected tt) sub_any
      (up_to_reads "?>" unterminated (check_pi D) Inner 63 (62 ∷ []) refl tt (λ u v j tu h e. inner_sound u j tu (after_first 63 (62 ∷ []) refl u v h) e) inner_complete (λ u v x. first_after 63 (62 ∷ []) refl u v (inner_free u x))))

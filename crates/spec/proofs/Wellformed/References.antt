-- Character references: their reader, their bytes, and that they take a byte or more. Assumes nothing.
use mathlib.Core.Bool.{Bool, true, false, ◌&&◌, ◌||◌, not, true≢false}
use mathlib.Core.List.{List, [], ◌∷◌, ◌++◌, append_assoc}
use mathlib.Core.Path.{◌≡◌, refl, sym, ◌∙◌, ap, subst}
use Prim.Native.Nat.{ℕ, ◌+◌, ◌<◌}
use Prim.Native.String.{String}
use native.Mathlib.Omega.{arith}
use borrow.Author.Tests.{eqb-false}
use lib.Dec.{eqb}
use lib.ListN.{length, take, drop, length-append}
use lib.Seq.{drop-append_seam, take-append_seam, take_at}
use Rattle.spec.specs.Basics.{pick, within}
use Rattle.spec.specs.Grammar.Characters.{Text, xml_char}
use Rattle.spec.specs.Grammar.Languages.{Lang, lit, ascii, Ch, ◌·◌, inl, inr, Star, end, more, Plus, any, ◌∖◌, ◌&◌}
use Rattle.spec.specs.Grammar.References.{digit, hex_digit, denotes_char, value_on, CharRef, Unreferring, Referring}
use Rattle.spec.specs.Reading.Readers.{ok, err, ◌>>◌, starts, on, word, run, as_one}
use Rattle.spec.specs.Reading.Refusals.{bad_reference, illegal_reference}
use Rattle.spec.specs.Reading.Wellformed.{reference, char_ref}
use Rattle.spec.proofs.Agreement.Algebra.{swap}
use Rattle.spec.proofs.Agreement.Chars.{kind_encode, ch_some}
use Rattle.spec.proofs.Agreement.Reads.{Took, Reads, Next, Leads, seq, alt, weaken, as_lang, reads_one, drop_took}
use Rattle.spec.proofs.Agreement.Runs.{run_took, run_complete, ascii_lead, star_plus, Small, small_or, small_within}
use Rattle.spec.proofs.Agreement.Signs.{kind, Sub, by_signs, sub_any}
use Rattle.spec.proofs.Agreement.Words.{wd, first_of, starts_self, starts_clash, starts_split, starts_lit}
use Rattle.spec.proofs.Base.Results.{ok_inj, unless_refused, else_refused}
use Rattle.spec.proofs.Base.Tests.{T→true, true→T, eqb_no, or_false_left, or_false_right, not-false}
use Rattle.spec.proofs.Characters.Bytes.{avoids_append, class_avoids, avoids}
use Rattle.spec.proofs.Characters.Text.{text_rest, ascii_text, star_one, cat_size, plus_star}

pub digit_ascii : Small digit
digit_ascii = small_within 0x30 0x39 (omega arith)

hex_ascii : Small hex_digit
hex_ascii = small_or (λ c. digit c || within 0x41 0x46 c) (within 0x61 0x66) (small_or digit (within 0x41 0x46) digit_ascii (small_within 0x41 0x46 (omega arith))) (small_within 0x61 0x66 (omega arith))

module _ (base : ℕ) (d : ℕ → Bool) (small : Small d) (closes : Sub (first_of ";") (λ k. not (d k))) where
  abbrev Digits : Lang
  Digits = Plus (Ch d) & denotes_char base

  reference_sound : (w : List ℕ) (k : ℕ) → Text w → reference base d w ≡ ok k → Took (Digits · lit ";") k w
  unfolding reference denotes_char
  reference_sound w k tw e =
      let n : ℕ = run d w in
      let value : ℕ = value_on base 0 (take n w) in
      let ended : Bool = starts (ascii ";") (drop n w) in
      let (f, g) = unless_refused bad_reference 0 (eqb n 0 || not ended) (pick (xml_char value) (ok (n + 1)) (err illegal_reference 0)) k e in
      let (c, m) = else_refused illegal_reference 0 (xml_char value) (ok (n + 1)) k g in
      let o : Took (Star (Ch d)) n w = run_took d small w tw in
      let (v, h) = starts_split (ascii ";") o.rest (ap (starts (ascii ";")) (sym (drop_took o)) ∙ not-false ended (or_false_right (eqb n 0) (not ended) f)) in
      let z : take n w ≡ o.taken = ap (take n) o.split ∙ take_at o.taken o.rest n o.size in
      let l : length o.taken ≡ n = o.size in
      let s : n ≡ 0 → ⊥ = eqb-false n 0 (or_false_left (eqb n 0) (not ended) f) in
      record {
        taken = o.taken ++ ascii ";";
        rest = v;
        split = o.split ∙ ap (λ (x : List ℕ). o.taken ++ x) h ∙ sym (append_assoc o.taken (ascii ";") v);
        size = length-append o.taken (ascii ";") ∙ ap (λ (x : ℕ). x + 1) o.size ∙ ok_inj (n + 1) k m;
        holds = record {
          left = o.taken;
          right = ascii ";";
          split = refl;
          first = (star_plus o.holds (omega arith), true→T (xml_char (value_on base 0 o.taken)) (ap (λ (x : List ℕ). xml_char (value_on base 0 x)) (sym z) ∙ c));
          second = refl;
        };
        left = text_rest v (ascii_text (ascii ";") tt) (subst Text h o.left);
      }

  reference_reads : Reads (reference base d) (Digits · lit ";") (Next any) d
  unfolding reference denotes_char
  reference_reads = record { sound = reference_sound; complete = complete_by; leads = leads_by }
    where
      complete_by : (u v : List ℕ) → (Digits · lit ";") u → Next any v → reference base d (u ++ v) ≡ ok (length u)
      complete_by u v l t =
          let x : List ℕ = l.left in
          let e : u ++ v ≡ x ++ (59 ∷ v) = ap (λ (z : List ℕ). z ++ v) (l.split ∙ ap (λ (z : List ℕ). x ++ z) l.second) ∙ append_assoc x (ascii ";") v in
          let r : run d (x ++ (59 ∷ v)) ≡ length x = run_complete d small (first_of ";") closes (59 ∷ v) (plus_star l.first.0) (unfold kind in tt) in
          let p : Plus (Ch d) x = l.first.0 in
          let n : length x ≡ length p.left + length p.right = cat_size p in
          let m : 0 < length p.left = ch_some p.left p.first in
          let z : eqb (length x) 0 ≡ false = eqb_no (length x) 0 (λ q. omega arith) in
          let len : length u ≡ length x + 1 = ap length l.split ∙ length-append x l.right ∙ ap (λ (q : List ℕ). length x + length q) l.second in
          rw (e, r, z, drop-append_seam x (59 ∷ v), starts_self (ascii ";") v, take-append_seam x (59 ∷ v), T→true (xml_char (value_on base 0 x)) l.first.1, len)

      leads_by : Leads (Digits · lit ";") (Next any) d
      leads_by u v l t =
          let p : Plus (Ch d) l.left = l.first.0 in
          let c : Ch d p.left = p.first in
          rw (l.split, p.split, append_assoc (p.left ++ p.right) l.right v, append_assoc p.left p.right (l.right ++ v), c.bytes, kind_encode c.char (p.right ++ (l.right ++ v)))
          (ascii_lead d small c.char c.in_class)

pub char_ref_reads : Reads char_ref CharRef (Next any) (first_of "&")
unfolding char_ref CharRef on
char_ref_reads =
    weaken sub_any (by_signs tt)
    (as_lang swap (alt (starts (ascii "&#x")) (λ u v l t. starts_lit "&#x" v l) no_x (reads_one (seq (wd "&#x" bad_reference tt) sub_any (reference_reads 16 hex_digit hex_ascii (by_signs tt)))) decimal))
  where
    decimal : Reads (as_one (word "&#" bad_reference >> reference 10 digit)) (lit "&#" · (Plus (Ch digit) & denotes_char 10) · lit ";") (Next any) (first_of "&")
    decimal = reads_one (seq (wd "&#" bad_reference tt) sub_any (reference_reads 10 digit digit_ascii (by_signs tt)))

    no_x : (u v : List ℕ) → (lit "&#" · (Plus (Ch digit) & denotes_char 10) · lit ";") u → Next any v → starts (ascii "&#x") (u ++ v) ≡ false
    no_x u v l t =
        ap (starts (ascii "&#x")) (ap (λ (z : List ℕ). z ++ v) (l.split ∙ ap (λ (z : List ℕ). z ++ l.right) l.first))
        ∙ starts_clash (ascii "&#x") (ascii "&#") digit (l.right ++ v) tt ((reference_reads 10 digit digit_ascii (by_signs tt)).leads l.right v l.second t)

-- each begins with "&#"
abbrev pub ref_open : List ℕ
ref_open = ascii "&#"

pub ref_starts : (u v : List ℕ) → CharRef u → starts ref_open (u ++ v) ≡ true
unfolding CharRef starts
ref_starts u v (inl l) = starts_lit "&#" v l
ref_starts u v (inr l) = ap (starts ref_open) (ap (λ (z : List ℕ). z ++ v) (l.split ∙ ap (λ (z : List ℕ). z ++ l.right) l.first))

pub ref_some : (u : List ℕ) → CharRef u → 0 < length u
unfolding starts
ref_some [] c = absurd (true≢false (sym (ref_starts [] [] c)))
ref_some (b ∷ u) c = omega arith

-- and no byte of the quote stands in such a value
abbrev pub Avoiding : ℕ → Lang → Type 0
Avoiding a L = (u : List ℕ) → L u → avoids a u ≡ true

pub avoiding_cat : (a : ℕ) {L M : Lang} → Avoiding a L → Avoiding a M → Avoiding a (L · M)
avoiding_cat a f g u c = ap (avoids a) c.split ∙ avoids_append a c.left c.right ∙ (λ i. f c.left c.first i && g c.right c.second i)

avoiding_star : (a : ℕ) {L : Lang} → Avoiding a L → Avoiding a (Star L)
avoiding_star a {L} f u s = go s
  where
    go : {u : List ℕ} → Star L u → avoids a u ≡ true
    go (end e) = ap (avoids a) e
    go (more x y e l s) = ap (avoids a) e ∙ avoids_append a x y ∙ (λ i. f x l i && go s i)

pub avoiding_lit : (a : ℕ) (s : String) → avoids a (ascii s) ≡ true → Avoiding a (lit s)
avoiding_lit a s h u e = ap (avoids a) e ∙ h

-- a sign that no reference has
pub record Foreign (a : ℕ) : Type 0 where
  pub small : a < 128
  pub opening : avoids a (ascii "&#") ≡ true
  pub opening_x : avoids a (ascii "&#x") ≡ true
  pub closing : avoids a (ascii ";") ≡ true
  pub no_digit : digit a ≡ false
  pub no_hex : hex_digit a ≡ false

pub plus_avoiding : (a : ℕ) (d : ℕ → Bool) → a < 128 → d a ≡ false → Avoiding a (Plus (Ch d))
plus_avoiding a d l n = avoiding_cat a (λ u c. class_avoids d a l n (star_one c)) (λ u s. class_avoids d a l n s)

pub avoiding_ref : (a : ℕ) → Foreign a → Avoiding a CharRef
unfolding CharRef
avoiding_ref a f u (inl l) = avoiding_cat a (avoiding_lit a "&#" f.opening) (avoiding_cat a (λ x c. plus_avoiding a digit f.small f.no_digit x c.0) (avoiding_lit a ";" f.closing)) u l
avoiding_ref a f u (inr l) = avoiding_cat a (avoiding_lit a "&#x" f.opening_x) (avoiding_cat a (λ x c. plus_avoiding a hex_digit f.small f.no_hex x c.0) (avoiding_lit a ";" f.closing)) u l

pub ref_avoids : (p : ℕ → Bool) (a : ℕ) → Foreign a → p a ≡ false → Avoiding a (Referring p)
unfolding Referring Unreferring
ref_avoids p a f n = avoiding_cat a free (avoiding_star a (avoiding_cat a (avoiding_ref a f) free))
  where
    free : Avoiding a (Star (Ch p) ∖ (Text · lit "&#" · Text))
    free u x = class_avoids p a f.small n x.0

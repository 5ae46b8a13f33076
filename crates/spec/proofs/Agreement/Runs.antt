-- Runs of bytes of an ASCII class, and white space. Assumes nothing.
use mathlib.Core.Bool.{Bool, true, false, not, ◌||◌}
use mathlib.Core.List.{List, [], ◌∷◌, ◌++◌, append_assoc, append-nil}
use mathlib.Core.Logic.{⊎_elim}
use mathlib.Core.Path.{◌≡◌, refl, sym, ◌∙◌, ap, subst}
use Prim.Native.Nat.{ℕ, suc, ◌+◌, ◌<◌}
use native.Mathlib.Omega.{arith}
use borrow.Author.Tests.{eqb-false}
use lib.Dec.{T, ltb, eqb, eqb→eq, T_not}
use lib.ListN.{length, drop, length-append, drop_of_length-le}
use lib.Seq.{drop-append_seam}
use Rattle.spec.specs.Basics.{pick, within}
use Rattle.spec.specs.Grammar.Characters.{Text, space, S, S?}
use Rattle.spec.specs.Grammar.Languages.{Lang, ascii, Ch, Star, end, more, Plus, any, among, ◌·◌}
use Rattle.spec.specs.Reading.Dtd.{skip_s, require_s}
use Rattle.spec.specs.Reading.Readers.{ok, err, Reader, run, required}
use Rattle.spec.specs.Reading.Refusals.{Refusal, no_space}
use Rattle.spec.proofs.Agreement.Chars.{kind_encode, sign, ch_some}
use Rattle.spec.proofs.Agreement.Reads.{Took, Reads, Next, Leads, took_as, took_none}
use Rattle.spec.proofs.Agreement.Signs.{kind, kind_ascii, Class, Sub, sub_at, ◌∪◌, in_left, in_right}
use Rattle.spec.proofs.Base.Results.{ok_inj, on_ok_ok, unless_refused}
use Rattle.spec.proofs.Base.Tests.{T→true, true→T, leb_yes, leb_true, eqb_no, or_cases, within_hi, both_left, both_right, no→false}
use Rattle.spec.proofs.Characters.Text.{ascii_char, text_rest, star_one, all_ascii, cat_size, plus_star, cat_before}
use Rattle.spec.proofs.Characters.Utf8.{encode_1}

-- classes of ASCII signs: ranges, the signs of a word, and either of two
abbrev pub Small : (ℕ → Bool) → Type 0
Small p = (c : ℕ) → T (p c) → c < 128

pub small_within : (lo hi : ℕ) → hi < 128 → Small (within lo hi)
small_within lo hi h c t = omega (arith, within_hi lo hi c (T→true (within lo hi c) t))

pub small_or : (p q : ℕ → Bool) → Small p → Small q → Small (λ c. p c || q c)
small_or p q f g c t = ⊎_elim (λ e. f c (true→T (p c) e)) (λ e. g c (true→T (q c) e)) (or_cases (p c) (q c) (T→true (p c || q c) t))

pub among_ascii : (s : List ℕ) → T (all_ascii s) → Small (among s)
among_ascii [] h = λ c t. absurd t
among_ascii (b ∷ s) h =
    small_or (λ c. eqb c b) (among s) (λ c t. let e : c ≡ b = eqb→eq c b t in let l : b < 128 = leb_true (suc b) 128 (T→true (ltb b 128) (both_left (ltb b 128) (all_ascii s) h)) in omega arith)
    (among_ascii s (both_right (ltb b 128) (all_ascii s) h))

-- a run of bytes of an ASCII class
module _ (p : ℕ → Bool) (small : Small p) where
  pub run_took : (w : List ℕ) → Text w → Took (Star (Ch p)) (run p w) w
  unfolding run Text
  run_took [] tw = took_none refl tw (end refl)
  run_took (b ∷ w) tw = go (p b) refl (run_took w)
    where
      go : (t : Bool) → p b ≡ t → (Text w → Took (Star (Ch p)) (run p w) w) → Took (Star (Ch p)) (pick t (suc (run p w)) 0) (b ∷ w)
      go false e ih = took_none refl tw (end refl)
      go true e ih =
          let h : b < 128 = small b (true→T (p b) e) in
          let t : Took (Star (Ch p)) (run p w) w = ih (text_rest w (star_one (ascii_char any b h tt)) tw) in
          record {
            taken = b ∷ t.taken;
            rest = t.rest;
            split = ap (λ (x : List ℕ). b ∷ x) t.split;
            size = ap suc t.size;
            holds = more (b ∷ []) t.taken refl (ascii_char p b h (true→T (p b) e)) t.holds;
            left = t.left;
          }

  pub run_stop : (q : Class) → Sub q (λ k. not (p k)) → (v : List ℕ) → T (q (kind v)) → run p v ≡ 0
  unfolding run
  run_stop q h [] t = refl
  run_stop q h (b ∷ v) t =
      rw (no→false (p b) (λ x. T_not (p b) (subst (λ (k : ℕ). T (not (p k))) (kind_ascii b v (small b x)) (sub_at q (λ k. not (p k)) h (b ∷ v) t)) x))

  pub run_complete : (q : Class) → Sub q (λ k. not (p k)) → {u : List ℕ} (v : List ℕ) → Star (Ch p) u → T (q (kind v)) → run p (u ++ v) ≡ length u
  unfolding run
  run_complete q h v (end e) t = rw e (run_stop q h v t)
  run_complete q h {u} v (more x y e c s) t =
      let b : x ≡ c.char ∷ [] = c.bytes ∙ encode_1 c.char (small c.char c.in_class) in
      rw (e, b, T→true (p c.char) c.in_class, run_complete q h v s t)

  pub run_reads : (q : Class) → Sub q (λ k. not (p k)) → Reads (λ w. ok (run p w)) (Star (Ch p)) (Next q) (p ∪ q)
  run_reads q h = record {
    sound = λ w k tw e. took_as (λ u s. s) (ok_inj (run p w) k e) (run_took w tw);
    complete = λ u v s t. ap ok (run_complete q h v s t.it);
    leads = λ u v s t. leads_by v s t.it;
  }
    where
      leads_by : {u : List ℕ} (v : List ℕ) → Star (Ch p) u → T (q (kind v)) → T ((p ∪ q) (kind (u ++ v)))
      leads_by v (end e) t = rw e (in_right (p (kind v)) (q (kind v)) t)
      leads_by v (more x y e c s) t =
          let b : x ≡ c.char ∷ [] = c.bytes ∙ encode_1 c.char (small c.char c.in_class) in
          rw (e, b, kind_ascii c.char (y ++ v) (small c.char c.in_class)) (in_left (p c.char) (q c.char) c.in_class)

-- a run that is the whole text
pub whole_run : (p : ℕ → Bool) → Small p → (u : List ℕ) → Text u → run p u ≡ length u → Star (Ch p) u
whole_run p small u tu e =
    let t : Took (Star (Ch p)) (run p u) u = run_took p small u tu in
    let l : length u ≡ length t.taken + length t.rest = ap length t.split ∙ length-append t.taken t.rest in
    let z : length t.taken ≡ run p u = t.size in
    let n : t.rest ≡ [] = drop_of_length-le t.rest {i = 0} (omega arith) in
    subst (Star (Ch p)) (sym (t.split ∙ ap (λ (x : List ℕ). t.taken ++ x) n ∙ append-nil t.taken)) t.holds

pub run_whole : (p : ℕ → Bool) → Small p → p 129 ≡ false → {u : List ℕ} → Star (Ch p) u → run p u ≡ length u
unfolding kind
run_whole p small n {u} s =
    ap (run p) (sym (append-nil u))
    ∙ run_complete p small (λ k. eqb k 129) (record { at = λ k h t. subst (λ (m : ℕ). T (not (p m))) (sym (eqb→eq k 129 t)) (rw n tt) }) [] s tt

-- at least one
pub star_plus : {L : Lang} {u : List ℕ} → Star L u → 0 < length u → Plus L u
star_plus {u = u} (end e) h = absurd (let z : length u ≡ 0 = ap length e in omega arith)
star_plus (more x y e l s) h = record { left = x; right = y; split = e; first = l; second = s }

pub at_least_one : {r : Reader} {L F : Lang} {g : Class} (n : Refusal) (f : Class) → ((u : List ℕ) → L u → 0 < length u) → ((u v : List ℕ) → L u → T (f (kind (u ++ v))))
    → Reads r (Star L) F g → Reads (required n r) (Plus L) F f
unfolding required
at_least_one {r} {L} {F} {g} n f some_l lead a = record { sound = sound_by; complete = complete_by; leads = leads_by }
  where
    sound_by : (w : List ℕ) (k : ℕ) → Text w → required n r w ≡ ok k → Took (Plus L) k w
    sound_by w k tw e =
        let (j, f, g) = on_ok_ok (r w) (λ j. pick (eqb j 0) (err n 0) (ok j)) k e in
        let (z, h) = unless_refused n 0 (eqb j 0) (ok j) k g in
        let o : Took (Star L) j w = a.sound w j tw f in
        let l : length o.taken ≡ j = o.size in
        let s : j ≡ 0 → ⊥ = eqb-false j 0 z in
        record { taken = o.taken; rest = o.rest; split = o.split; size = o.size ∙ ok_inj j k h; holds = star_plus o.holds (omega arith); left = o.left }

    complete_by : (u v : List ℕ) → Plus L u → F v → required n r (u ++ v) ≡ ok (length u)
    complete_by u v l t =
        let b : r (u ++ v) ≡ ok (length u) = a.complete u v (plus_star l) t in
        let z : 0 < length l.left = some_l l.left l.first in
        let c : length u ≡ length l.left + length l.right = cat_size l in
        rw (b, eqb_no (length u) 0 (λ o. omega arith))

    leads_by : Leads (Plus L) F f
    leads_by u v l t = rw (l.split, append_assoc l.left l.right v) (lead l.left (l.right ++ v) l.first)

-- a character of an ASCII class is its own sign
pub ascii_lead : (p : ℕ → Bool) → Small p → (c : ℕ) → T (p c) → T (p (sign c))
ascii_lead p small c t = rw (leb_yes (suc c) 128 (small c t)) t

-- S? and S: what follows is no white space
pub space_ascii : Small space
space_ascii = among_ascii (ascii " \t\r\n") tt

abbrev pub not_space : Class
not_space k = not (space k)

pub skip : (q : Class) → Sub q not_space → Reads skip_s S? (Next q) (space ∪ q)
unfolding skip_s S?
skip q h = run_reads space space_ascii q h

pub need : (q : Class) → Sub q not_space → Reads require_s S (Next q) space
unfolding require_s S S?
need q h =
    at_least_one no_space space ch_some (λ u v c. rw (c.bytes, kind_encode c.char v) (ascii_lead space space_ascii c.char c.in_class)) (skip q h)

-- what stands after white space
pub past_space : {q : Class} → Sub q not_space → (x y : List ℕ) → S? x → T (q (kind y)) → drop (run space (x ++ y)) (x ++ y) ≡ y
unfolding S?
past_space {q} h x y s t = rw (run_complete space space_ascii q h y s t) (drop-append_seam x y)

-- white space, and then what is none: how much of it, what is left after it, and that there is some
pub spaced : {K F : Lang} (g : Class) → Sub g not_space → Leads K F g → (u v : List ℕ) (l : (S · K) u) → F v
    → (run space (u ++ v) ≡ length l.left) × (drop (length l.left) (u ++ v) ≡ l.right ++ v) × (0 < length l.left)
unfolding S
spaced g h ll u v l t =
    let p : Plus (Ch space) l.left = l.first in
    let m : 0 < length p.left = ch_some p.left p.first in (
      ap (run space) (cat_before l v) ∙ run_complete space space_ascii g h (l.right ++ v) (plus_star p) (ll l.right v l.second t),
      ap (drop (length l.left)) (cat_before l v) ∙ drop-append_seam l.left (l.right ++ v),
      omega (arith, cat_size p),
    )

-- white space that may be none: all of a text, some of it, none at all, and as one text of a language that has it
pub blank_run : (v : List ℕ) → S? v → run space v ≡ length v
unfolding S?
blank_run v s = run_whole space space_ascii refl s

pub s_s? : (x : List ℕ) → S x → S? x
unfolding S S?
s_s? x s = plus_star s

pub no_spaces : S? []
unfolding S?
no_spaces = end refl

pub spaces : {L : Lang} {x : List ℕ} → ((w : List ℕ) → S w → L w) → S? x → Star L x
unfolding S S?
spaces f (end e) = end e
spaces {x = x} f (more u v e c s) = star_one (f x (record { left = u; right = v; split = e; first = c; second = s }))

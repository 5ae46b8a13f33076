-- Comments. Assumes nothing.
use mathlib.Core.Logic
use mathlib.Core.Bool.{Bool, true, false, ◌&&◌, true≢false}
use mathlib.Core.List.{List, [], ◌∷◌, ◌++◌, append_assoc}
use mathlib.Core.Logic.{◌⊎◌}
use mathlib.Core.Path.{◌≡◌, refl, sym, ◌∙◌, ap, subst}
use Prim.Native.Nat.{ℕ, suc, ◌<◌}
use native.Mathlib.Omega.{arith}
use lib.Dec.{eqb}
use lib.ListN.{length}
use Rattle.spec.specs.Basics.{pick}
use Rattle.spec.specs.Grammar.Characters.{Text}
use Rattle.spec.specs.Grammar.Declarations.{Comment}
use Rattle.spec.specs.Grammar.Languages.{Lang, lit, Ch, ◌·◌, ◌∣◌, inl, inr, Star, end, more, Opt, any, none_of, ascii}
use Rattle.spec.specs.Grammar.Utf8.{encode}
use Rattle.spec.specs.Reading.Dtd.{check_comment, parse_comment}
use Rattle.spec.specs.Reading.Readers.{nothing, starts, choose, contains, before}
use Rattle.spec.specs.Reading.Refusals.{unterminated, unexpected, double_hyphen}
use Rattle.spec.proofs.Agreement.Algebra.{cat₂, assoc}
use Rattle.spec.proofs.Agreement.Chars.{ch_some}
use Rattle.spec.proofs.Agreement.Holds.{contains_avoid, contains_after}
use Rattle.spec.proofs.Agreement.Reads.{Reads, Next, seq, as_lang}
use Rattle.spec.proofs.Agreement.Signs.{sub_any}
use Rattle.spec.proofs.Agreement.UpTo.{up_to_reads}
use Rattle.spec.proofs.Agreement.Words.{wd, first_of}
use Rattle.spec.proofs.Base.Results.{unless_refuses_at}
use Rattle.spec.proofs.Base.Tests.{decide, eqb-true, or_false_left, or_false_right}
use Rattle.spec.proofs.Characters.Bytes.{avoids, class_avoids, avoids_head}
use Rattle.spec.proofs.Characters.Text.{star_one}
use Rattle.spec.proofs.Characters.Utf8.{encode_1}

-- no two hyphens in a row
abbrev pub twice : List ℕ → Bool
twice = contains (45 ∷ 45 ∷ [])

abbrev Other : Lang
Other = Ch (none_of "-")

abbrev Unhyphened : Lang
Unhyphened = Star (Other ∣ (lit "-" · Other)) · Opt (lit "-")

other_avoids : {x : List ℕ} → Other x → avoids 45 x ≡ true
other_avoids c = class_avoids (none_of "-") 45 (omega arith) refl (star_one c)

-- a hyphen, and then a byte that is none
hyphen_first : (x y : List ℕ) → avoids 45 x ≡ true → 0 < length x → twice (45 ∷ (x ++ y)) ≡ twice (x ++ y)
unfolding contains starts
hyphen_first [] y h l = absurd (omega arith)
hyphen_first (b ∷ x) y h l = rw (avoids_head 45 b x h)

no_twice : {u : List ℕ} (o : List ℕ) → Star (Other ∣ (lit "-" · Other)) u → Opt (lit "-") o → twice (u ++ o) ≡ false
unfolding contains starts
no_twice o (end e) (inl m) = (λ i. twice (e i ++ m i))
no_twice o (end e) (inr n) = (λ i. twice (e i ++ n i))
no_twice o (more x y e (inl c) s) m = ap (λ (z : List ℕ). twice (z ++ o)) e ∙ ap twice (append_assoc x y o) ∙ contains_avoid 45 (45 ∷ []) x (y ++ o) (other_avoids c) ∙ no_twice o s m
no_twice o (more x y e (inr l) s) m =
    let c : Other l.right = l.second in
    let f : x ++ y ++ o ≡ 45 ∷ (l.right ++ (y ++ o)) = append_assoc x y o ∙ ap (λ (z : List ℕ). z ++ (y ++ o)) (l.split ∙ ap (λ (z : List ℕ). z ++ l.right) l.first) in
    ap (λ (z : List ℕ). twice (z ++ o)) e ∙ ap twice f ∙ hyphen_first l.right (y ++ o) (other_avoids c) (ch_some l.right c)
    ∙ contains_avoid 45 (45 ∷ []) l.right (y ++ o) (other_avoids c) ∙ no_twice o s m

-- a text with no two hyphens in a row, perhaps after a hyphen
abbrev hyphened : Bool → List ℕ → List ℕ
hyphened true u = 45 ∷ u
hyphened false u = u

onto : (x : List ℕ) {y : List ℕ} → (Other ∣ (lit "-" · Other)) x → Unhyphened y → Unhyphened (x ++ y)
onto x i c = record {
  left = x ++ c.left;
  right = c.right;
  split = ap (λ (z : List ℕ). x ++ z) c.split ∙ sym (append_assoc x c.left c.right);
  first = more x c.left refl i c.first;
  second = c.second;
}

unhyphened : (pre : Bool) {u : List ℕ} → Star (Ch any) u → twice (hyphened pre u) ≡ false → Unhyphened (hyphened pre u)
unfolding contains starts
unhyphened false {u} (end e) h = record { left = []; right = u; split = refl; first = end refl; second = inr e }
unhyphened true {u} (end e) h = record { left = []; right = 45 ∷ u; split = refl; first = end refl; second = inl (ap (λ (z : List ℕ). 45 ∷ z) e) }
unhyphened pre {u} (more x y e c s) h = go pre h (decide (eqb c.char 45)) (λ p g. unhyphened p s g)
  where
    other : eqb c.char 45 ≡ false → Other x
    other f = record { char = c.char; is_scalar = c.is_scalar; in_class = rw f tt; bytes = c.bytes }

    x_is : eqb c.char 45 ≡ true → x ≡ 45 ∷ []
    x_is f = c.bytes ∙ ap encode (eqb-true c.char 45 f) ∙ encode_1 45 (omega arith)

    go : (p : Bool) → twice (hyphened p u) ≡ false → (eqb c.char 45 ≡ true) ⊎ (eqb c.char 45 ≡ false) → ((p : Bool) → twice (hyphened p y) ≡ false → Unhyphened (hyphened p y)) → Unhyphened (hyphened p u)
    go false g (Logic.inr f) ih = subst Unhyphened (sym e) (onto x (inl (other f)) (ih false (contains_after (45 ∷ 45 ∷ []) x y (ap twice (sym e) ∙ g))))
    go false g (Logic.inl f) ih =
        let k : u ≡ 45 ∷ y = e ∙ ap (λ (z : List ℕ). z ++ y) (x_is f) in
        subst Unhyphened (sym k) (ih true (ap twice (sym k) ∙ g))
    go true g (Logic.inr f) ih =
        subst Unhyphened (sym (ap (λ (z : List ℕ). 45 ∷ z) e))
        (onto (45 ∷ x) (inr (record { left = 45 ∷ []; right = x; split = refl; first = refl; second = other f })) (ih false (contains_after (45 ∷ 45 ∷ []) (45 ∷ x) y (ap (λ (z : List ℕ). twice (45 ∷ z)) (sym e) ∙ g))))
    go true g (Logic.inl f) ih =
        let k : u ≡ 45 ∷ y = e ∙ ap (λ (z : List ℕ). z ++ y) (x_is f) in
        absurd (true≢false (ap (λ (z : List ℕ). twice (45 ∷ z)) (sym k) ∙ g))

-- the first "-->" after such a text is the one that stands at its end
pub first_close : (u v : List ℕ) → twice u ≡ false → before (45 ∷ 45 ∷ 62 ∷ []) (u ++ 45 ∷ 45 ∷ 62 ∷ v) ≡ length u
unfolding contains starts before
first_close [] v h = refl
first_close (b ∷ []) v h = go (eqb b 45)
  where
    go : (t : Bool) → ◌≡◌ {A = ℕ} (pick (t && false) 0 1) 1
    go true = refl
    go false = refl
first_close (b ∷ d ∷ u) v h = go (eqb b 45) (eqb d 45) (or_false_left (eqb b 45 && (eqb d 45 && true)) (twice (d ∷ u)) h) (first_close (d ∷ u) v (or_false_right (eqb b 45 && (eqb d 45 && true)) (twice (d ∷ u)) h))
  where
    go : (s t : Bool) → (s && (t && true)) ≡ false → before (45 ∷ 45 ∷ 62 ∷ []) (d ∷ (u ++ 45 ∷ 45 ∷ 62 ∷ v)) ≡ suc (length u)
        → pick (s && (t && starts (62 ∷ []) (u ++ 45 ∷ 45 ∷ 62 ∷ v))) 0 (suc (before (45 ∷ 45 ∷ 62 ∷ []) (d ∷ (u ++ 45 ∷ 45 ∷ 62 ∷ v)))) ≡ suc (suc (length u))
    go true true e f = absurd (true≢false e)
    go true false e f = ap suc f
    go false t e f = ap suc f

pub comment_reads : Reads parse_comment Comment (Next any) (first_of "<")
unfolding parse_comment Comment check_comment choose nothing Text
comment_reads =
    as_lang (cat₂ assoc)
    (seq (wd "<!--" unexpected tt) sub_any
    (up_to_reads "-->" unterminated check_comment Unhyphened 45 (45 ∷ 62 ∷ []) refl tt
    (λ u v j tu h e. unhyphened false tu (unless_refuses_at "--" double_hyphen (twice u) nothing u j e).0)
    (λ u x. (0, rw (none u x)))
    (λ u v x. first_close u v (none u x))))
  where
    none : (u : List ℕ) → Unhyphened u → twice u ≡ false
    none u x = ap twice x.split ∙ no_twice x.right x.first x.second

-- a comment is its text between "<!--" and "-->", and no two hyphens stand in a row in that text
pub record Shaped (x : List ℕ) : Type 0 where
  pub text : List ℕ
  pub is : x ≡ ascii "<!--" ++ (text ++ ascii "-->")
  pub single : twice text ≡ false

pub shape : (x : List ℕ) → Comment x → Shaped x
unfolding Comment
shape x c =
    let d : (Opt (lit "-") · lit "-->") c.second.right = c.second.second in
    record {
      text = c.second.left ++ d.left;
      is = c.split ∙ (λ i. c.first i ++ (c.second.split ∙ ap (λ (z : List ℕ). c.second.left ++ z) (d.split ∙ ap (λ (z : List ℕ). d.left ++ z) d.second) ∙ sym (append_assoc c.second.left d.left (ascii "-->"))) i);
      single = no_twice d.left c.second.first d.first;
    }

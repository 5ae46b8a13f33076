-- Words of ASCII signs: where they stand, where they can't, and the reader of one. Assumes nothing.
use mathlib.Core.Bool.{Bool, true, false, ◌&&◌, ◌||◌, not, true≢false}
use mathlib.Core.List.{List, [], ◌∷◌, ◌++◌, append_assoc}
use mathlib.Core.Path.{◌≡◌, refl, sym, ◌∙◌, ap, subst}
use Prim.Native.Nat.{ℕ, suc, ◌≤◌, ◌<◌, ◌+◌}
use Prim.Native.String.{String}
use native.Mathlib.Omega.{arith}
use lib.Dec.{T, ltb, eqb, eqb_refl}
use lib.ListN.{length, take}
use Rattle.spec.specs.Basics.{pick}
use Rattle.spec.specs.Grammar.Characters.{Text}
use Rattle.spec.specs.Grammar.Languages.{Lang, lit, ascii, ◌·◌, any}
use Rattle.spec.specs.Reading.Readers.{word_of, ok, err, starts, word, contains, before}
use Rattle.spec.specs.Reading.Refusals.{Refusal}
use Rattle.spec.proofs.Agreement.Reads.{Took, Leads, Reads, Next}
use Rattle.spec.proofs.Agreement.Signs.{kind, Class, kind_ascii}
use Rattle.spec.proofs.Base.Results.{ok_inj, else_refused}
use Rattle.spec.proofs.Base.Tests.{T→true, leb_true, eqb-true, and_left, and_right}
use Rattle.spec.proofs.Characters.Text.{text_rest, all_ascii, ascii_text}

-- a word is there, by what follows
pub starts_self : (s v : List ℕ) → starts s (s ++ v) ≡ true
unfolding starts
starts_self [] v = refl
starts_self (b ∷ bs) v = rw (T→true (eqb b b) (eqb_refl b)) (starts_self bs v)

-- the bytes s never begin what consists of u and then a sign of p: computed
abbrev pub clash : List ℕ → List ℕ → Class → Bool
clash [] u p = false
clash (a ∷ s) [] p = not (p a) && ltb a 128
clash (a ∷ s) (b ∷ u) p = pick (eqb b a) (clash s u p) true

and-false : (a b : Bool) → (a ≡ true → b ≡ false) → (a && b) ≡ false
and-false true b f = f refl
and-false false b f = refl

pub starts_clash : (s u : List ℕ) (p : Class) (v : List ℕ) → T (clash s u p) → T (p (kind v)) → starts s (u ++ v) ≡ false
unfolding starts kind
starts_clash [] u p v c h = absurd c
starts_clash (a ∷ s) [] p [] c h = refl
starts_clash (a ∷ s) [] p (b ∷ v) c h = and-false (eqb b a) (starts s v) (λ e. absurd (bad (eqb-true b a e)))
  where
    bad : b ≡ a → ⊥
    bad e =
        let small : a < 128 = leb_true (suc a) 128 (and_right (not (p a)) (ltb a 128) (T→true (not (p a) && ltb a 128) c)) in
        let x : T (p a) = subst (λ (k : ℕ). T (p k)) (ap (λ (z : ℕ). kind (z ∷ v)) e ∙ kind_ascii a v small) h in
        let y : not (p a) ≡ true = and_left (not (p a)) (ltb a 128) (T→true (not (p a) && ltb a 128) c) in
        let z : not true ≡ true = ap not (sym (T→true (p a) x)) ∙ y in
        true≢false (sym z)
starts_clash (a ∷ s) (b ∷ u) p v c h = go (eqb b a) c (λ d. starts_clash s u p v d h)
  where
    go : (t : Bool) → T (pick t (clash s u p) true) → (T (clash s u p) → starts s (u ++ v) ≡ false) → (t && starts s (u ++ v)) ≡ false
    go true d f = f d
    go false d f = refl

-- L stands where its sign says, and s does not begin there
pub starts_other : (a : ℕ) (s : List ℕ) {L F : Lang} (f : Class) → T (not (f a) && ltb a 128) → Leads L F f → (u v : List ℕ) → L u → F v → starts (a ∷ s) (u ++ v) ≡ false
starts_other a s f c ll u v l h = starts_clash (a ∷ s) [] f (u ++ v) c (ll u v l h)

-- a word
abbrev pub plain : List ℕ → Bool
plain [] = false
plain (b ∷ bs) = all_ascii (b ∷ bs)

abbrev pub is_head : List ℕ → Class
is_head [] k = false
is_head (b ∷ bs) k = eqb k b

abbrev pub first_of : String → Class
first_of s = is_head (ascii s)

leads_lit : (x v : List ℕ) → T (plain x) → T (is_head x (kind (x ++ v)))
leads_lit [] v h = h
leads_lit (b ∷ bs) v h = rw (kind_ascii b (bs ++ v) (leb_true (suc b) 128 (and_left (ltb b 128) (all_ascii bs) (T→true (all_ascii (b ∷ bs)) h)))) (eqb_refl b)

-- the sign that stands first, as a word
pub starts_sign : (a : ℕ) (w : List ℕ) → a < 128 → T (eqb (kind w) a) → starts (a ∷ []) w ≡ true
unfolding starts kind
starts_sign a [] l t = let e : 129 ≡ a = eqb-true 129 a (T→true (eqb 129 a) t) in absurd (omega arith)
starts_sign a (b ∷ w) l t = go (ltb b 128) refl t
  where
    go : (x : Bool) → ltb b 128 ≡ x → T (eqb (pick x b 128) a) → (eqb b a && true) ≡ true
    go true e h = rw (T→true (eqb b a) h)
    go false e h = let f : 128 ≡ a = eqb-true 128 a (T→true (eqb 128 a) h) in absurd (omega arith)

-- where a word stands, none stands that begins with another sign
pub starts_apart : (a b : ℕ) (s t w : List ℕ) → eqb a b ≡ false → starts (a ∷ s) w ≡ true → starts (b ∷ t) w ≡ false
unfolding starts
starts_apart a b s t [] n e = refl
starts_apart a b s t (c ∷ w) n e = rw (ap (λ (z : ℕ). eqb z b) (eqb-true c a (and_left (eqb c a) (starts s w) e)) ∙ n)

pub starts_split : (s w : List ℕ) → starts s w ≡ true → (v : List ℕ) × (w ≡ s ++ v)
unfolding starts
starts_split [] w e = (w, refl)
starts_split (a ∷ s) [] e = absurd (true≢false (sym e))
starts_split (a ∷ s) (b ∷ w) e =
    let (v, f) = starts_split s w (and_right (eqb b a) (starts s w) e) in
    (v, (λ i. eqb-true b a (and_left (eqb b a) (starts s w) e) i ∷ f i))

pub wd : (s : String) (n : Refusal) → T (plain (ascii s)) → Reads (word s n) (lit s) (Next any) (first_of s)
unfolding word_of
wd s n h = record { sound = sound_by; complete = complete_by; leads = λ u v e t. subst (λ (x : List ℕ). T (first_of s (kind (x ++ v)))) (sym e) (leads_lit (ascii s) v h) }
  where
    is_ascii : (x : List ℕ) → T (plain x) → T (all_ascii x)
    is_ascii [] t = absurd t
    is_ascii (b ∷ bs) t = t

    sound_by : (w : List ℕ) (k : ℕ) → Text w → pick (starts (ascii s) w) (ok (length (ascii s))) (err n 0) ≡ ok k → Took (lit s) k w
    sound_by w k tw e =
        let (f, m) = else_refused n 0 (starts (ascii s) w) (ok (length (ascii s))) k e in
        let (v, g) = starts_split (ascii s) w f in
        record { taken = ascii s; rest = v; split = g; size = ok_inj (length (ascii s)) k m; holds = refl; left = text_rest v (ascii_text (ascii s) (is_ascii (ascii s) h)) (subst Text g tw) }

    complete_by : (u v : List ℕ) → lit s u → Next any v → pick (starts (ascii s) (u ++ v)) (ok (length (ascii s))) (err n 0) ≡ ok (length u)
    complete_by u v e t = rw (e, starts_self (ascii s) v)

-- the first place of a word
pub found : (p w : List ℕ) → contains p w ≡ true → (v : List ℕ) × (w ≡ take (before p w) w ++ (p ++ v))
unfolding contains before
found p [] e = absurd (true≢false (sym e))
found p (b ∷ w) e = go (starts p (b ∷ w)) refl e (found p w)
  where
    go : (t : Bool) → starts p (b ∷ w) ≡ t → (t || contains p w) ≡ true → (contains p w ≡ true → (v : List ℕ) × (w ≡ take (before p w) w ++ (p ++ v)))
        → (v : List ℕ) × (b ∷ w ≡ take (pick t 0 (suc (before p w))) (b ∷ w) ++ (p ++ v))
    go true f g ih = starts_split p (b ∷ w) f
    go false f g ih = let (v, h) = ih g in (v, ap (λ (x : List ℕ). b ∷ x) h)

pub before_le : (p w : List ℕ) → before p w ≤ length w
unfolding before
before_le p [] = omega arith
before_le p (b ∷ w) = go (starts p (b ∷ w)) (before_le p w)
  where
    go : (t : Bool) → before p w ≤ length w → pick t 0 (suc (before p w)) ≤ suc (length w)
    go true h = omega arith
    go false h = omega arith

-- a word stands in the text, wherever it stands
pub starts_within : (p w : List ℕ) → starts p w ≡ true → length p ≤ length w
unfolding starts
starts_within [] w e = omega arith
starts_within (a ∷ p) [] e = absurd (true≢false (sym e))
starts_within (a ∷ p) (b ∷ w) e = let h = starts_within p w (and_right (eqb b a) (starts p w) e) in omega arith

pub before_within : (p w : List ℕ) → contains p w ≡ true → before p w + length p ≤ length w
unfolding contains before
before_within p [] e = absurd (true≢false (sym e))
before_within p (b ∷ w) e = go (starts p (b ∷ w)) refl e (before_within p w)
  where
    go : (t : Bool) → starts p (b ∷ w) ≡ t → (t || contains p w) ≡ true → (contains p w ≡ true → before p w + length p ≤ length w) → pick t 0 (suc (before p w)) + length p ≤ suc (length w)
    go true f g ih = let h : length p ≤ suc (length w) = starts_within p (b ∷ w) f in omega arith
    go false f g ih = let h = ih g in omega arith

pub contains_at : (a : ℕ) (p u v : List ℕ) → contains (a ∷ p) (u ++ ((a ∷ p) ++ v)) ≡ true
unfolding contains
contains_at a p [] v = rw (starts_self (a ∷ p) v)
contains_at a p (b ∷ u) v = go (starts (a ∷ p) (b ∷ (u ++ ((a ∷ p) ++ v)))) (contains_at a p u v)
  where
    go : (t : Bool) → contains (a ∷ p) (u ++ ((a ∷ p) ++ v)) ≡ true → (t || contains (a ∷ p) (u ++ ((a ∷ p) ++ v))) ≡ true
    go true e = refl
    go false e = e

-- a word stands where it begins a production
pub starts_lit : (s : String) {M : Lang} {u : List ℕ} (v : List ℕ) → (lit s · M) u → starts (ascii s) (u ++ v) ≡ true
starts_lit s {M} {u} v l = rw (l.split, l.first, append_assoc (ascii s) l.right v) (starts_self (ascii s) (l.right ++ v))

pub starts_lit₂ : (s : String) {M K : Lang} (u v : List ℕ) → ((lit s · M) · K) u → starts (ascii s) (u ++ v) ≡ true
starts_lit₂ s u v l = rw (l.split, append_assoc l.left l.right v) (starts_lit s (l.right ++ v) l.first)

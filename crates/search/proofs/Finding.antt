-- Laws of the first place of a word. Assumes nothing.
use mathlib.Core.Path.{◌≡◌, refl, sym, ap, ◌∙◌}
use mathlib.Core.Bool.{Bool, true, false, ◌&&◌, ◌||◌, not, true≢false}
use mathlib.Core.List.{List, [], ◌∷◌}
use Prim.Native.Nat.{ℕ, suc, ◌+◌, ◌-◌, ◌^◌, ◌<◌, ◌≤◌}
use native.Mathlib.Nat.{add-zero}
use native.Mathlib.Omega.{arith}
use borrow.Author.Rules.{rules}
use borrow.Author.Tests.{eq-eqb, ne_eqb}
use mir.Syntax.{w64}
use mir.Val.{Fits}
use lib.Dec.{eqb}
use lib.ListN.{length, get_or, take, drop, length-drop}
use lib.Seq.{drop-drop}
use Rattle.std.specs.Prelude.{Option, Some, None}
use Rattle.std.specs.Option.{is_some}
use Rattle.spec.specs.Basics.{pick}
use Rattle.spec.specs.Reading.Places.{Place, at, nowhere}
use Rattle.spec.specs.Reading.Readers.{run, starts, contains, before}
use Rattle.spec.proofs.Agreement.Words.{before_within}
use Rattle.spec.proofs.Base.Places.{drop_at, drop_end, take_rest}
use Rattle.search.specs.Runs.{away, Skipped}
use Rattle.search.specs.FirstPlace.{first_place, only}
use Rattle.search.specs.Places.{found}

-- a word stands only where something is left
contains_some : (kw w : List ℕ) → contains kw w ≡ true → 0 < length w
unfolding contains
contains_some kw [] e = absurd (true≢false (sym e))
contains_some kw (b ∷ w) e = omega arith

-- the first place in w, where i is the place of w
abbrev first_in : List ℕ → List ℕ → ℕ → Place
first_in kw w i = pick (contains kw w) (at (i + before kw w)) nowhere

first_step : (kw : List ℕ) (b : ℕ) (w : List ℕ) (i : ℕ) → starts kw (b ∷ w) ≡ false → first_in kw (b ∷ w) i ≡ first_in kw w (i + 1)
unfolding contains before
first_step kw b w i e = rw e (go (contains kw w))
  where
    go : (c : Bool) → pick c (at (i + suc (before kw w))) nowhere ≡ pick c (at (i + 1 + before kw w)) nowhere
    go true = ap at (let z : i + suc (before kw w) ≡ i + 1 + before kw w = omega arith in z)
    go false = refl

-- bytes that a word does not begin with do not hold its first place
first_run : (a : ℕ) (kw w : List ℕ) (i : ℕ) → first_in (a ∷ kw) w i ≡ first_in (a ∷ kw) (drop (away (only a) w) w) (i + away (only a) w)
unfolding away run
first_run a kw [] i = unfold contains in refl
first_run a kw (b ∷ w) i = go (eqb b a) refl (run (λ c. not (eqb c a)) w) (first_run a kw w (i + 1))
  where
    go : (t : Bool) → eqb b a ≡ t → (n : ℕ) → first_in (a ∷ kw) w (i + 1) ≡ first_in (a ∷ kw) (drop n w) (i + 1 + n)
        → first_in (a ∷ kw) (b ∷ w) i ≡ first_in (a ∷ kw) (drop (pick (not t) (suc n) 0) (b ∷ w)) (i + pick (not t) (suc n) 0)
    go true e n ih = ap (first_in (a ∷ kw) (b ∷ w)) (let z : i ≡ i + 0 = omega arith in z)
    go false e n ih = first_step (a ∷ kw) b w i (unfold starts in rw e) ∙ ih ∙ ap (first_in (a ∷ kw) (drop n w)) (let z : i + 1 + n ≡ i + suc n = omega arith in z)

-- so a search may pass some of them
first_far : (a : ℕ) (kw s : List ℕ) (i : ℕ) → first_place (a ∷ kw) s i ≡ first_place (a ∷ kw) s (i + away (only a) (drop i s))
unfolding first_place
first_far a kw s i = first_run a kw (drop i s) i ∙ ap (λ (w : List ℕ). first_in (a ∷ kw) w (i + away (only a) (drop i s))) (drop-drop (away (only a) (drop i s)) i s)

pub byte_far : (a : ℕ) (s : List ℕ) (i r : ℕ) → Skipped (only a) s i r → first_place (a ∷ []) s r ≡ first_place (a ∷ []) s i
byte_far a s i r k = first_far a [] s r ∙ ap (first_place (a ∷ []) s) k.ends ∙ sym (first_far a [] s i)

-- where a byte first stands, a word first stands that begins with it, or further on
byte_first : (a : ℕ) (w : List ℕ) → before (a ∷ []) w ≡ away (only a) w
unfolding before starts away run
byte_first a [] = refl
byte_first a (b ∷ w) = go (eqb b a) (byte_first a w)
  where
    go : (t : Bool) → before (a ∷ []) w ≡ run (λ c. not (eqb c a)) w → pick (t && true) 0 (suc (before (a ∷ []) w)) ≡ pick (not t) (suc (run (λ c. not (eqb c a)) w)) 0
    go true ih = refl
    go false ih = ap suc ih

byte_nowhere : (a : ℕ) (kw w : List ℕ) → contains (a ∷ []) w ≡ false → contains (a ∷ kw) w ≡ false
unfolding contains starts
byte_nowhere a kw [] e = refl
byte_nowhere a kw (b ∷ w) e = go (eqb b a) e (byte_nowhere a kw w)
  where
    go : (t : Bool) → (t && true) || contains (a ∷ []) w ≡ false → (contains (a ∷ []) w ≡ false → contains (a ∷ kw) w ≡ false) → (t && starts kw w) || contains (a ∷ kw) w ≡ false
    go true e ih = absurd (true≢false e)
    go false e ih = ih e

-- only the empty word stands everywhere
some_byte : (kw w : List ℕ) → starts kw w ≡ false → (k : List ℕ) × (kw ≡ get_or kw 0 0 ∷ k)
unfolding starts
some_byte [] w e = absurd (true≢false e)
some_byte (c ∷ kw) w e = (kw, refl)

-- so a word that does not stand at a place has a first byte
pub first_within : (kw w : List ℕ) (t : Bool) → t ≡ starts kw w → t ≡ false → 0 < length kw
first_within kw w t e f = let (k, l) = some_byte kw w (sym e ∙ f) in let z = ap length l in omega arith

-- The loop of find. The invariant: the first place from i on is the first place W.
module _ (kw s : List ℕ) (i : ℕ) (W : Place) (inv : first_place kw s i ≡ W) where
  pub find_end : length s ≤ i → found None ≡ W
  unfolding found first_place contains
  find_end h = rw (drop_end s i h) at inv

  module _ (h : i < length s) where
    module _ (t : Bool) (e : t ≡ starts kw (drop i s)) where
      front : (b : Bool) → t ≡ b → starts kw (get_or s i 0 ∷ drop (i + 1) s) ≡ b
      front b f = ap (starts kw) (sym (drop_at s i h)) ∙ sym e ∙ f

      pub find_here : t ≡ true → found (Some i) ≡ W
      unfolding found first_place contains before
      find_here f = (rw add-zero) ∙ (rw (drop_at s i h, front true f) at inv)

      pub find_not : t ≡ false → first_place kw s (i + 1) ≡ W
      unfolding first_place
      find_not f = sym (first_step kw (get_or s i 0) (drop (i + 1) s) i (front false f)) ∙ (rw (drop_at s i h) at inv)

-- The loop of find_byte, where the word is one byte.
module _ (q : ℕ) (s : List ℕ) (i : ℕ) (W : Place) (inv : first_place (q ∷ []) s i ≡ W) (h : i < length s) where
  pub byte_here : get_or s i 0 ≡ q → found (Some i) ≡ W
  byte_here e = find_here (q ∷ []) s i W inv h true (unfold starts in rw (drop_at s i h, eq-eqb (get_or s i 0) q e)) refl

  pub byte_not : (get_or s i 0 ≡ q → ⊥) → first_place (q ∷ []) s (i + 1) ≡ W
  byte_not n = find_not (q ∷ []) s i W inv h false (unfold starts in rw (drop_at s i h, ne_eqb (get_or s i 0) q n)) refl

-- a word stands at its first place
pub starts_first : (kw w : List ℕ) → contains kw w ≡ true → starts kw (drop (before kw w) w) ≡ true
unfolding contains before
starts_first kw [] c = absurd (true≢false (sym c))
starts_first kw (b ∷ w) c = go (starts kw (b ∷ w)) refl c (starts_first kw w)
  where
    go : (t : Bool) → starts kw (b ∷ w) ≡ t → t || contains kw w ≡ true → (contains kw w ≡ true → starts kw (drop (before kw w) w) ≡ true) → starts kw (drop (pick t 0 (suc (before kw w))) (b ∷ w)) ≡ true
    go true e c ih = e
    go false e c ih = ih c

-- What find answered: r.
module _ (kw s : List ℕ) (from : ℕ) (r : Option ℕ) (a : found r ≡ first_place kw s from) where
  pub was_nowhere : r ≡ None → contains kw (drop from s) ≡ false
  unfolding found first_place
  was_nowhere b = go (contains kw (drop from s)) (ap found (sym b) ∙ a)
    where
      go : (t : Bool) → nowhere ≡ pick t (at (from + before kw (drop from s))) nowhere → t ≡ false
      go true e = let z : ◌≡◌ {A = ℕ} 0 1 = cc in absurd (omega arith)
      go false e = refl

  module _ (j : ℕ) (b : r ≡ Some j) where
    pub was_here : (contains kw (drop from s) ≡ true) × (j ≡ from + before kw (drop from s))
    unfolding found first_place
    was_here = go (contains kw (drop from s)) (ap found (sym b) ∙ a)
      where
        go : (t : Bool) → at j ≡ pick t (at (from + before kw (drop from s))) nowhere → (t ≡ true) × (j ≡ from + before kw (drop from s))
        go true e = (refl, cc)
        go false e = let z : ◌≡◌ {A = ℕ} 0 1 = cc in absurd (omega arith)

    -- the word lies within the text, at `from` or further on
    lies : (from ≤ j) × (j + length kw ≤ length s)
    lies = let (c, e) = was_here in (omega arith, omega (arith, length-drop from s, contains_some kw (drop from s) c, before_within kw (drop from s) c))

    pub here_onward : from ≤ j
    here_onward = lies.0

    pub here_within : j ≤ length s
    here_within = omega (arith, lies)

    pub here_fits : (n : ℕ) → n ≡ length kw → length s < 2 ^ 64 → Fits w64 (j + n)
    here_fits n l h = omega (arith, lies)

-- What find_byte answered of the rest of a text: r.
module _ (kw s : List ℕ) (from : ℕ) (r : Option ℕ) (a : found r ≡ first_place kw (take (length s - from) (drop from s)) 0) where
  in_rest : found r ≡ pick (contains kw (drop from s)) (at (0 + before kw (drop from s))) nowhere
  unfolding first_place
  in_rest = a ∙ (rw take_rest)

  pub rest_nowhere : r ≡ None → found None ≡ first_place kw s from
  unfolding found first_place
  rest_nowhere b = rw (was_nowhere kw (drop from s) 0 r (unfold first_place in in_rest) b)

  pub rest_here : (j : ℕ) → r ≡ Some j → found (Some (from + j)) ≡ first_place kw s from
  unfolding found first_place
  rest_here j b = let (c, e) = was_here kw (drop from s) 0 r (unfold first_place in in_rest) j b in ap at (let z : from + j ≡ from + before kw (drop from s) = omega arith in z) ∙ (rw c)

  pub rest_fits : (j : ℕ) → r ≡ Some j → length s < 2 ^ 64 → from ≤ length s → Fits w64 (from + j)
  rest_fits j b h k = omega (arith, here_within kw (drop from s) 0 r (unfold first_place in in_rest) j b, length-drop from s)

pub rest_past : (a : ℕ) (kw s : List ℕ) (from : ℕ) → length s ≤ from → found None ≡ first_place (a ∷ kw) s from
unfolding found first_place contains
rest_past a kw s from h = rw (drop_end s from h)

-- The word does not stand at i, as t says, and r is where its first byte stands next.
module _ (kw s : List ℕ) (i : ℕ) (W : Place) (inv : first_place kw s i ≡ W) (h : i < length s) (t : Bool) (e : t ≡ starts kw (drop i s)) (f : t ≡ false) (a : ℕ) (g : a ≡ get_or kw 0 0) (r : Option ℕ) (b : found r ≡ first_place (a ∷ []) s (i + 1)) where
  on : first_place kw s (i + 1) ≡ W
  on = find_not kw s i W inv h t e f

  spelled : (k : List ℕ) × (kw ≡ a ∷ k)
  spelled = let (k, l) = some_byte kw (drop i s) (sym e ∙ f) in (k, l ∙ ap (λ (x : ℕ). x ∷ k) (sym g))

  pub find_none : r ≡ None → found None ≡ W
  unfolding found first_place
  find_none d = let (k, l) = spelled in rw (l, byte_nowhere a k (drop (i + 1) s) (was_nowhere (a ∷ []) s (i + 1) r b d)) at on

  pub find_next : (j : ℕ) → r ≡ Some j → first_place kw s j ≡ W
  find_next j d =
      let (k, l) = spelled in
      let (c, m) = was_here (a ∷ []) s (i + 1) r b j d in
      ap (λ (x : List ℕ). first_place x s j) l ∙ ap (first_place (a ∷ k) s) (m ∙ ap (λ (x : ℕ). i + 1 + x) (byte_first a (drop (i + 1) s)))
      ∙ sym (first_far a k s (i + 1)) ∙ ap (λ (x : List ℕ). first_place x s (i + 1)) (sym l) ∙ on

pub next_less : (a : ℕ) (s : List ℕ) (i j : ℕ) (r : Option ℕ) → i < length s → found r ≡ first_place (a ∷ []) s (i + 1) → r ≡ Some j → length s - j < length s - i
next_less a s i j r h b d = omega (arith, here_onward (a ∷ []) s (i + 1) r b j d)

-- whether a word stands anywhere
module _ (kw w : List ℕ) (r : Option ℕ) (a : found r ≡ first_place kw w 0) where
  pub has : (b : Bool) → b ≡ is_some r → b ≡ contains kw w
  has b e = e ∙ go r refl
    where
      go : (o : Option ℕ) → r ≡ o → is_some o ≡ contains kw w
      go (Some j) f = sym (was_here kw w 0 r a j f).0
      go None f = sym (was_nowhere kw w 0 r a f)

-- what find and has search, and what code that finds a word searches of its place
pub ruleset finding = (first_within, find_end, find_here, find_not, find_none, find_next, next_less, byte_far, byte_here, byte_not, rules)

pub ruleset places_found = (here_onward, here_within, here_fits)

-- and what a search in the rest of a text searches
pub ruleset rests = (rest_past, rest_nowhere, rest_here, rest_fits, rules)

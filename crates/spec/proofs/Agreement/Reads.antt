-- A reader reads a language: what it takes belongs to the language, and it takes each text of the language whole wherever
-- what stands after it begins with a sign of a given class. The laws of chains and choices. Assumes nothing.
use mathlib.Core.Bool.{Bool, true, false}
use mathlib.Core.List.{List, ◌++◌, append_assoc, []}
use mathlib.Core.Path.{◌≡◌, refl, sym, ◌∙◌, ap, subst}
use Prim.Native.Nat.{ℕ, ◌+◌}
use lib.Dec.{T}
use lib.ListN.{length, drop, length-append}
use lib.Seq.{drop-append_seam, drop_at}
use Rattle.spec.specs.Basics.{pick}
use Rattle.spec.specs.Grammar.Characters.{Text}
use Rattle.spec.specs.Grammar.Languages.{Lang, ◌·◌, ◌∣◌, inl, inr}
use Rattle.spec.specs.Reading.Readers.{ok, Reader, as_one, ◌>>◌, choose}
use Rattle.spec.proofs.Agreement.Signs.{kind, Class, Sub, sub_at, ◌∪◌, in_left, in_right}
use Rattle.spec.proofs.Base.Results.{then_ok, by_reader, one_ok, ok_one}

-- what a reader took, and what is left
pub record Took (L : Lang) (k : ℕ) (w : List ℕ) : Type 0 where
  pub taken : List ℕ
  pub rest : List ℕ
  pub split : w ≡ taken ++ rest
  pub size : length taken ≡ k
  pub holds : L taken
  pub left : Text rest

abbrev pub Sound : Reader → Lang → Type 0
Sound r L = (w : List ℕ) (k : ℕ) → Text w → r w ≡ ok k → Took L k w

-- F: what may stand after the text; f: the signs that the text, and what follows it, may begin with
abbrev pub Complete : Reader → Lang → Lang → Type 0
Complete r L F = (u v : List ℕ) → L u → F v → r (u ++ v) ≡ ok (length u)

abbrev pub Leads : Lang → Lang → Class → Type 0
Leads L F f = (u v : List ℕ) → L u → F v → T (f (kind (u ++ v)))

-- r reads L wherever F follows
pub record Reads (r : Reader) (L F : Lang) (f : Class) : Type 0 where
  pub sound : Sound r L
  pub complete : Complete r L F
  pub leads : Leads L F f

-- a sign of the class follows
pub record Next (p : Class) (v : List ℕ) : Type 0 where
  pub it : T (p (kind v))

pub next : {p q : Class} → Sub p q → {v : List ℕ} → Next p v → Next q v
next {p} {q} s {v} n = record { it = sub_at p q s v n.it }

-- after what was taken, what is left
pub drop_took : {L : Lang} {k : ℕ} {w : List ℕ} (t : Took L k w) → drop k w ≡ t.rest
drop_took {k = k} {w = w} t = ap (drop k) t.split ∙ drop_at t.taken t.rest k t.size

-- the same part as a text of another language, and by another name of its length
pub took_as : {L M : Lang} {j k : ℕ} {w : List ℕ} → ((u : List ℕ) → L u → M u) → j ≡ k → Took L j w → Took M k w
took_as f e t = record { taken = t.taken; rest = t.rest; split = t.split; size = t.size ∙ e; holds = f t.taken t.holds; left = t.left }

-- nothing is taken
pub took_none : {L : Lang} {k : ℕ} {w : List ℕ} → 0 ≡ k → Text w → L [] → Took L k w
took_none {w = w} e tw l = record { taken = []; rest = w; split = refl; size = e; holds = l; left = tw }

-- a part, and the part after it
pub took_then : {L M : Lang} {k j n : ℕ} {w : List ℕ} (t : Took L k w) → Took M j t.rest → k + j ≡ n → Took (L · M) n w
took_then t t₂ l = record {
  taken = t.taken ++ t₂.taken;
  rest = t₂.rest;
  split = t.split ∙ ap (λ (x : List ℕ). t.taken ++ x) t₂.split ∙ sym (append_assoc t.taken t₂.taken t₂.rest);
  size = length-append t.taken t₂.taken ∙ (λ i. t.size i + t₂.size i) ∙ l;
  holds = record { left = t.taken; right = t₂.taken; split = refl; first = t.holds; second = t₂.holds };
  left = t₂.left;
}

-- one after the other, where the second may use how the first ended
pub sound_after : (P : List ℕ → Type 0) (r s : Reader) (L M : Lang) → Sound r L → ((w : List ℕ) (k : ℕ) → r w ≡ ok k → P (drop k w)) → ((w : List ℕ) (k : ℕ) → P w → Text w → s w ≡ ok k → Took M k w) → Sound (r >> s) (L · M)
sound_after P r s L M sr ended ss w n tw e =
    let (k, j, f, g, l) = then_ok r s w n e in
    let t : Took L k w = sr w k tw f in
    took_then t (ss t.rest j (subst P (drop_took t) (ended w k f)) t.left (ap s (sym (drop_took t)) ∙ g)) l

pub sound_seq : (r s : Reader) (L M : Lang) → Sound r L → Sound s M → Sound (r >> s) (L · M)
sound_seq r s L M sr ss = sound_after (λ w. T true) r s L M sr (λ w k e. tt) (λ w k p tw e. ss w k tw e)

pub complete_seq : (r s : Reader) (L M G F : Lang) → Complete r L G → Complete s M F → ((u v : List ℕ) → M u → F v → G (u ++ v)) → Complete (r >> s) (L · M) F
unfolding ◌>>◌
complete_seq r s L M G F cr cs meet u v lm t =
    let x : List ℕ = lm.left in
    let y : List ℕ = lm.right in
    let e : u ++ v ≡ x ++ (y ++ v) = ap (λ (z : List ℕ). z ++ v) lm.split ∙ append_assoc x y v in
    let a : r (x ++ (y ++ v)) ≡ ok (length x) = cr x (y ++ v) lm.first (meet y v lm.second t) in
    let b : s (y ++ v) ≡ ok (length y) = cs y v lm.second t in
    rw (e, a, drop-append_seam x (y ++ v), b) (ap ok (sym (ap length lm.split ∙ length-append x y)))

leads_seq : (L M G F : Lang) (f : Class) → Leads L G f → ((u v : List ℕ) → M u → F v → G (u ++ v)) → Leads (L · M) F f
leads_seq L M G F f ll meet u v lm t =
    let x : List ℕ = lm.left in
    let y : List ℕ = lm.right in
    rw (lm.split, append_assoc x y v) (ll x (y ++ v) lm.first (meet y v lm.second t))

-- where what M and F make together is what may follow L
pub seq_by : {r s : Reader} {L M G F : Lang} {f g : Class} → Reads r L G f → ((u v : List ℕ) → M u → F v → G (u ++ v)) → Reads s M F g → Reads (r >> s) (L · M) F f
seq_by {r} {s} {L} {M} {G} {F} {f} {g} a meet b = record {
  sound = sound_seq r s L M a.sound b.sound;
  complete = complete_seq r s L M G F a.complete b.complete meet;
  leads = leads_seq L M G F f a.leads meet;
}

-- where the signs that M begins with may follow L
pub seq : {r s : Reader} {L M F : Lang} {q f g : Class} → Reads r L (Next q) f → Sub g q → Reads s M F g → Reads (r >> s) (L · M) F f
seq a h b = seq_by a (λ u v m t. next h (record { it = b.leads u v m t })) b

-- a smaller class of followers, a larger class of first signs
pub weaken_by : {r : Reader} {L F G : Lang} {f g : Class} → ((v : List ℕ) → F v → G v) → Sub f g → Reads r L G f → Reads r L F g
weaken_by {f = f} {g = g} h i a = record {
  sound = a.sound;
  complete = λ u v l t. a.complete u v l (h v t);
  leads = λ u v l t. sub_at f g i (u ++ v) (a.leads u v l (h v t));
}

pub weaken : {r : Reader} {L : Lang} {p q f g : Class} → Sub p q → Sub f g → Reads r L (Next q) f → Reads r L (Next p) g
weaken h i a = weaken_by (λ v t. next h t) i a

-- the same language, written otherwise
infix 40 ◌≅◌
pub record ◌≅◌ (L M : Lang) : Type 0 where
  pub to : (w : List ℕ) → L w → M w
  pub from : (w : List ℕ) → M w → L w

pub as_lang : {r : Reader} {L M F : Lang} {f : Class} → L ≅ M → Reads r L F f → Reads r M F f
as_lang i a = record {
  sound = λ w k tw e. took_as i.to refl (a.sound w k tw e);
  complete = λ u v m t. a.complete u v (i.from u m) t;
  leads = λ u v m t. a.leads u v (i.from u m) t;
}

-- the same reader, where only the place of a refusal is another
pub reads_one : {r : Reader} {L F : Lang} {f : Class} → Reads r L F f → Reads (as_one r) L F f
reads_one {r} a = record {
  sound = λ w k tw e. a.sound w k tw (one_ok r w k e);
  complete = λ u v l t. ok_one r (u ++ v) (length u) (a.complete u v l t);
  leads = a.leads;
}

-- a choice by a test
pub sound_choose : {r s : Reader} {L M : Lang} (t : List ℕ → Bool) → Sound r L → Sound s M → Sound (choose t r s) (L ∣ M)
unfolding choose
sound_choose {r} {s} t a b w k tw =
    by_reader (t w) r s w (ok k) (λ _ e. took_as (λ u l. inl l) refl (a w k tw e)) (λ _ e. took_as (λ u m. inr m) refl (b w k tw e))

-- a test that settles which of two readers it is
pub alt : {r s : Reader} {L M F : Lang} {f g : Class} (t : List ℕ → Bool)
    → ((u v : List ℕ) → L u → F v → t (u ++ v) ≡ true) → ((u v : List ℕ) → M u → F v → t (u ++ v) ≡ false)
    → Reads r L F f → Reads s M F g → Reads (choose t r s) (L ∣ M) F (f ∪ g)
unfolding choose
alt {r} {s} {L} {M} {F} {f} {g} t yes_l no_m a b = record { sound = sound_choose t a.sound b.sound; complete = complete_by; leads = leads_by }
  where
    complete_by : (u v : List ℕ) → (L ∣ M) u → F v → pick (t (u ++ v)) r s (u ++ v) ≡ ok (length u)
    complete_by u v (inl l) h = rw (yes_l u v l h) (a.complete u v l h)
    complete_by u v (inr m) h = rw (no_m u v m h) (b.complete u v m h)

    leads_by : Leads (L ∣ M) F (f ∪ g)
    leads_by u v (inl l) h = in_left (f (kind (u ++ v))) (g (kind (u ++ v))) (a.leads u v l h)
    leads_by u v (inr m) h = in_right (f (kind (u ++ v))) (g (kind (u ++ v))) (b.leads u v m h)

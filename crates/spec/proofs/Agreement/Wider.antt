-- One language within another, by the shape in which both are written: a law for each sign of the EBNF. Assumes nothing.
use mathlib.Core.Bool.{Bool, true}
use mathlib.Core.List.{List}
use mathlib.Core.Path.{◌≡◌}
use Prim.Native.Nat.{ℕ}
use Rattle.spec.specs.Grammar.Languages.{Lang, Ch, ◌·◌, ◌∣◌, inl, inr, ◌∖◌, ◌&◌, Star}
use Rattle.spec.proofs.Base.Tests.{T→true, true→T}
use Rattle.spec.proofs.Characters.Text.{reclass, star_map}

infix 40 ◌⊑◌
pub record ◌⊑◌ (L M : Lang) : Type 0 where
  pub into : (w : List ℕ) → L w → M w

unfoldable pub same : {L : Lang} → L ⊑ L
same = record { into = λ w l. l }

pub ch : {p q : ℕ → Bool} → ((c : ℕ) → p c ≡ true → q c ≡ true) → Ch p ⊑ Ch q
ch {p} {q} f = record { into = λ w c. reclass c (true→T (q c.char) (f c.char (T→true (p c.char) c.in_class))) }

infixr 60 ◌··◌
unfoldable pub ◌··◌ : {L L' M M' : Lang} → L ⊑ L' → M ⊑ M' → (L · M) ⊑ (L' · M')
i ·· j = record { into = λ w c. record { left = c.left; right = c.right; split = c.split; first = i.into c.left c.first; second = j.into c.right c.second } }

infixr 50 ◌∣∣◌
pub ◌∣∣◌ : {L L' M M' : Lang} → L ⊑ L' → M ⊑ M' → (L ∣ M) ⊑ (L' ∣ M')
◌∣∣◌ {L} {L'} {M} {M'} i j = record { into = go }
  where
    go : (w : List ℕ) → (L ∣ M) w → (L' ∣ M') w
    go w (inl l) = inl (i.into w l)
    go w (inr m) = inr (j.into w m)

pub star : {L M : Lang} → L ⊑ M → Star L ⊑ Star M
star i = record { into = λ w s. star_map i.into s }

pub less : {L M N : Lang} → L ⊑ M → (L ∖ N) ⊑ (M ∖ N)
less i = record { into = λ w (l, n). (i.into w l, n) }

pub also : {L L' M M' : Lang} → L ⊑ L' → M ⊑ M' → (L & M) ⊑ (L' & M')
also i j = record { into = λ w (l, m). (i.into w l, j.into w m) }

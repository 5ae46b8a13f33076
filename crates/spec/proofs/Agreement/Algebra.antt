-- Languages that are the same however they are written. Assumes nothing.
use mathlib.Core.List.{List, [], ◌++◌, append_assoc, append-nil}
use mathlib.Core.Path.{◌≡◌, refl, sym, ◌∙◌, ap, subst}
use Prim.Native.Nat.{ℕ}
use Prim.Native.String.{String}
use Rattle.spec.specs.Grammar.Languages.{Lang, lit, ascii, ◌·◌, ◌∣◌, inl, inr, Star, end, more, Plus}
use Rattle.spec.proofs.Agreement.Reads.{◌≅◌}
use Rattle.spec.proofs.Characters.Text.{cat_before, plus_star, star_map}

-- the empty text
abbrev pub ε : Lang
ε w = w ≡ []

pub same : {L : Lang} → L ≅ L
same = record { to = λ w l. l; from = λ w l. l }

pub back : {L M : Lang} → L ≅ M → M ≅ L
back i = record { to = i.from; from = i.to }

infixr 30 ◌then◌
pub ◌then◌ : {L M N : Lang} → L ≅ M → M ≅ N → L ≅ N
i then j = record { to = λ w l. j.to w (i.to w l); from = λ w n. i.from w (j.from w n) }

pub cat : {L L' M M' : Lang} → L ≅ L' → M ≅ M' → (L · M) ≅ (L' · M')
cat i j = record {
  to = λ w c. record { left = c.left; right = c.right; split = c.split; first = i.to c.left c.first; second = j.to c.right c.second };
  from = λ w c. record { left = c.left; right = c.right; split = c.split; first = i.from c.left c.first; second = j.from c.right c.second };
}

pub cat₂ : {L M M' : Lang} → M ≅ M' → (L · M) ≅ (L · M')
cat₂ j = cat same j

pub either : {L L' M M' : Lang} → L ≅ L' → M ≅ M' → (L ∣ M) ≅ (L' ∣ M')
either i j = record { to = λ w. go (i.to w) (j.to w); from = λ w. go (i.from w) (j.from w) }
  where
    go : {A B C D : Lang} {w : List ℕ} → (A w → B w) → (C w → D w) → (A ∣ C) w → (B ∣ D) w
    go f g (inl a) = inl (f a)
    go f g (inr c) = inr (g c)

pub assoc : {L M N : Lang} → ((L · M) · N) ≅ (L · (M · N))
assoc = record {
  to = λ w c. record {
    left = c.first.left;
    right = c.first.right ++ c.right;
    split = c.split ∙ ap (λ (x : List ℕ). x ++ c.right) c.first.split ∙ append_assoc c.first.left c.first.right c.right;
    first = c.first.first;
    second = record { left = c.first.right; right = c.right; split = refl; first = c.first.second; second = c.second };
  };
  from = λ w c. record {
    left = c.left ++ c.second.left;
    right = c.second.right;
    split = c.split ∙ ap (λ (x : List ℕ). c.left ++ x) c.second.split ∙ sym (append_assoc c.left c.second.left c.second.right);
    first = record { left = c.left; right = c.second.left; split = refl; first = c.first; second = c.second.first };
    second = c.second.second;
  };
}

pub over_right : {L M N : Lang} → (L · (M ∣ N)) ≅ ((L · M) ∣ (L · N))
over_right {L} {M} {N} = record { to = λ w c. go w c.left c.right c.split c.first c.second; from = og }
  where
    go : (w u v : List ℕ) → w ≡ u ++ v → L u → (M ∣ N) v → ((L · M) ∣ (L · N)) w
    go w u v e l (inl m) = inl (record { left = u; right = v; split = e; first = l; second = m })
    go w u v e l (inr n) = inr (record { left = u; right = v; split = e; first = l; second = n })

    og : (w : List ℕ) → ((L · M) ∣ (L · N)) w → (L · (M ∣ N)) w
    og w (inl c) = record { left = c.left; right = c.right; split = c.split; first = c.first; second = inl c.second }
    og w (inr c) = record { left = c.left; right = c.right; split = c.split; first = c.first; second = inr c.second }

pub over_left : {L M N : Lang} → ((L ∣ M) · N) ≅ ((L · N) ∣ (M · N))
over_left {L} {M} {N} = record { to = λ w c. go w c.left c.right c.split c.first c.second; from = og }
  where
    go : (w u v : List ℕ) → w ≡ u ++ v → (L ∣ M) u → N v → ((L · N) ∣ (M · N)) w
    go w u v e (inl l) n = inl (record { left = u; right = v; split = e; first = l; second = n })
    go w u v e (inr m) n = inr (record { left = u; right = v; split = e; first = m; second = n })

    og : (w : List ℕ) → ((L · N) ∣ (M · N)) w → ((L ∣ M) · N) w
    og w (inl c) = record { left = c.left; right = c.right; split = c.split; first = inl c.first; second = c.second }
    og w (inr c) = record { left = c.left; right = c.right; split = c.split; first = inr c.first; second = c.second }

-- L+ or nothing is L*
pub plus_or_none : {L : Lang} → (Plus L ∣ ε) ≅ Star L
plus_or_none {L} = record { to = go; from = og }
  where
    go : (w : List ℕ) → (Plus L ∣ ε) w → Star L w
    go w (inl c) = plus_star c
    go w (inr e) = end e

    og : (w : List ℕ) → Star L w → (Plus L ∣ ε) w
    og w (end e) = inr e
    og w (more u v e l s) = inl (record { left = u; right = v; split = e; first = l; second = s })

pub no_other : {L : Lang} → (L ∣ (λ w. ⊥)) ≅ L
no_other {L} = record { to = go; from = λ w l. inl l }
  where
    go : (w : List ℕ) → (L ∣ (λ w. ⊥)) w → L w
    go w (inl l) = l
    go w (inr z) = absurd z

pub starred : {L M : Lang} → L ≅ M → Star L ≅ Star M
starred i = record { to = λ w s. star_map i.to s; from = λ w s. star_map i.from s }

-- A (X A)* is (A X)* A
module _ {A X : Lang} where
  rot : {v : List ℕ} (u : List ℕ) → A u → Star (X · A) v → (Star (A · X) · A) (u ++ v)
  rot u a (end e) = record { left = []; right = u; split = ap (λ (x : List ℕ). u ++ x) e ∙ append-nil u; first = end refl; second = a }
  rot u a (more x v e c s) =
      let r : (Star (A · X) · A) (c.right ++ v) = rot c.right c.second s in
      record {
        left = (u ++ c.left) ++ r.left;
        right = r.right;
        split =
            ap (λ (z : List ℕ). u ++ z) (e ∙ cat_before c v ∙ ap (λ (z : List ℕ). c.left ++ z) r.split)
            ∙ sym (append_assoc u c.left (r.left ++ r.right)) ∙ sym (append_assoc (u ++ c.left) r.left r.right);
        first = more (u ++ c.left) r.left refl (record { left = u; right = c.left; split = refl; first = a; second = c.first }) r.first;
        second = r.second;
      }

  tor : {u : List ℕ} (v : List ℕ) → Star (A · X) u → A v → (A · Star (X · A)) (u ++ v)
  tor v (end e) a = record { left = v; right = []; split = ap (λ (x : List ℕ). x ++ v) e ∙ sym (append-nil v); first = a; second = end refl }
  tor v (more x y e c s) a =
      let r : (A · Star (X · A)) (y ++ v) = tor v s a in
      record {
        left = c.left;
        right = (c.right ++ r.left) ++ r.right;
        split =
            ap (λ (z : List ℕ). z ++ v) (e ∙ ap (λ (z : List ℕ). z ++ y) c.split) ∙ append_assoc (c.left ++ c.right) y v
            ∙ ap (λ (z : List ℕ). c.left ++ c.right ++ z) r.split ∙ append_assoc c.left c.right (r.left ++ r.right)
            ∙ ap (λ (z : List ℕ). c.left ++ z) (sym (append_assoc c.right r.left r.right));
        first = c.first;
        second = more (c.right ++ r.left) r.right refl (record { left = c.right; right = r.left; split = refl; first = c.second; second = r.first }) r.second;
      }

  pub rotate : (A · Star (X · A)) ≅ (Star (A · X) · A)
  rotate = record {
    to = λ w c. subst (Star (A · X) · A) (sym c.split) (rot c.left c.first c.second);
    from = λ w c. subst (A · Star (X · A)) (sym c.split) (tor c.right c.first c.second);
  }

  pub rotate_plus : (A · Plus (X · A)) ≅ (Plus (A · X) · A)
  rotate_plus = cat₂ assoc then back assoc then cat₂ rotate then back assoc

pub swap : {L M : Lang} → (L ∣ M) ≅ (M ∣ L)
swap = record { to = λ w x. go x; from = λ w x. go x }
  where
    go : {L M : Lang} {w : List ℕ} → (L ∣ M) w → (M ∣ L) w
    go (inl l) = inr l
    go (inr m) = inl m

pub regroup : {L M N : Lang} → (L ∣ M ∣ N) ≅ ((L ∣ M) ∣ N)
regroup {L} {M} {N} = record { to = λ w x. go x; from = λ w x. og x }
  where
    go : {w : List ℕ} → (L ∣ M ∣ N) w → ((L ∣ M) ∣ N) w
    go (inl l) = inl (inl l)
    go (inr (inl m)) = inl (inr m)
    go (inr (inr n)) = inr n

    og : {w : List ℕ} → ((L ∣ M) ∣ N) w → (L ∣ M ∣ N) w
    og (inl (inl l)) = inl l
    og (inl (inr m)) = inr (inl m)
    og (inr n) = inr (inr n)

-- the first of three alternatives after the second, and none at all in front of the others
pub sink : {L M N : Lang} → (L ∣ M ∣ N) ≅ (M ∣ L ∣ N)
sink = regroup then either swap same then back regroup

pub no_first : {L : Lang} → ((λ w. ⊥) ∣ L) ≅ L
no_first = swap then no_other

pub none_before : {L : Lang} → (ε · L) ≅ L
none_before {L} = record {
  to = λ w c. subst L (sym (c.split ∙ ap (λ (x : List ℕ). x ++ c.right) c.first)) c.second;
  from = λ w l. record { left = []; right = w; split = refl; first = refl; second = l };
}

pub none_after : {L : Lang} → (L · ε) ≅ L
none_after {L} = record {
  to = λ w c. subst L (sym (c.split ∙ ap (λ (x : List ℕ). c.left ++ x) c.second ∙ append-nil c.left)) c.first;
  from = λ w l. record { left = w; right = []; split = sym (append-nil w); first = l; second = refl };
}

pub words : (s t st : String) → ascii st ≡ ascii s ++ ascii t → (lit s · lit t) ≅ lit st
words s t st e = record {
  to = λ w c. c.split ∙ (λ i. c.first i ++ c.second i) ∙ sym e;
  from = λ w l. record { left = ascii s; right = ascii t; split = l ∙ e; first = refl; second = refl };
}

-- Declarations: where a body ends, and whether it is read. Assumes nothing.
use mathlib.Core.Logic
use mathlib.Core.Bool.{Bool, true, false, ◌&&◌, ◌||◌, not, true≢false}
use mathlib.Core.List.{List, [], ◌∷◌, ◌++◌, append_assoc}
use mathlib.Core.Logic.{◌⊎◌}
use mathlib.Core.Path.{◌≡◌, refl, sym, ◌∙◌, ap, subst}
use Prim.Native.Nat.{ℕ, zero, suc, ◌+◌, ◌≤◌, ◌<◌}
use native.Mathlib.Omega.{arith}
use lib.Dec.{T, eqb}
use lib.ListN.{length, take, length-append}
use lib.Seq.{take-append_seam, take_at}
use Rattle.spec.specs.Basics.{pick}
use Rattle.spec.specs.Grammar.Characters.{Text}
use Rattle.spec.specs.Grammar.Declarations.{Delimited, Unread, declared}
use Rattle.spec.specs.Grammar.Languages.{Lang, lit, ascii, Ch, ◌·◌, ◌∣◌, inl, inr, Star, end, more, any, one_of, none_of}
use Rattle.spec.specs.Grammar.Literals.{SystemLiteral}
use Rattle.spec.specs.Grammar.Names.{Dialect}
use Rattle.spec.specs.Grammar.Utf8.{scalar, encode}
use Rattle.spec.specs.Reading.Dtd.{bytes_before, take_decl_body, has_pe_reference, finish_decl}
use Rattle.spec.specs.Reading.Places.{Place, at, nowhere, later, outside}
use Rattle.spec.specs.Reading.Readers.{ok, Reader, on_ok, nothing, begins, of_point}
use Rattle.spec.specs.Reading.Refusals.{unterminated}
use Rattle.spec.specs.Reading.Utf8.{decode1, Point, point, no_point}
use Rattle.spec.proofs.Agreement.Chars.{begins_ch}
use Rattle.spec.proofs.Agreement.Reads.{Took, Reads, Next}
use Rattle.spec.proofs.Agreement.Whole.{Whole}
use Rattle.spec.proofs.Base.Outside.{nowhere_at, at_inj, later_at}
use Rattle.spec.proofs.Base.Results.{err_ok, ok_inj, on_ok_ok, one-add}
use Rattle.spec.proofs.Base.Tests.{true→T, eqb_yes, eqb-true, eqb_no, or_cases, and_left, and_right, one_sign, two_signs, none_sub, not-true, T→true, or_false_left, or_false_right}
use Rattle.spec.proofs.Characters.Bytes.{all_high, high_head, high_tail, avoids, avoids_append, avoids_high, class_avoids, avoids_class, text_front, not_one, avoids_head, avoids_tail, Sized, low, high, sized}
use Rattle.spec.proofs.Characters.Text.{text_rest, ascii_text, star_one, reclass, put, between}
use Rattle.spec.proofs.Characters.Utf8.{decode_read, Read}

-- the bytes of a body, by the open quote or 0: no '>' outside quotes, and no quote left open
unfoldable pub del : ℕ → List ℕ → Bool
del zero [] = true
del (suc q) [] = false
del zero (b ∷ u) = not (one_of ">" b) && del (pick (one_of "\"'" b) b 0) u
del (suc q) (b ∷ u) = del (pick (eqb b (suc q)) 0 (suc q)) u

record Ended (q k : ℕ) (w : List ℕ) : Type 0 where
  pub body : List ℕ
  pub rest : List ℕ
  pub split : w ≡ body ++ 62 ∷ rest
  pub size : length body ≡ k
  pub good : del q body ≡ true

abbrev to_sign : ℕ → List ℕ → Place
to_sign = outside (one_of ">")

one_more : (q p k b : ℕ) (w : List ℕ) → ((u : List ℕ) → del q (b ∷ u) ≡ del p u) → ((j : ℕ) → to_sign p w ≡ at j → Ended p j w) → later 1 (to_sign p w) ≡ at k → Ended q k (b ∷ w)
one_more q p k b w same ih e =
    let (j, f, l) = later_at 1 k (to_sign p w) e in
    let t : Ended p j w = ih j f in
    let m : length t.body ≡ j = t.size in
    record { body = b ∷ t.body; rest = t.rest; split = ap (λ (x : List ℕ). b ∷ x) t.split; size = omega arith; good = same t.body ∙ t.good }

sign_ended : (q k : ℕ) (w : List ℕ) → to_sign q w ≡ at k → Ended q k w
unfolding outside del
sign_ended q k [] e = absurd (nowhere_at k e)
sign_ended zero k (b ∷ w) e = go (one_of ">" b) refl e (λ p j. sign_ended p j w)
  where
    go : (t : Bool) → one_of ">" b ≡ t → pick t (at 0) (later 1 (to_sign (pick (one_of "\"'" b) b 0) w)) ≡ at k → ((p j : ℕ) → to_sign p w ≡ at j → Ended p j w) → Ended zero k (b ∷ w)
    go true f g ih = record { body = []; rest = w; split = ap (λ (x : ℕ). x ∷ w) (one_sign 62 b f); size = at_inj 0 k g; good = refl }
    go false f g ih = one_more zero (pick (one_of "\"'" b) b 0) k b w (λ u. ap (λ (t : Bool). not t && del (pick (one_of "\"'" b) b 0) u) f) (ih (pick (one_of "\"'" b) b 0)) g
sign_ended (suc q) k (b ∷ w) e = one_more (suc q) (pick (eqb b (suc q)) 0 (suc q)) k b w (λ u. refl) (λ j. sign_ended (pick (eqb b (suc q)) 0 (suc q)) j w) e

sign_ends : (q : ℕ) (u v : List ℕ) → del q u ≡ true → to_sign q (u ++ 62 ∷ v) ≡ at (length u)
unfolding outside del
sign_ends zero [] v h = refl
sign_ends (suc q) [] v h = absurd (true≢false (sym h))
sign_ends zero (b ∷ u) v h =
    let n : one_of ">" b ≡ false = not-true (one_of ">" b) (and_left (none_of ">" b) (del (pick (one_of "\"'" b) b 0) u) h) in
    rw n (ap (later 1) (sign_ends (pick (one_of "\"'" b) b 0) u v (and_right (none_of ">" b) (del (pick (one_of "\"'" b) b 0) u) h)) ∙ ap at (one-add (length u)))
sign_ends (suc q) (b ∷ u) v h = ap (later 1) (sign_ends (pick (eqb b (suc q)) 0 (suc q)) u v h) ∙ ap at (one-add (length u))

-- a body is what stands before that sign
pub body_at : (k : ℕ) (w : List ℕ) → take_decl_body w ≡ ok k → outside (one_of ">") 0 w ≡ at k
unfolding take_decl_body
body_at k w e = go (to_sign 0 w) e
  where
    go : (p : Place) → bytes_before unterminated p ≡ ok k → p ≡ at k
    go (at j) f = ap at (ok_inj j k f)
    go nowhere f = absurd (err_ok unterminated k f)

body_ended : (k : ℕ) (w : List ℕ) → take_decl_body w ≡ ok k → Ended 0 k w
body_ended k w e = sign_ended 0 k w (body_at k w e)

body_ends : (u v : List ℕ) → del 0 u ≡ true → take_decl_body (u ++ 62 ∷ v) ≡ ok (length u)
unfolding take_decl_body
body_ends u v h = ap (bytes_before unterminated) (sign_ends 0 u v h)

-- bytes above ASCII change nothing
del_high : (q : ℕ) (x y : List ℕ) → q < 128 → T (all_high x) → del q (x ++ y) ≡ del q y
unfolding del
del_high q [] y l h = refl
del_high zero (b ∷ x) y l h =
    let g : 128 ≤ b = high_head b x h in
    rw (eqb_no b 62 (λ e. omega arith), eqb_no b 34 (λ e. omega arith), eqb_no b 39 (λ e. omega arith)) (del_high zero x y l (high_tail b x h))
del_high (suc q) (b ∷ x) y l h =
    let g : 128 ≤ b = high_head b x h in
    ap (λ (t : Bool). del (pick t 0 (suc q)) (x ++ y)) (eqb_no b (suc q) (λ e. omega arith)) ∙ del_high (suc q) x y l (high_tail b x h)

-- a literal's inside leaves its quote open
del_inside : (q : ℕ) (x y : List ℕ) → avoids (suc q) x ≡ true → del (suc q) (x ++ y) ≡ del (suc q) y
unfolding del
del_inside q [] y h = refl
del_inside q (b ∷ x) y h = ap (λ (t : Bool). del (pick t 0 (suc q)) (x ++ y)) (avoids_head (suc q) b x h) ∙ del_inside q x y (avoids_tail (suc q) b x h)

-- a delimited body has such bytes
del_quoted : (q : ℕ) (p : ℕ → Bool) (x d y : List ℕ) → suc q < 128 → p (suc q) ≡ false → one_of ">" (suc q) ≡ false → one_of "\"'" (suc q) ≡ true
    → Star (Ch p) d → x ≡ suc q ∷ (d ++ (suc q ∷ [])) → del 0 (x ++ y) ≡ del 0 y
unfolding del
del_quoted q p x d y l n gt qt s e =
    rw (e, append_assoc d (suc q ∷ []) y, qt, gt)
    (del_inside q d (suc q ∷ y) (class_avoids p (suc q) l n s) ∙ ap (λ (t : Bool). del (pick t 0 (suc q)) y) (eqb_yes (suc q) (suc q) refl))

del_item : (x y : List ℕ) → (Ch (none_of "\"'>") ∣ SystemLiteral) x → del 0 (x ++ y) ≡ del 0 y
unfolding SystemLiteral del
del_item x y (inl c) = by_size (sized c)
  where
    small : del 0 ((c.char ∷ []) ++ y) ≡ del 0 y
    small =
        let n : one_of "\"'>" c.char ≡ false = not-true (one_of "\"'>" c.char) (T→true (none_of "\"'>" c.char) c.in_class) in
        rw (none_sub (ascii ">") (ascii "\"'>") tt c.char n, none_sub (ascii "\"'") (ascii "\"'>") tt c.char n)

    by_size : Sized c → del 0 (x ++ y) ≡ del 0 y
    by_size (low t is) = ap (λ (z : List ℕ). del 0 (z ++ y)) is ∙ small
    by_size (high t h) = del_high 0 x y (omega arith) h
del_item x y (inr (inl l)) = del_quoted 33 (none_of "\"") x l.second.left y (omega arith) refl refl refl l.second.first (between "\"" "\"" l)
del_item x y (inr (inr l)) = del_quoted 38 (none_of "'") x l.second.left y (omega arith) refl refl refl l.second.first (between "'" "'" l)

pub delimited_del : {u : List ℕ} → Star (Ch (none_of "\"'>") ∣ SystemLiteral) u → del 0 u ≡ true
unfolding del
delimited_del (end e) = ap (del 0) e
delimited_del (more x y e i s) = ap (del 0) e ∙ del_item x y i ∙ delimited_del s

-- a text with such bytes is a delimited body; where a quote is open, up to that quote and then a delimited body
record Open (a : ℕ) (u : List ℕ) : Type 0 where
  inside : List ℕ
  rest : List ℕ
  split : u ≡ inside ++ a ∷ rest
  text : Star (Ch any) inside
  free : avoids a inside ≡ true
  body : Star (Ch (none_of "\"'>") ∣ SystemLiteral) rest

-- by the state: the body outside quotes, or inside one
abbrev Delimits : ℕ → List ℕ → Type 0
Delimits zero u = Star (Ch (none_of "\"'>") ∣ SystemLiteral) u
Delimits (suc q) u = Open (suc q) u

-- a quote, its inside and the quote again
literal : (b : ℕ) (u : List ℕ) → (b ≡ 34) ⊎ (b ≡ 39) → Open b u → Star (Ch (none_of "\"'>") ∣ SystemLiteral) (b ∷ u)
unfolding SystemLiteral
literal b u which o = go which
  where
    seam : (a : ℕ) → b ≡ a → b ∷ u ≡ (b ∷ (o.inside ++ (a ∷ []))) ++ o.rest
    seam a e = ap (λ (z : List ℕ). b ∷ z) (o.split ∙ ap (λ (z : ℕ). o.inside ++ z ∷ o.rest) e ∙ sym (append_assoc o.inside (a ∷ []) o.rest))

    quoted : (a : ℕ) → a < 128 → b ≡ a → ((λ x. x ≡ a ∷ []) · Star (Ch (λ c. not (eqb c a || false))) · (λ x. x ≡ a ∷ [])) (b ∷ (o.inside ++ (a ∷ [])))
    quoted a l e =
        put (b ∷ []) (o.inside ++ (a ∷ [])) (ap (λ (z : ℕ). z ∷ []) e)
        (put o.inside (a ∷ []) (avoids_class any (λ c. not (eqb c a || false)) a l (λ c t. not_one a c) o.text (ap (λ (z : ℕ). avoids z o.inside) (sym e) ∙ o.free)) refl)

    go : (b ≡ 34) ⊎ (b ≡ 39) → Star (Ch (none_of "\"'>") ∣ SystemLiteral) (b ∷ u)
    go (Logic.inl e) = more (b ∷ (o.inside ++ (34 ∷ []))) o.rest (seam 34 e) (inr (inl (quoted 34 (omega arith) e))) o.body
    go (Logic.inr e) = more (b ∷ (o.inside ++ (39 ∷ []))) o.rest (seam 39 e) (inr (inr (quoted 39 (omega arith) e))) o.body

plain_char : (c : ℕ) → one_of ">" c ≡ false → one_of "\"'" c ≡ false → T (none_of "\"'>" c)
plain_char c e f =
    rw (or_false_left (eqb c 34) (one_of "'" c) f, or_false_left (eqb c 39) false (or_false_right (eqb c 34) (one_of "'" c) f), or_false_left (eqb c 62) false e) tt

del_delimits : (q : ℕ) {u : List ℕ} → q < 128 → Star (Ch any) u → del q u ≡ true → Delimits q u
unfolding del
del_delimits zero l (end e) h = end e
del_delimits (suc q) l (end e) h = absurd (true≢false (sym (sym (ap (del (suc q)) e) ∙ h)))
del_delimits q {u} l (more x y e c s) h = by_size (sized c) (λ p k g. del_delimits p k s g)
  where
    b : ℕ
    b = c.char

    outside_high : 128 ≤ b → T (all_high x) → del 0 u ≡ true → ((p : ℕ) → p < 128 → del p y ≡ true → Delimits p y) → Delimits 0 u
    outside_high g a k ih =
        more x y e (inl (reclass c (plain_char b (rw (eqb_no b 62 (λ z. omega arith))) (rw (eqb_no b 34 (λ z. omega arith), eqb_no b 39 (λ z. omega arith))))))
        (ih 0 (omega arith) (sym (del_high 0 x y (omega arith) a) ∙ ap (del 0) (sym e) ∙ k))

    inside_on : (p : ℕ) → suc p < 128 → avoids (suc p) x ≡ true → Open (suc p) y → Open (suc p) u
    inside_on p k a o = record {
      inside = x ++ o.inside;
      rest = o.rest;
      split = e ∙ ap (λ (z : List ℕ). x ++ z) o.split ∙ sym (append_assoc x o.inside (suc p ∷ o.rest));
      text = more x o.inside refl c o.text;
      free = avoids_append (suc p) x o.inside ∙ (λ i. a i && o.free i);
      body = o.body;
    }

    by_state : 128 ≤ b → T (all_high x) → (p : ℕ) → p < 128 → del p u ≡ true → ((p : ℕ) → p < 128 → del p y ≡ true → Delimits p y) → Delimits p u
    by_state g a zero k d ih = outside_high g a d ih
    by_state g a (suc p) k d ih =
        inside_on p k (avoids_high (suc p) x k a) (ih (suc p) k (sym (del_high (suc p) x y k a) ∙ ap (del (suc p)) (sym e) ∙ d))

    u_is : x ≡ b ∷ [] → u ≡ b ∷ y
    u_is t = e ∙ ap (λ (z : List ℕ). z ++ y) t

    small : x ≡ b ∷ [] → (p : ℕ) → p < 128 → del p (b ∷ y) ≡ true → ((p : ℕ) → p < 128 → del p y ≡ true → Delimits p y) → Delimits p u
    small t zero k d ih = by_gt (one_of ">" b) refl d
      where
        by_quote : one_of ">" b ≡ false → (v : Bool) → one_of "\"'" b ≡ v → del (pick v b 0) y ≡ true → Delimits 0 u
        by_quote n true f g = subst (Star (Ch (none_of "\"'>") ∣ SystemLiteral)) (sym (u_is t)) (literal b y (two_signs 34 39 b f) (opened b (two_signs 34 39 b f) g))
          where
            opened : (a : ℕ) → (a ≡ 34) ⊎ (a ≡ 39) → del a y ≡ true → Open a y
            opened a (Logic.inl z) g = subst (λ (m : ℕ). Open m y) (sym z) (ih 34 (omega arith) (ap (λ (m : ℕ). del m y) (sym z) ∙ g))
            opened a (Logic.inr z) g = subst (λ (m : ℕ). Open m y) (sym z) (ih 39 (omega arith) (ap (λ (m : ℕ). del m y) (sym z) ∙ g))
        by_quote n false f g = more x y e (inl (reclass c (plain_char b n f))) (ih 0 (omega arith) g)

        by_gt : (v : Bool) → one_of ">" b ≡ v → (not v && del (pick (one_of "\"'" b) b 0) y) ≡ true → Delimits 0 u
        by_gt true f g = absurd (true≢false (sym g))
        by_gt false f g = by_quote f (one_of "\"'" b) refl g
    small t (suc p) k d ih = by_eq (eqb b (suc p)) refl d
      where
        by_eq : (v : Bool) → eqb b (suc p) ≡ v → del (pick v 0 (suc p)) y ≡ true → Open (suc p) u
        by_eq true f g = record { inside = []; rest = y; split = u_is t ∙ ap (λ (z : ℕ). z ∷ y) (eqb-true b (suc p) f); text = end refl; free = refl; body = ih 0 (omega arith) g }
        by_eq false f g = inside_on p k (ap (avoids (suc p)) t ∙ rw f) (ih (suc p) k g)

    by_size : Sized c → ((p : ℕ) → p < 128 → del p y ≡ true → Delimits p y) → Delimits q u
    by_size (low t is) ih = small is q l (ap (del q) (sym (u_is is)) ∙ h) ih
    by_size (high t a) ih = by_state t a q l h ih

module _ (D : Dialect) where
  -- a parameter-entity reference somewhere in a body
  abbrev pub Refers : Lang
  Refers = Text · lit "%" · Ch D.start · Text

  pe_found : (u : List ℕ) → has_pe_reference D u ≡ true → (x y : List ℕ) × (u ≡ x ++ 37 ∷ y) × (begins D.start y ≡ true)
  unfolding has_pe_reference
  pe_found [] e = absurd (true≢false (sym e))
  pe_found (b ∷ u) e = go (or_cases (one_of "%" b && begins D.start u) (has_pe_reference D u) e) (pe_found u)
    where
      go : ((one_of "%" b && begins D.start u) ≡ true) ⊎ (has_pe_reference D u ≡ true) → (has_pe_reference D u ≡ true → (x y : List ℕ) × (u ≡ x ++ 37 ∷ y) × (begins D.start y ≡ true))
          → (x y : List ℕ) × (b ∷ u ≡ x ++ 37 ∷ y) × (begins D.start y ≡ true)
      go (Logic.inl f) ih = ([], u, ap (λ (z : ℕ). z ∷ u) (one_sign 37 b (and_left (one_of "%" b) (begins D.start u) f)), and_right (one_of "%" b) (begins D.start u) f)
      go (Logic.inr f) ih = let (x, y, g, h) = ih f in (b ∷ x, y, ap (λ (z : List ℕ). b ∷ z) g, h)

  pe_at : (x y : List ℕ) → begins D.start y ≡ true → has_pe_reference D (x ++ 37 ∷ y) ≡ true
  unfolding has_pe_reference
  pe_at [] y h = rw h
  pe_at (b ∷ x) y h = go (one_of "%" b && begins D.start (x ++ 37 ∷ y)) (pe_at x y h)
    where
      go : (t : Bool) → has_pe_reference D (x ++ 37 ∷ y) ≡ true → (t || has_pe_reference D (x ++ 37 ∷ y)) ≡ true
      go true e = refl
      go false e = e

  begun : (y : List ℕ) → begins D.start y ≡ true → Star (Ch any) y → (Ch D.start · Text) y
  unfolding begins Text
  begun y e s = go (decode1 y) refl e
    where
      go : (p : Point) → decode1 y ≡ p → of_point p (λ c k. D.start c) false ≡ true → (Ch D.start · Star (Ch any)) y
      go no_point f g = absurd (true≢false (sym g))
      go (point c k) f g =
          let r : Read c k y = decode_read c k y f in
          record {
            left = encode c;
            right = r.rest;
            split = r.split;
            first = record { char = c; is_scalar = true→T (scalar c) r.is_scalar; in_class = true→T (D.start c) g; bytes = refl };
            second = text_rest r.rest (star_one (record { char = c; is_scalar = true→T (scalar c) r.is_scalar; in_class = tt; bytes = refl })) (subst (Star (Ch any)) r.split s);
          }

  refers_sound : (u : List ℕ) → Text u → has_pe_reference D u ≡ true → Refers u
  unfolding Text
  refers_sound u tu e =
      let (x, y, f, g) = pe_found u e in
      let tx : Star (Ch any) x = text_front x 37 y (omega arith) f tu in
      let ty : Star (Ch any) y = text_rest y (ascii_text (ascii "%") tt) (text_rest (37 ∷ y) tx (subst (Star (Ch any)) f tu)) in
      record { left = x; right = 37 ∷ y; split = f; first = tx; second = record { left = ascii "%"; right = y; split = refl; first = refl; second = begun y g ty } }

  pub refers_complete : (u : List ℕ) → Refers u → has_pe_reference D u ≡ true
  refers_complete u r =
      let c : (Ch D.start · Text) r.second.right = r.second.second in
      let e : u ≡ r.left ++ 37 ∷ (c.left ++ c.right) =
      r.split ∙ ap (λ (z : List ℕ). r.left ++ z) (r.second.split ∙ (λ i. r.second.first i ++ c.split i)) in
      ap (has_pe_reference D) e ∙ pe_at r.left (c.left ++ c.right) (begins_ch D.start c.left c.right c.first)

  -- finish_decl
  pub finish_reads : (pe : Bool) {body : Reader} {B : Lang} → Whole body B → ((u : List ℕ) → B u → Delimited u) → Reads (finish_decl D pe body) (declared D pe B · lit ">") (Next any) any
  unfolding finish_decl Text Delimited Unread nothing
  finish_reads pe {body} {B} a inner = record { sound = sound_by; complete = complete_by; leads = λ u v l t. tt }
    where
      read_as : (pe : Bool) (u : List ℕ) (j : ℕ) → Star (Ch any) u → del 0 u ≡ true → (t : Bool) → has_pe_reference D u ≡ t → pick (pe || t) nothing body u ≡ ok j → declared D pe B u
      read_as true u j tu d t f e = del_delimits 0 (omega arith) tu d
      read_as false u j tu d true f e = inr (del_delimits 0 (omega arith) tu d, refers_sound u tu f)
      read_as false u j tu d false f e = inl (a.sound u j tu e)

      sound_by : (w : List ℕ) (k : ℕ) → Star (Ch any) w → finish_decl D pe body w ≡ ok k → Took (declared D pe B · lit ">") k w
      sound_by w k tw e =
          let (i, f, g) = on_ok_ok (take_decl_body w) (λ i. on_ok (pick (pe || has_pe_reference D (take i w)) nothing body (take i w)) (λ _. ok (i + 1))) k e in
          let o : Ended 0 i w = body_ended i w f in
          let u : List ℕ = o.body in
          let z : take i w ≡ u = ap (take i) o.split ∙ take_at u (62 ∷ o.rest) i o.size in
          let (j, h, m) = on_ok_ok (pick (pe || has_pe_reference D u) nothing body u) (λ _. ok (i + 1)) k (subst (λ (q : List ℕ). on_ok (pick (pe || has_pe_reference D q) nothing body q) (λ _. ok (i + 1)) ≡ ok k) z g) in
          let tu : Star (Ch any) u = text_front u 62 o.rest (omega arith) o.split tw in
          record {
            taken = u ++ (62 ∷ []);
            rest = o.rest;
            split = o.split ∙ sym (append_assoc u (62 ∷ []) o.rest);
            size = length-append u (62 ∷ []) ∙ ap (λ (m : ℕ). m + 1) o.size ∙ ok_inj (i + 1) k m;
            holds = record { left = u; right = 62 ∷ []; split = refl; first = read_as pe u j tu o.good (has_pe_reference D u) refl h; second = refl };
            left = text_rest o.rest (ascii_text (ascii ">") tt) (text_rest (62 ∷ o.rest) tu (subst (Star (Ch any)) o.split tw));
          }

      delimited : (pe : Bool) (u : List ℕ) → declared D pe B u → del 0 u ≡ true
      delimited true u d = delimited_del d
      delimited false u (inl b) = delimited_del (inner u b)
      delimited false u (inr n) = delimited_del n.0

      passes : (pe : Bool) (u : List ℕ) → declared D pe B u → (j : ℕ) × (pick (pe || has_pe_reference D u) nothing body u ≡ ok j)
      passes true u d = (0, refl)
      passes false u (inl b) = go (has_pe_reference D u)
        where
          go : (t : Bool) → (j : ℕ) × (pick t nothing body u ≡ ok j)
          go true = (0, refl)
          go false = (length u, a.complete u b)
      passes false u (inr n) = (0, rw (refers_complete u n.1))

      complete_by : (u v : List ℕ) → (declared D pe B · lit ">") u → Next any v → finish_decl D pe body (u ++ v) ≡ ok (length u)
      complete_by u v l t =
          let x : List ℕ = l.left in
          let e : u ++ v ≡ x ++ (62 ∷ v) = ap (λ (z : List ℕ). z ++ v) (l.split ∙ ap (λ (z : List ℕ). x ++ z) l.second) ∙ append_assoc x (62 ∷ []) v in
          let (j, p) = passes pe x l.first in
          let len : length u ≡ length x + 1 = ap length l.split ∙ length-append x l.right ∙ ap (λ (q : List ℕ). length x + length q) l.second in
          rw (e, body_ends x v (delimited pe x l.first), take-append_seam x (62 ∷ v), p, len)

-- The internal subset as a list of entries, as it is written and as it is read, over any reader of its declarations. Assumes nothing.
use mathlib.Core.Bool.{Bool, true, false}
use mathlib.Core.List.{List, [], ◌∷◌, ◌++◌, append_assoc, append-nil}
use mathlib.Core.Path.{◌≡◌, refl, sym, ◌∙◌, ap, subst}
use Prim.Native.Nat.{ℕ, zero, suc, ◌+◌, ◌<◌}
use native.Mathlib.Omega.{arith}
use lib.Dec.{T}
use lib.ListN.{length, length-append}
use Rattle.spec.specs.Grammar.Characters.{S, S?}
use Rattle.spec.specs.Grammar.Languages.{Lang, lit, ascii, ◌·◌, ◌∣◌, inl, inr, Star, end, more, Opt, any}
use Rattle.spec.specs.Grammar.Names.{Dialect, PEReference, AsciiNames}
use Rattle.spec.specs.Reading.Dtd.{skip_s, parse_pe_reference, parse_markup_decl, subset_fuel, parse_internal_subset}
use Rattle.spec.specs.Reading.Readers.{ok, Reader, ◌>>◌, refuse, at_end, starts, choose, on, word}
use Rattle.spec.specs.Reading.Refusals.{unterminated, unexpected, too_deep}
use Rattle.spec.proofs.Agreement.Algebra.{ε, cat, same}
use Rattle.spec.proofs.Agreement.Choices.{refuse_reads}
use Rattle.spec.proofs.Agreement.Reads.{Sound, Complete, Leads, Reads, Next, sound_seq, complete_seq, seq, as_lang, weaken, took_as, sound_choose, ◌≅◌}
use Rattle.spec.proofs.Agreement.Runs.{not_space, skip, spaces, s_s?, no_spaces}
use Rattle.spec.proofs.Agreement.Signs.{kind, Class, Sub, by_signs, sub_any, sub_refl, ◌∪◌, in_left, in_right}
use Rattle.spec.proofs.Agreement.Whole.{at_end_reads}
use Rattle.spec.proofs.Agreement.Words.{wd, first_of, starts_clash, starts_sign}
use Rattle.spec.proofs.Base.Results.{err_ok}
use Rattle.spec.proofs.Characters.Text.{star_append, cat_size}
use Rattle.spec.proofs.Wellformed.Names.{name_reads}

module _ (D : Dialect) (M : Bool → Lang) where
  -- an entry, by whether a parameter-entity reference has stood before it, and has stood after it
  pub data Entry (pe : Bool) : Bool → List ℕ → Type 0 where
    refer : {y : List ℕ} → PEReference D y → Entry pe true y
    declare : {y : List ℕ} → M pe y → Entry pe pe y

  -- entries that fill a text, with nothing but white space beside them
  pub data Items : Bool → List ℕ → Type 0 where
    last : {pe : Bool} {w : List ℕ} → S? w → Items pe w
    next : {pe after : Bool} {w : List ℕ} (x y z : List ℕ) → w ≡ x ++ (y ++ z) → S? x → Entry pe after y → Items after z → Items pe w

  -- white space in front of them
  prepend : {pe : Bool} {w : List ℕ} (x : List ℕ) → S? x → Items pe w → Items pe (x ++ w)
  unfolding S?
  prepend x s (last b) = last (star_append s b)
  prepend x s (next a y z e q p i) = next (x ++ a) y z (ap (λ (u : List ℕ). x ++ u) e ∙ sym (append_assoc x a (y ++ z))) (star_append s q) p i

  -- as W3C's text writes it
  abbrev pub UnreadItems : Lang
  UnreadItems = Star (M true ∣ PEReference D ∣ S)

  abbrev pub Written : Lang
  Written = Star (M false ∣ S) · Opt (PEReference D · UnreadItems)

  unread_written : {w : List ℕ} → Items true w → UnreadItems w
  unread_written (last b) = spaces (λ w s. inr (inr s)) b
  unread_written (next x y z e s (refer p) i) = subst UnreadItems (sym e) (star_append (spaces (λ w s. inr (inr s)) s) (more y z refl (inr (inl p)) (unread_written i)))
  unread_written (next x y z e s (declare m) i) = subst UnreadItems (sym e) (star_append (spaces (λ w s. inr (inr s)) s) (more y z refl (inl m) (unread_written i)))

  read_written : {w : List ℕ} → Items false w → Written w
  read_written {w} (last b) = record { left = w; right = []; split = sym (append-nil w); first = spaces (λ w s. inr s) b; second = inr refl }
  read_written (next x y z e s (refer p) i) =
      record { left = x; right = y ++ z; split = e; first = spaces (λ w s. inr s) s; second = inl (record { left = y; right = z; split = refl; first = p; second = unread_written i }) }
  read_written (next x y z e s (declare m) i) =
      let t : Written z = read_written i in
      record {
        left = x ++ (y ++ t.left);
        right = t.right;
        split = e ∙ ap (λ (q : List ℕ). x ++ (y ++ q)) t.split ∙ ap (λ (q : List ℕ). x ++ q) (sym (append_assoc y t.left t.right)) ∙ sym (append_assoc x (y ++ t.left) t.right);
        first = star_append (spaces (λ w s. inr s) s) (more y t.left refl (inl m) t.first);
        second = t.second;
      }

  unread_items : {u : List ℕ} → UnreadItems u → Items true u
  unread_items (end e) = last (subst S? (sym e) no_spaces)
  unread_items (more x y e (inl m) s) = next [] x y e no_spaces (declare m) (unread_items s)
  unread_items (more x y e (inr (inl p)) s) = next [] x y e no_spaces (refer p) (unread_items s)
  unread_items (more x y e (inr (inr p)) s) = subst (Items true) (sym e) (prepend x (s_s? x p) (unread_items s))

  read_items : {u : List ℕ} (o : List ℕ) → Star (M false ∣ S) u → Opt (PEReference D · UnreadItems) o → Items false (u ++ o)
  read_items o (end e) (inr n) = last (subst S? (sym (λ i. e i ++ n i)) no_spaces)
  read_items o (end e) (inl c) = next [] c.left c.right (λ i. e i ++ c.split i) no_spaces (refer c.first) (unread_items c.second)
  read_items o (more x y e (inl m) s) q = next [] x (y ++ o) (ap (λ (z : List ℕ). z ++ o) e ∙ append_assoc x y o) no_spaces (declare m) (read_items o s q)
  read_items o (more x y e (inr p) s) q = subst (Items false) (sym (ap (λ (z : List ℕ). z ++ o) e ∙ append_assoc x y o)) (prepend x (s_s? x p) (read_items o s q))

  pub written : Items false ≅ Written
  written = record { to = λ w i. read_written i; from = λ w c. subst (Items false) (sym c.split) (read_items c.right c.first c.second) }

module _ (D : Dialect) (A : AsciiNames D) where
  pub pe_reads : Reads (parse_pe_reference D) (PEReference D) (Next any) (first_of "%")
  unfolding parse_pe_reference PEReference
  pe_reads = seq (wd "%" unexpected tt) sub_any (seq (weaken (by_signs tt) sub_refl (name_reads D A)) sub_refl (wd ";" unexpected tt))

module _ (D : Dialect) (A : AsciiNames D) (M : Bool → Lang) (reads_markup : (pe : Bool) → Reads (parse_markup_decl D too_deep pe) (M pe) (Next any) (first_of "<")) where
  -- what is left of a subset, up to its ']', as it is read
  abbrev Closed : Bool → Lang
  Closed pe = Items D M pe · lit "]"

  abbrev Item : Bool → Lang
  Item pe = lit "]" ∣ (PEReference D · Closed true) ∣ (M pe · Closed pe) ∣ (λ w. ⊥)

  items : (pe : Bool) (w : List ℕ) → (S? · Item pe) w → Closed pe w
  items pe w c = go c.left c.right c.split c.first c.second
    where
      onto : {after : Bool} (x y z : List ℕ) → w ≡ x ++ (y ++ z) → S? x → Entry D M pe after y → Closed after z → Closed pe w
      onto x y z e s p c = record {
        left = x ++ (y ++ c.left);
        right = c.right;
        split = e ∙ ap (λ (u : List ℕ). x ++ (y ++ u)) c.split ∙ ap (λ (u : List ℕ). x ++ u) (sym (append_assoc y c.left c.right)) ∙ sym (append_assoc x (y ++ c.left) c.right);
        first = next x y c.left refl s p c.first;
        second = c.second;
      }

      go : (x q : List ℕ) → w ≡ x ++ q → S? x → Item pe q → Closed pe w
      go x q e s (inl l) = record { left = x; right = q; split = e; first = last s; second = l }
      go x q e s (inr (inl l)) = onto x l.left l.right (e ∙ ap (λ (z : List ℕ). x ++ z) l.split) s (refer l.first) l.second
      go x q e s (inr (inr (inl l))) = onto x l.left l.right (e ∙ ap (λ (z : List ℕ). x ++ z) l.split) s (declare l.first) l.second
      go x q e s (inr (inr (inr z))) = absurd z

  subset_sound : (d : ℕ) (pe : Bool) → Sound (subset_fuel D too_deep d pe) (Closed pe)
  unfolding subset_fuel on refuse
  subset_sound zero pe w k tw e = absurd (err_ok unterminated k e)
  subset_sound (suc d) pe w k tw e = go (subset_sound d) w k tw e
    where
      never : Sound (at_end unexpected >> refuse unterminated) (λ w. ⊥)
      never w k tw e = took_as (λ u c. c.second) refl (sound_seq (at_end unexpected) (refuse unterminated) ε (λ w. ⊥) (at_end_reads unexpected).sound (refuse_reads {F = ε} unterminated any).sound w k tw e)

      go : ((b : Bool) → Sound (subset_fuel D too_deep d b) (Closed b)) → Sound (subset_fuel D too_deep (suc d) pe) (Closed pe)
      go ih w k tw e =
          took_as (items pe) refl
          (sound_seq skip_s _ S? (Item pe) (skip not_space sub_refl).sound
          (sound_choose (starts (ascii "]")) (wd "]" unexpected tt).sound
          (sound_choose (starts (ascii "%")) (sound_seq _ _ (PEReference D) (Closed true) (pe_reads D A).sound (ih true))
          (sound_choose (starts (ascii "<")) (sound_seq _ _ (M pe) (Closed pe) (reads_markup pe).sound (ih pe)) never))) w k tw e)

  -- each is read back
  rest_reader : ℕ → Bool → Reader
  rest_reader d pe =
      on "]" (word "]" unexpected)
      (on "%" (parse_pe_reference D >> λ x. subset_fuel D too_deep d true x) (on "<" (parse_markup_decl D too_deep pe >> λ x. subset_fuel D too_deep d pe x) (at_end unexpected >> refuse unterminated)))

  step : (d : ℕ) (pe : Bool) (K : Lang) (f : Class) → Sub f not_space → Leads K (Next any) f → Complete (rest_reader d pe) K (Next any) → (w v : List ℕ) → (S? · K) w → subset_fuel D too_deep (suc d) pe (w ++ v) ≡ ok (length w)
  unfolding subset_fuel rest_reader
  step d pe K f h lead c w v k =
      complete_seq skip_s (rest_reader d pe) S? K (Next f) (Next any) (skip f h).complete c (λ u v m t. record { it = lead u v m t }) w v k (record { it = tt })

  -- an entry begins with one of two signs, so it is not empty
  abbrev entry_first : Class
  entry_first = first_of "%" ∪ first_of "<"

  entry_leads : {pe after : Bool} (y v : List ℕ) → Entry D M pe after y → T (entry_first (kind (y ++ v)))
  entry_leads y v (refer p) = in_left (first_of "%" (kind (y ++ v))) (first_of "<" (kind (y ++ v))) ((pe_reads D A).leads y v p (record { it = tt }))
  entry_leads {pe} y v (declare m) = in_right (first_of "%" (kind (y ++ v))) (first_of "<" (kind (y ++ v))) ((reads_markup pe).leads y v m (record { it = tt }))

  entry_some : {pe after : Bool} (y : List ℕ) → Entry D M pe after y → 0 < length y
  unfolding kind
  entry_some [] p = absurd (entry_leads [] [] p)
  entry_some (b ∷ y) p = omega arith

  close_complete : (d : ℕ) (pe : Bool) → Complete (rest_reader d pe) (lit "]") (Next any)
  unfolding rest_reader on choose
  close_complete d pe u v e t = rw (starts_sign 93 (u ++ v) (omega arith) ((wd "]" unexpected tt).leads u v e t)) ((wd "]" unexpected tt).complete u v e t)

  -- an entry, and then z, which is read on from there
  module _ (d : ℕ) (after : Bool) (z : List ℕ) (ih : (v : List ℕ) → subset_fuel D too_deep d after (z ++ v) ≡ ok (length z)) where
    then_rest : (r : Reader) (L : Lang) → Complete r L (Next any) → Complete (r >> λ x. subset_fuel D too_deep d after x) (L · (λ q. q ≡ z)) (Next any)
    then_rest r L c =
        complete_seq r (λ x. subset_fuel D too_deep d after x) L (λ q. q ≡ z) (Next any) (Next any) c
        (λ q v e t. ap (λ (y : List ℕ). subset_fuel D too_deep d after (y ++ v)) e ∙ ih v ∙ ap (λ (y : List ℕ). ok (length y)) (sym e)) (λ u v m t. record { it = tt })

  entry_complete : (d : ℕ) {pe after : Bool} (z : List ℕ) → ((v : List ℕ) → subset_fuel D too_deep d after (z ++ v) ≡ ok (length z)) → (u v : List ℕ) (l : (Entry D M pe after · (λ q. q ≡ z)) u) → rest_reader d pe (u ++ v) ≡ ok (length u)
  unfolding rest_reader on choose
  entry_complete d {pe} {after} z ih u v l = go l.left l.right l.split l.second l.first ih
    where
      go : {n : Bool} (x y : List ℕ) → u ≡ x ++ y → y ≡ z → Entry D M pe n x → ((v : List ℕ) → subset_fuel D too_deep d n (z ++ v) ≡ ok (length z)) → rest_reader d pe (u ++ v) ≡ ok (length u)
      go x y e f (refer p) ih =
          let lead : T (first_of "%" (kind (u ++ v))) = rw (e, append_assoc x y v) ((pe_reads D A).leads x (y ++ v) p (record { it = tt })) in
          rw (starts_clash (ascii "]") [] (first_of "%") (u ++ v) tt lead, starts_sign 37 (u ++ v) (omega arith) lead)
          (then_rest d true z ih (parse_pe_reference D) (PEReference D) (pe_reads D A).complete u v (record { left = x; right = y; split = e; first = p; second = f }) (record { it = tt }))
      go x y e f (declare m) ih =
          let lead : T (first_of "<" (kind (u ++ v))) = rw (e, append_assoc x y v) ((reads_markup pe).leads x (y ++ v) m (record { it = tt })) in
          rw (starts_clash (ascii "]") [] (first_of "<") (u ++ v) tt lead, starts_clash (ascii "%") [] (first_of "<") (u ++ v) tt lead, starts_sign 60 (u ++ v) (omega arith) lead)
          (then_rest d pe z ih (parse_markup_decl D too_deep pe) (M pe) (reads_markup pe).complete u v (record { left = x; right = y; split = e; first = m; second = f }) (record { it = tt }))

  subset_complete : (d : ℕ) {pe : Bool} {w : List ℕ} → Items D M pe w → length w < d → (v : List ℕ) → subset_fuel D too_deep d pe ((w ++ ascii "]") ++ v) ≡ ok (length (w ++ ascii "]"))
  subset_complete zero {w = w} i h v = absurd (omega arith)
  subset_complete (suc d) {pe} {w} (last b) h v =
      step d pe (lit "]") (first_of "]") (by_signs tt) (wd "]" unexpected tt).leads (close_complete d pe) (w ++ ascii "]") v (record { left = w; right = ascii "]"; split = refl; first = b; second = refl })
  subset_complete (suc d) {pe} {w} (next {after = after} x y z e s p i) h v =
      let a : length w ≡ length x + (length y + length z) = ap length e ∙ length-append x (y ++ z) ∙ ap (λ (n : ℕ). length x + n) (length-append y z) in
      let b : 0 < length y = entry_some y p in
      step d pe (Entry D M pe after · (λ q. q ≡ z ++ ascii "]")) entry_first (by_signs tt)
      (λ u v l t. rw (l.split, append_assoc l.left l.right v) (entry_leads l.left (l.right ++ v) l.first))
      (λ u v l t. entry_complete d (z ++ ascii "]") (subset_complete d i (omega arith)) u v l) (w ++ ascii "]") v
      (record {
        left = x;
        right = y ++ (z ++ ascii "]");
        split = ap (λ (q : List ℕ). q ++ ascii "]") e ∙ append_assoc x (y ++ z) (ascii "]") ∙ ap (λ (q : List ℕ). x ++ q) (append_assoc y z (ascii "]"));
        first = s;
        second = record { left = y; right = z ++ ascii "]"; split = refl; first = p; second = refl };
      })

  items_read : Reads (parse_internal_subset D too_deep) (Closed false) (Next any) any
  unfolding parse_internal_subset
  items_read = record {
    sound = λ w k tw e. subset_sound (suc (length w)) false w k tw e;
    complete = λ u v c t.
        let f : u ≡ c.left ++ ascii "]" = c.split ∙ ap (λ (q : List ℕ). c.left ++ q) c.second in
        subst (λ (q : List ℕ). subset_fuel D too_deep (suc (length (u ++ v))) false (q ++ v) ≡ ok (length q)) (sym f)
        (subset_complete (suc (length (u ++ v))) c.first (omega (arith, length-append u v, cat_size c)) v);
    leads = λ u v i t. tt;
  }

  pub subset_reads : Reads (parse_internal_subset D too_deep) (Written D M · lit "]") (Next any) any
  subset_reads = as_lang (cat (written D M) same) items_read

-- Laws of the walk from one unread declaration to the next. Assumes nothing.
use mathlib.Core.Path.{◌≡◌, refl, sym, ◌∙◌, ap}
use mathlib.Core.Bool.{Bool, true, false, ◌||◌, true≢false, or-false, or_comm}
use mathlib.Core.List.{List, [], ◌∷◌}
use Prim.Native.Nat.{ℕ, zero, suc, ◌+◌, ◌-◌, ◌^◌, ◌≤◌, ◌<◌}
use native.Mathlib.Omega.{arith}
use borrow.Author.Rules.{rules}
use mir.Syntax.{w64}
use mir.Val.{Fits}
use lib.ListN.{length, take, drop, length-drop}
use lib.Seq.{slice, drop-drop, length-slice, take-take}
use Rattle.std.specs.Option.{unwrap_or}
use Rattle.std.specs.Prelude.{Option, Some, None, Ok, Err}
use Rattle.spec.specs.Basics.{pick}
use Rattle.spec.specs.Grammar.Characters.{space}
use Rattle.spec.specs.Grammar.Division.{Kind, element, attlist, entity, notation, instruction, comment, reference, Entry, refers, keyword}
use Rattle.spec.specs.Grammar.Languages.{ascii}
use Rattle.spec.specs.Grammar.Names.{Dialect}
use Rattle.spec.specs.Reading.Dtd.{has_pe_reference}
use Rattle.spec.specs.Reading.Entries.{kind_at, one_entry, entries_from}
use Rattle.spec.specs.Reading.Readers.{ok, run}
use Rattle.spec.specs.Unread.{body_of, goes_unread, unread_entries}
use Rattle.spec.proofs.Base.Places.{drop_take}
use Rattle.spec.proofs.Division.Delimited.{entry_some, from_some, from_none}
use Rattle.spec.proofs.Division.Unread.{entry_room}
use Rattle.spec.proofs.Inside.Readers.{in_entry}
use Rattle.error.specs.Read.{said, read, Answer}
use Rattle.error.specs.declared.Fault.{Fault}
use Rattle.error.proofs.Laws.{was_ok, was_err}
use Rattle.entries.specs.Kinds.{kind_of, keyword_size, some_bytes, referred}
use Rattle.entries.specs.Walk.{Holds, unread_there, unread_from, first_among, first_from, Finds}
use Rattle.entries.specs.declared.kinds.Kind as Code
use Rattle.entries.specs.declared.walk.Unread.{Unread}

no_size : {n : ℕ} → ◌≡◌ {A = Option ℕ} None (Some n) → ⊥
no_size e = let z : ◌≡◌ {A = ℕ} 0 1 = cc in omega arith

none_here : {u : Unread} → ◌≡◌ {A = Option Unread} None (Some u) → ⊥
none_here e = let z : ◌≡◌ {A = ℕ} 0 1 = cc in omega arith

first_of : Option Unread → ℕ
first_of None = 0
first_of (Some u) = u.first

past_of : Option Unread → ℕ
past_of None = 0
past_of (Some u) = u.past

-- what goes unread is no reference
unread_refers : (D : Dialect) (pe : Bool) (k : Kind) (y : List ℕ) → goes_unread D pe k y ≡ true → refers k ≡ false
unread_refers D pe element y e = refl
unread_refers D pe attlist y e = refl
unread_refers D pe entity y e = refl
unread_refers D pe notation y e = refl
unread_refers D pe instruction y e = refl
unread_refers D pe comment y e = refl
unread_refers D pe reference y e = absurd (true≢false (sym e))

-- the body of a declaration, as a part of the text
body_part : (k : Kind) (s : List ℕ) (first past : ℕ) → Holds k s first past
    → body_of k (slice first past s) ≡ take (past - 1 - (first + keyword_size k)) (drop (first + keyword_size k) s)
unfolding keyword_size
body_part k s first past h =
    let n : ℕ = length (ascii (keyword k)) in
    let r : first + n < past = h.room in
    let l : length (slice first past s) ≡ past - first = length-slice first past s h.within in
    let m : past - first - 1 ≡ past - 1 - first = omega arith in
    let o : past - 1 - first - n ≡ past - 1 - (first + n) = omega arith in
    ap (drop n) (ap (λ (i : ℕ). take i (slice first past s)) (ap (λ (i : ℕ). i - 1) l ∙ m) ∙ ap (take (past - 1 - first)) (drop_take first past s) ∙ take-take (past - 1 - first) (past - first) (drop first s) (omega arith))
    ∙ drop_take n (past - 1 - first) (drop first s)
    ∙ (λ i. take (o i) (drop-drop n first s i))

-- what the keyword's size says: there is none, or it has bytes
no_bytes : (m : ℕ) → None ≡ some_bytes m → m ≡ 0
unfolding some_bytes
no_bytes zero e = refl
no_bytes (suc m) e = absurd (no_size e)

bytes_of : (m n : ℕ) → Some n ≡ some_bytes m → (n ≡ m) × (m ≡ 0 → ⊥)
unfolding some_bytes
bytes_of zero n e = absurd (no_size (sym e))
bytes_of (suc m) n e = (ap (λ (r : Option ℕ). unwrap_or r 0) e, λ (z : suc m ≡ 0). omega arith)

-- What is_unread looks at: r is the size of the keyword, and after it the part.
module _ (k : Kind) (s : List ℕ) (first past : ℕ) (h : Holds k s first past) where
  pub past_some : 1 ≤ past
  past_some = let r = h.room in omega arith

  pub past_within : past - 1 ≤ length s
  past_within = let w = h.within in omega arith

  module _ (r : Option ℕ) (e : r ≡ some_bytes (keyword_size k)) (n : ℕ) (f : r ≡ Some n) where
    pub unread_fits : length s < 2 ^ 64 → Fits w64 (first + n)
    unread_fits l = let (m, z) = bytes_of (keyword_size k) n (sym f ∙ e) in let r = h.room in let w = h.within in omega arith

    pub unread_part : first + n ≤ past - 1
    unread_part = let (m, z) = bytes_of (keyword_size k) n (sym f ∙ e) in let r = h.room in omega arith

-- the answer by the size
module _ (D : Dialect) (pe : Bool) (k : Kind) (s : List ℕ) (first past : ℕ) (r : Option ℕ) (e : r ≡ some_bytes (keyword_size k)) where
  -- by kind: a declaration's keyword has bytes, and nothing else has one
  size_none : keyword_size k ≡ 0 → (y : List ℕ) → goes_unread D pe k y ≡ false
  unfolding keyword_size
  size_none z y = go k z
    where
      go : (k : Kind) → length (ascii (keyword k)) ≡ 0 → goes_unread D pe k y ≡ false
      go element f = absurd (let z : 9 ≡ 0 = f in omega arith)
      go attlist f = absurd (let z : 9 ≡ 0 = f in omega arith)
      go entity f = absurd (let z : 8 ≡ 0 = f in omega arith)
      go notation f = absurd (let z : 10 ≡ 0 = f in omega arith)
      go instruction f = refl
      go comment f = refl
      go reference f = refl

  size_some : (keyword_size k ≡ 0 → ⊥) → (y : List ℕ) → goes_unread D pe k y ≡ (pe || has_pe_reference D (body_of k y))
  unfolding keyword_size
  size_some z y = go k z
    where
      go : (k : Kind) → (length (ascii (keyword k)) ≡ 0 → ⊥) → goes_unread D pe k y ≡ (pe || has_pe_reference D (body_of k y))
      go element f = refl
      go attlist f = refl
      go entity f = refl
      go notation f = refl
      go instruction f = absurd (f refl)
      go comment f = absurd (f refl)
      go reference f = absurd (f refl)

  pub unread_none : r ≡ None → false ≡ unread_there D pe k s first past
  unfolding unread_there
  unread_none z = sym (size_none (no_bytes (keyword_size k) (sym z ∙ e)) (slice first past s))

  module _ (n : ℕ) (z : r ≡ Some n) where
    pub unread_used : pe ≡ true → true ≡ unread_there D pe k s first past
    unfolding unread_there
    unread_used f = sym (size_some (bytes_of (keyword_size k) n (sym z ∙ e)).1 (slice first past s) ∙ (rw f))

    pub unread_body : Holds k s first past → pe ≡ false → (t : Bool) → t ≡ has_pe_reference D (take (past - 1 - (first + n)) (drop (first + n) s)) → t ≡ unread_there D pe k s first past
    unfolding unread_there
    unread_body h f t g =
        let (m, o) = bytes_of (keyword_size k) n (sym z ∙ e) in
        g ∙ ap (λ (i : ℕ). has_pe_reference D (take (past - 1 - (first + i)) (drop (first + i) s))) m ∙ sym (size_some o (slice first past s) ∙ (rw (f, body_part k s first past h)))

-- here is the place after white space at i, and r where an entry that begins there ends
module _ (D : Dialect) (s : List ℕ) (i here : ℕ) (h : here ≡ i + run space (drop i s)) (r : Answer) (a : said r ≡ read (one_entry D) s here) where
  left : drop (run space (drop i s)) (drop i s) ≡ drop here s
  left = drop-drop (run space (drop i s)) i s ∙ ap (λ (n : ℕ). drop n s) (sym h)

  met_none : (x : Fault) → r ≡ Err x → entries_from D i (drop i s) ≡ []
  met_none x e = let (m, (j, (f, g))) = was_err (one_entry D) s here x r a e in from_none D i (drop i s) m j (ap (one_entry D) left ∙ f)

  -- nothing goes unread from i on; the walk began at i₀
  pub walk_none : (pe₀ pe : Bool) (i₀ : ℕ) (x : Fault) → first_from D s pe i ≡ first_from D s pe₀ i₀ → unread_from D s pe i ≡ unread_from D s pe₀ i₀ → r ≡ Err x → Finds D s pe₀ i₀ None
  unfolding first_from unread_from
  walk_none pe₀ pe i₀ x u v e = record {
    answer = sym (ap (first_among D s pe) (met_none x e)) ∙ u;
    list = sym (ap (unread_entries D s pe) (met_none x e)) ∙ v;
    onward = λ u g. absurd (none_here g);
  }

  module _ (j : ℕ) (e : r ≡ Ok j) where
    met_some : entries_from D i (drop i s) ≡ record { kind = kind_at (drop here s); first = here; past = j } ∷ entries_from D j (drop j s)
    met_some =
        let (k, (f, g)) = was_ok (one_entry D) s here j r a e in
        let l : i + run space (drop i s) + k ≡ j = ap (λ (n : ℕ). n + k) (sym h) ∙ sym g in
        let d : drop k (drop (run space (drop i s)) (drop i s)) ≡ drop j s = ap (drop k) left ∙ drop-drop k here s ∙ ap (λ (n : ℕ). drop n s) (sym g) in
        let g' : i + run space (drop i s) ≡ here = sym h in
        from_some D i (drop i s) k (ap (one_entry D) left ∙ f)
        ∙ (λ t. record { kind = kind_at (left t); first = g' t; past = l t } ∷ entries_from D (l t) (d t))

    -- it lies further on, in the text
    met_further : (i ≤ here) × (here < j) × (j ≤ length s)
    met_further =
        let (k, (f, g)) = was_ok (one_entry D) s here j r a e in
        let (z, y) = entry_some D (drop here s) k f in
        let l : k ≤ length (drop here s) = subst_stop k f in
        (omega arith, omega arith, omega (arith, length-drop here s))
      where
        subst_stop : (k : ℕ) → one_entry D (drop here s) ≡ ok k → k ≤ length (drop here s)
        subst_stop k f = rw f at ((in_entry D).inside (drop here s))

    pub walk_less : length s - j < length s - i
    walk_less = let (x, y, z) = met_further in omega arith

    pub walk_onward : (i₀ : ℕ) → i₀ ≤ i → i₀ ≤ j
    walk_onward i₀ l = let (x, y, z) = met_further in omega arith

    -- its kind
    module _ (kind : Code.Kind) (g : kind_of kind ≡ kind_at (drop here s)) where
      pub walk_holds : Holds (kind_of kind) s here j
      unfolding keyword_size
      walk_holds =
          let (k, (f, l)) = was_ok (one_entry D) s here j r a e in
          let m : length (ascii (keyword (kind_at (drop here s)))) < k = entry_room D (drop here s) k f in
          record { room = rw g (omega arith); within = met_further.2 }

      -- whether it goes unread
      module _ (pe u : Bool) (t : u ≡ unread_there D pe (kind_of kind) s here j) where
        told : goes_unread D pe (kind_at (drop here s)) (slice here j s) ≡ u
        unfolding unread_there
        told = sym (t ∙ (rw g))

        first_met : first_from D s pe i ≡ pick u (Some (record { first = here; past = j; pe_used = pe })) (first_among D s (pe || refers (kind_at (drop here s))) (entries_from D j (drop j s)))
        unfolding first_from
        first_met = ap (first_among D s pe) met_some ∙ (rw told)

        rest_met : unread_from D s pe i ≡ pick u (record { kind = kind_at (drop here s); first = here; past = j } ∷ unread_entries D s (pe || refers (kind_at (drop here s))) (entries_from D j (drop j s))) (unread_entries D s (pe || refers (kind_at (drop here s))) (entries_from D j (drop j s)))
        unfolding unread_from
        rest_met = ap (unread_entries D s pe) met_some ∙ (rw told)

        pub walk_hit : (pe₀ : Bool) (i₀ : ℕ) → first_from D s pe i ≡ first_from D s pe₀ i₀ → unread_from D s pe i ≡ unread_from D s pe₀ i₀ → i₀ ≤ i → u ≡ true → Finds D s pe₀ i₀ (Some (record { first = here; past = j; pe_used = pe }))
        unfolding unread_from
        walk_hit pe₀ i₀ x y l z = record {
          answer = sym (first_met ∙ (rw z)) ∙ x;
          list =
              let n : refers (kind_at (drop here s)) ≡ false = unread_refers D pe (kind_at (drop here s)) (slice here j s) (told ∙ z) in
              let m : (pe || refers (kind_at (drop here s))) ≡ pe = ap (λ (b : Bool). pe || b) n ∙ or-false pe in
              sym (rest_met ∙ (rw (z, m))) ∙ y;
          onward = λ v q. let (b, c, d) = met_further in let m : here ≡ v.first = (unfold first_of in ap first_of q) in let o : j ≡ v.past = (unfold past_of in ap past_of q) in (omega arith, omega arith, omega arith);
        }

        module _ (z : u ≡ false) (pe' : Bool) (q : pe' ≡ referred pe (kind_of kind)) where
          on : pe' ≡ (pe || refers (kind_at (drop here s)))
          unfolding referred
          on = q ∙ (rw g) ∙ or_comm (refers (kind_at (drop here s))) pe

          pub walk_first : (F : Option Unread) → first_from D s pe i ≡ F → first_from D s pe' j ≡ F
          unfolding first_from
          walk_first F x = ap (λ (b : Bool). first_among D s b (entries_from D j (drop j s))) on ∙ sym (first_met ∙ (rw z)) ∙ x

          pub walk_rest : (U : List Entry) → unread_from D s pe i ≡ U → unread_from D s pe' j ≡ U
          unfolding unread_from
          walk_rest U x = ap (λ (b : Bool). unread_entries D s b (entries_from D j (drop j s))) on ∙ sym (rest_met ∙ (rw z)) ∙ x

pub ruleset telling = (past_some, past_within, unread_none, unread_used, rules)

pub ruleset walking = (walk_none, walk_less, walk_onward, walk_holds, walk_hit, walk_first, walk_rest, rules)

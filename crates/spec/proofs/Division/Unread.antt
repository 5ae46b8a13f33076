-- The declarations that go unread, among the entries that are met: how many, what of them is the body, and that there are none in a text
-- without '%'. Assumes nothing.
use mathlib.Core.Bool.{Bool, true, false, ◌&&◌, true≢false, and-true}
use mathlib.Core.List.{List, [], ◌∷◌, ◌++◌}
use mathlib.Core.Path.{◌≡◌, refl, sym, ◌∙◌, ap}
use Prim.Native.Nat.{ℕ, zero, suc, ◌+◌, ◌-◌, ◌<◌}
use Prim.Native.String.{String}
use native.Mathlib.Omega.{arith}
use lib.Dec.{eqb}
use lib.ListN.{length, take, drop}
use lib.Seq.{slice}
use Rattle.spec.specs.Basics.{pick}
use Rattle.spec.specs.Grammar.Characters.{space}
use Rattle.spec.specs.Grammar.Division.{Kind, element, attlist, entity, notation, instruction, comment, reference, Entry, refers, keyword}
use Rattle.spec.specs.Grammar.Languages.{ascii}
use Rattle.spec.specs.Grammar.Names.{Dialect, AsciiNames}
use Rattle.spec.specs.Reading.Dtd.{finish_decl, take_decl_body, has_pe_reference, parse_markup_decl, parse_element_decl, parse_attlist_decl, parse_entity_decl, parse_notation_decl}
use Rattle.spec.specs.Reading.Entries.{kind_at, one_entry, listed, entries_fuel, entries_from, from_open, declarations}
use Rattle.spec.specs.Reading.Places.{Place, at, nowhere}
use Rattle.spec.specs.Reading.Readers.{Result, ok, err, Reader, ◌>>◌, nothing, refuse, starts, choose, on, word, word_of, run, contains}
use Rattle.spec.specs.Reading.Refusals.{Refusal, unexpected, too_deep}
use Rattle.spec.specs.Reading.Scan.{subset_open}
use Rattle.spec.specs.Unread.{body_of, goes_unread, unread_entries, CountsUnread}
use Rattle.spec.proofs.Agreement.Words.{starts_split}
use Rattle.spec.proofs.Base.Results.{ok_inj, by_reader, on_ok_ok, then_ok, else_refused, unless_refuses}
use Rattle.spec.proofs.Base.Tests.{or_false_left, or_false_right}
use Rattle.spec.proofs.Division.Delimited.{entry_some}
use Rattle.spec.proofs.Division.Places.{front_declares, division_declares}

-- what holds of each of two values holds of the one that a test picks
by_test : {A : Type 0} (P : A → Type 0) (t : Bool) (x y : A) → (t ≡ true → P x) → (t ≡ false → P y) → P (pick t x y)
by_test P true x y f g = f refl
by_test P false x y f g = g refl

else_on : (s : String) (r q : Reader) (w : List ℕ) {k : ℕ} → starts (ascii s) w ≡ false → on s r q w ≡ ok k → q w ≡ ok k
unfolding on choose
else_on s r q w {k} n e = by_reader (starts (ascii s) w) r q w (ok k) (λ t _. absurd (true≢false (sym t ∙ n))) (λ _ f. f) e

unrefused : (s : String) (n : Refusal) (q : Reader) (w : List ℕ) {k : ℕ} → on s (refuse n) q w ≡ ok k → q w ≡ ok k
unfolding on choose
unrefused s n q w {k} e = (unless_refuses n (starts (ascii s) w) q w k e).1

-- A text without '%': so are its parts, and none has a parameter-entity reference.
abbrev Without : List ℕ → Type 0
Without w = contains (37 ∷ []) w ≡ false

without_drop : (n : ℕ) (w : List ℕ) → Without w → Without (drop n w)
unfolding contains
without_drop zero w e = e
without_drop (suc n) [] e = refl
without_drop (suc n) (b ∷ w) e = without_drop n w (or_false_right (starts (37 ∷ []) (b ∷ w)) (contains (37 ∷ []) w) e)

without_take : (n : ℕ) (w : List ℕ) → Without w → Without (take n w)
unfolding contains starts
without_take zero w e = refl
without_take (suc n) [] e = refl
without_take (suc n) (b ∷ w) e =
    rw (or_false_left (eqb b 37 && true) (contains (37 ∷ []) w) e, without_take n w (or_false_right (eqb b 37 && true) (contains (37 ∷ []) w) e))

without_first : (w : List ℕ) → Without w → starts (ascii "%") w ≡ false
unfolding contains starts
without_first [] e = refl
without_first (b ∷ w) e = or_false_left (eqb b 37 && true) (contains (37 ∷ []) w) e

module _ (D : Dialect) where
  without_reference : (w : List ℕ) → Without w → has_pe_reference D w ≡ false
  unfolding contains starts has_pe_reference
  without_reference [] e = refl
  without_reference (b ∷ w) e =
      let f : eqb b 37 ≡ false = sym (and-true (eqb b 37)) ∙ or_false_left (eqb b 37 && true) (contains (37 ∷ []) w) e in
      rw (f, without_reference w (or_false_right (eqb b 37 && true) (contains (37 ∷ []) w) e))

  calm_body : (k : Kind) (y : List ℕ) → Without y → has_pe_reference D (body_of k y) ≡ false
  calm_body k y e = without_reference (body_of k y) (without_drop (length (ascii (keyword k))) (take (length y - 1) y) (without_take (length y - 1) y e))

  calm : (k : Kind) (y : List ℕ) → Without y → goes_unread D false k y ≡ false
  calm element y e = calm_body element y e
  calm attlist y e = calm_body attlist y e
  calm entity y e = calm_body entity y e
  calm notation y e = calm_body notation y e
  calm instruction y e = refl
  calm comment y e = refl
  calm reference y e = refl

  -- the last four words of parse_markup_decl
  abbrev parse_declaration : Reader
  parse_declaration =
      on "<!ELEMENT" (word "<!ELEMENT" unexpected >> finish_decl D true (parse_element_decl D too_deep))
      (on "<!ATTLIST" (word "<!ATTLIST" unexpected >> finish_decl D true (parse_attlist_decl D))
      (on "<!ENTITY" (word "<!ENTITY" unexpected >> finish_decl D true (parse_entity_decl D))
      (word "<!NOTATION" unexpected >> finish_decl D true (parse_notation_decl D))))

  -- what begins with none of the words of parse_markup_decl is no entry, unless it begins with '%'
  no_word : (x : List ℕ) (k : ℕ) → one_entry D x ≡ ok k → starts (ascii "%") x ≡ false → starts (ascii "<?") x ≡ false → starts (ascii "<!--") x ≡ false
      → starts (ascii "<!ELEMENT") x ≡ false → starts (ascii "<!ATTLIST") x ≡ false → starts (ascii "<!ENTITY") x ≡ false → starts (ascii "<!NOTATION") x ≡ false → ⊥
  unfolding parse_markup_decl word_of
  no_word x k e a b c f g h l =
      let n : parse_declaration x ≡ ok k = unrefused "<![" unexpected _ x (else_on "<!--" _ _ x c (else_on "<?" _ _ x b (else_on "%" _ _ x a e))) in
      let o : (word "<!NOTATION" unexpected >> finish_decl D true (parse_notation_decl D)) x ≡ ok k = else_on "<!ENTITY" _ _ x h (else_on "<!ATTLIST" _ _ x g (else_on "<!ELEMENT" _ _ x f n)) in
      let (i, j, p, q, r) = then_ok (word "<!NOTATION" unexpected) (finish_decl D true (parse_notation_decl D)) x k o in
      true≢false (sym (else_refused unexpected 0 (starts (ascii "<!NOTATION") x) (ok 10) i p).0 ∙ l)

  no_reference : (x : List ℕ) (k : ℕ) → one_entry D x ≡ ok k → starts (ascii "%") x ≡ false → refers (kind_at x) ≡ false
  unfolding kind_at
  no_reference x k e n =
      let P : Kind → Type 0 = λ m. refers m ≡ false in
      by_test P (starts (ascii "<?") x) _ _ (λ _. refl) (λ a.
      by_test P (starts (ascii "<!--") x) _ _ (λ _. refl) (λ b.
      by_test P (starts (ascii "<!ELEMENT") x) _ _ (λ _. refl) (λ c.
      by_test P (starts (ascii "<!ATTLIST") x) _ _ (λ _. refl) (λ f.
      by_test P (starts (ascii "<!ENTITY") x) _ _ (λ _. refl) (λ g.
      by_test P (starts (ascii "<!NOTATION") x) _ _ (λ _. refl) (λ h. absurd (no_word x k e n a b c f g h)))))))

  calm_entries : (s : List ℕ) → Without s → (d n : ℕ) (w : List ℕ) → Without w → unread_entries D s false (entries_fuel D d n w) ≡ []
  unfolding entries_fuel
  calm_entries s h zero n w e = refl
  calm_entries s h (suc d) n w e = go (one_entry D (drop (run space w) w)) refl (λ m y. calm_entries s h d m y)
    where
      x : List ℕ
      x = drop (run space w) w

      go : (a : Result) → one_entry D x ≡ a → ((m : ℕ) (y : List ℕ) → Without y → unread_entries D s false (entries_fuel D d m y) ≡ [])
          → unread_entries D s false (listed D (entries_fuel D d) (n + run space w) x a) ≡ []
      go (err r j) f ih = refl
      go (ok k) f ih =
          let y : List ℕ = slice (n + run space w) (n + run space w + k) s in
          let none : Without x = without_drop (run space w) w e in
          rw (calm (kind_at x) y (without_drop (n + run space w) _ (without_take (n + run space w + k) s h)), no_reference x k f (without_first x none)) (ih (n + run space w + k) (drop k x) (without_drop k x none))

  -- in a text without '%' no declaration goes unread
  pub none_unread : (w : List ℕ) → contains (37 ∷ []) w ≡ false → unread_entries D w false (declarations D w) ≡ []
  unfolding declarations entries_from
  none_unread w e = go (subset_open w)
    where
      go : (p : Place) → unread_entries D w false (from_open D w p) ≡ []
      go (at i) = calm_entries w e _ (i + 1) (drop (i + 1) w) (without_drop (i + 1) w e)
      go nowhere = refl

  -- A declaration is its keyword, its body and a '>'.
  room : (s : String) (body : Reader) (x : List ℕ) (k : ℕ) → (word s unexpected >> finish_decl D true body) x ≡ ok k → length (ascii s) < k
  unfolding word_of finish_decl nothing
  room s body x k e =
      let (i, j, f, g, l) = then_ok (word s unexpected) (finish_decl D true body) x k e in
      let z : length (ascii s) ≡ i = ok_inj (length (ascii s)) i (else_refused unexpected 0 (starts (ascii s) x) (ok (length (ascii s))) i f).1 in
      let (m, p, q) = on_ok_ok (take_decl_body (drop i x)) (λ k. ok (k + 1)) j g in
      let y : m + 1 ≡ j = ok_inj (m + 1) j q in
      omega arith

  room_element : (v : List ℕ) (k : ℕ) → one_entry D (ascii "<!ELEMENT" ++ v) ≡ ok k → 9 < k
  unfolding on choose starts parse_markup_decl
  room_element v k e = room "<!ELEMENT" (parse_element_decl D too_deep) (ascii "<!ELEMENT" ++ v) k e

  room_attlist : (v : List ℕ) (k : ℕ) → one_entry D (ascii "<!ATTLIST" ++ v) ≡ ok k → 9 < k
  unfolding on choose starts parse_markup_decl
  room_attlist v k e = room "<!ATTLIST" (parse_attlist_decl D) (ascii "<!ATTLIST" ++ v) k e

  room_entity : (v : List ℕ) (k : ℕ) → one_entry D (ascii "<!ENTITY" ++ v) ≡ ok k → 8 < k
  unfolding on choose starts parse_markup_decl
  room_entity v k e = room "<!ENTITY" (parse_entity_decl D) (ascii "<!ENTITY" ++ v) k e

  room_notation : (v : List ℕ) (k : ℕ) → one_entry D (ascii "<!NOTATION" ++ v) ≡ ok k → 10 < k
  unfolding on choose starts parse_markup_decl
  room_notation v k e = room "<!NOTATION" (parse_notation_decl D) (ascii "<!NOTATION" ++ v) k e

  pub entry_room : (x : List ℕ) (k : ℕ) → one_entry D x ≡ ok k → length (ascii (keyword (kind_at x))) < k
  unfolding kind_at
  entry_room x k e =
      let P : Kind → Type 0 = λ m. length (ascii (keyword m)) < k in
      let z : 0 < k = (entry_some D x k e).0 in
      by_test P (starts (ascii "<?") x) _ _ (λ _. z) (λ _.
      by_test P (starts (ascii "<!--") x) _ _ (λ _. z) (λ _.
      by_test P (starts (ascii "<!ELEMENT") x) _ _ (λ t. let (v, f) = starts_split (ascii "<!ELEMENT") x t in room_element v k (ap (one_entry D) (sym f) ∙ e)) (λ _.
      by_test P (starts (ascii "<!ATTLIST") x) _ _ (λ t. let (v, f) = starts_split (ascii "<!ATTLIST") x t in room_attlist v k (ap (one_entry D) (sym f) ∙ e)) (λ _.
      by_test P (starts (ascii "<!ENTITY") x) _ _ (λ t. let (v, f) = starts_split (ascii "<!ENTITY") x t in room_entity v k (ap (one_entry D) (sym f) ∙ e)) (λ _.
      by_test P (starts (ascii "<!NOTATION") x) _ _ (λ t. let (v, f) = starts_split (ascii "<!NOTATION") x t in room_notation v k (ap (one_entry D) (sym f) ∙ e)) (λ _. z))))))

  -- those among the entries that are met are those of the one division
  pub unread_counted : AsciiNames D → (t : List ℕ) → CountsUnread D t (length (unread_entries D t false (declarations D t)))
  unread_counted A t =
      let count : List Entry → ℕ = λ es. length (unread_entries D t false es) in
      record { without_subset = λ f. ap count (front_declares D A t f); with_subset = λ d. ap count (division_declares D A t d) }

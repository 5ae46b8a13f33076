-- The readers of a DOCTYPE's text: their answers stand whatever follows, where a '>' is left. Assumes nothing.
use mathlib.Core.Bool.{Bool, true, false, ◌||◌}
use mathlib.Core.List.{List, [], ◌∷◌, ◌++◌}
use mathlib.Core.Path.{◌≡◌, refl, sym, ◌∙◌, ap, subst}
use Prim.Native.Nat.{ℕ, zero, suc, ◌+◌, ◌≤◌, ◌<◌}
use Prim.Native.String.{String}
use native.Mathlib.Omega.{arith}
use lib.Dec.{eqb}
use lib.ListN.{length, take, drop, length-drop}
use Rattle.spec.specs.Basics.{pick}
use Rattle.spec.specs.Grammar.Characters.{space}
use Rattle.spec.specs.Grammar.Languages.{ascii, one_of}
use Rattle.spec.specs.Grammar.Names.{Dialect}
use Rattle.spec.specs.Reading.Document.{read_doctype_text}
use Rattle.spec.specs.Reading.Dtd.{skip_s, require_s, parse_quoted, check_pubid, parse_external_id, check_comment, parse_comment, check_pi, parse_pi, bytes_before, take_decl_body, has_pe_reference, finish_decl, parse_pe_reference, parse_element_decl, parse_attlist_decl, parse_entity_decl, parse_notation_decl, parse_markup_decl, doctype_before}
use Rattle.spec.specs.Reading.Places.{Place, at, nowhere, outside}
use Rattle.spec.specs.Reading.Readers.{Result, ok, err, Reader, on_ok, ◌>>◌, nothing, refuse, at_end, starts, choose, on, word, word_of, run, required, begins, char}
use Rattle.spec.specs.Reading.Refusals.{Refusal, unterminated, unexpected, trailing, bad_name, too_deep}
use Rattle.spec.specs.Reading.Utf8.{decode1}
use Rattle.spec.specs.Reading.Wellformed.{parts, name}
use Rattle.spec.proofs.Agreement.Holds.{starts_longer, lacks}
use Rattle.spec.proofs.Base.Loops.{Somes}
use Rattle.spec.proofs.Base.Outside.{outside_within}
use Rattle.spec.proofs.Base.Somes.{some_char}
use Rattle.spec.proofs.Base.Tests.{eqb-true}
use Rattle.spec.proofs.Document.Steady.{Closing, Firm, Steady, Any, Own, closing_back, closing_some, closing_here, starts_stands, decode_stands, begins_stands, steady_as, steady_nothing, steady_choose, steady_then, steady_while, steady_skip, starts_same, take_longer, outside_longer, own_up_to, own_after}
use Rattle.spec.proofs.Dtd.Items.{item, items, items_turn, subset_items, some_reference, some_markup}

-- A reader whose answers stand where a '>' is left, after what is taken or from the place of what is refused on.
abbrev pub Closed : (List ℕ → Type 0) → Reader → Type 0
Closed L r = (x : List ℕ) → Steady Closing Closing L r x

firm_closing : (a : Result) (x : List ℕ) → Firm Closing Closing a x → Closing x
firm_closing (ok k) x f = closing_back k x f
firm_closing (err n k) x (o, f) = closing_back k x f

closed : {r : Reader} → ((x v : List ℕ) → Closing x → Firm Closing Closing (r x) x → r (x ++ v) ≡ r x) → Closed Closing r
closed {r} h x = record { stands = λ f. let c = firm_closing (r x) x f in (c, λ v. h x v c f) }

infixr 60 ◌then◌
◌then◌ : {L : List ℕ → Type 0} {r q : Reader} → Closed Closing r → Closed L q → Closed L (r >> q)
◌then◌ a b x = steady_then closing_some (a x) (λ j e. b (drop j x))

closed_choose : {L : List ℕ → Type 0} (t : List ℕ → Bool) {r q : Reader} → ((x v : List ℕ) → Closing x → t (x ++ v) ≡ t x) → Closed L r → Closed L q → Closed L (choose t r q)
closed_choose t h a b x = steady_choose t (λ c v. h x v c) (λ e. a x) (λ e. b x)

closed_on : {L : List ℕ → Type 0} (s : String) {r q : Reader} → lacks 62 (ascii s) ≡ true → Closed L r → Closed L q → Closed L (on s r q)
unfolding on
closed_on s l a b = closed_choose (starts (ascii s)) (λ x v c. starts_stands (ascii s) x v l c) a b

closed_nothing : Closed Closing nothing
closed_nothing x = steady_nothing (λ c. c)

closed_refuse : (n : Refusal) → Closed Closing (refuse n)
unfolding refuse
closed_refuse n = closed (λ x v c f. refl)

closed_word : (s : String) (n : Refusal) → lacks 62 (ascii s) ≡ true → Closed Closing (word s n)
unfolding word_of
closed_word s n l = closed (λ x v c f. rw (starts_stands (ascii s) x v l c))

closed_char : (p : ℕ → Bool) (n : Refusal) → Closed Closing (char p n)
unfolding char
closed_char p n = closed (λ x v c f. rw (decode_stands x v c))

closed_skip : Closed Closing skip_s
closed_skip = steady_skip closing_some (λ x c. closing_back (run space x) x c)

closed_required : (n : Refusal) {r : Reader} → Closed Closing r → Closed Closing (required n r)
unfolding required
closed_required n {r} a = closed (λ x v c f. go x v (r x) refl f)
  where
    test : ℕ → Result
    test k = pick (eqb k 0) (err n 0) (ok k)

    -- nothing is taken, where it is refused
    there : (x : List ℕ) (j : ℕ) (t : Bool) → eqb j 0 ≡ t → Firm Closing Closing (pick t (err n 0) (ok j)) x → Closing (drop j x)
    there x j true e (o, f) = subst (λ (k : ℕ). Closing (drop k x)) (sym (eqb-true j 0 e)) f
    there x j false e f = f

    go : (x v : List ℕ) (y : Result) → r x ≡ y → Firm Closing Closing (on_ok y test) x → on_ok (r (x ++ v)) test ≡ on_ok y test
    go x v (err m k) e f = ap (λ (z : Result). on_ok z test) (((a x).stands (subst (λ (z : Result). Firm Closing Closing z x) (sym e) f)).1 v ∙ e)
    go x v (ok j) e f =
        ap (λ (z : Result). on_ok z test) (((a x).stands (subst (λ (z : Result). Firm Closing Closing z x) (sym e) (there x j (eqb j 0) refl f))).1 v ∙ e)

closed_space : Closed Closing require_s
unfolding require_s
closed_space = closed_required _ closed_skip

-- a word, and what looks for its end itself
closed_own : (s : String) (n : Refusal) {r : Reader} → lacks 62 (ascii s) ≡ true → Own r → Closed Closing (word s n >> r)
unfolding ◌>>◌ word_of
closed_own s n {r} l o = closed (λ x v c f. go x v c (starts (ascii s) x) refl f)
  where
    go : (x v : List ℕ) → Closing x → (t : Bool) → starts (ascii s) x ≡ t → Firm Closing Closing ((word s n >> r) x) x → (word s n >> r) (x ++ v) ≡ (word s n >> r) x
    go x v c true e f = own_after s n r Closing Closing o x v e f
    go x v c false e f = rw (starts_stands (ascii s) x v l c, e)

-- the readers of dtd.rs that a DOCTYPE's text calls
closed_quoted : (check : List ℕ → Result) → Closed Closing (parse_quoted check)
unfolding parse_quoted
closed_quoted check = closed_on "\"" refl (closed_own "\"" _ refl (own_up_to "\"" check)) (closed_own "'" _ refl (own_up_to "'" check))

closed_id : Closed Closing parse_external_id
unfolding parse_external_id
closed_id =
    closed_on "SYSTEM" refl (closed_word "SYSTEM" _ refl then closed_space then closed_quoted nothing)
    (closed_word "PUBLIC" _ refl then closed_space then closed_quoted check_pubid then closed_space then closed_quoted nothing)

closed_unexpected : Closed Closing (at_end unexpected >> refuse unterminated)
unfolding ◌>>◌ at_end refuse
closed_unexpected = closed go
  where
    go : (x v : List ℕ) → Closing x → Firm Closing Closing ((at_end unexpected >> refuse unterminated) x) x → (at_end unexpected >> refuse unterminated) (x ++ v) ≡ (at_end unexpected >> refuse unterminated) x
    go [] v c f = absurd (let z : 0 < 0 = closing_some [] c in omega arith)
    go (b ∷ x) v c f = refl

-- the '>' that ends it: what is taken stands by itself
closed_end : (n : Refusal) → Closed Any (word ">" n)
unfolding word_of
closed_end n x = record { stands = λ f. go (starts (62 ∷ []) x) refl f }
  where
    go : (t : Bool) → starts (62 ∷ []) x ≡ t → Firm Closing Any (pick t (ok 1) (err n 0)) x → Closing x × ((v : List ℕ) → pick (starts (62 ∷ []) (x ++ v)) (ok 1) (err n 0) ≡ pick t (ok 1) (err n 0))
    go true e f = (closing_here x e, λ v. rw (starts_longer (62 ∷ []) x v e))
    go false e (o, c) = (c, λ v. rw (starts_same (62 ∷ []) x v (closing_some x c), e))

-- a reader that takes a byte or more leaves less
less : (r : Reader) → Somes r → (d : ℕ) (y : List ℕ) (j : ℕ) → r y ≡ ok j → length y ≤ suc d → length (drop j y) ≤ d
less r s d [] j f h = omega (arith, length-drop {A = ℕ} j [])
less r s d (b ∷ y) j f h = let z = s.some b y j f in omega (arith, length-drop j (b ∷ y))

module _ (D : Dialect) where
  closed_name : Closed Closing (name D)
  unfolding name parts begins decode1
  closed_name =
      closed_char D.start bad_name
      then steady_while (begins D.part) refl (some_char D.part bad_name) closing_some (λ x c v. begins_stands D.part x v c) (λ x e. closed_char D.part bad_name x) (λ x e c. c)

  -- a declaration, whose '>' is found
  own_finish : (pe : Bool) (body : Reader) → Own (finish_decl D pe body)
  unfolding finish_decl take_decl_body
  own_finish pe body x v d = go (outside (one_of ">") 0 x) refl d
    where
      rest : List ℕ → ℕ → Result
      rest w k = on_ok (pick (pe || has_pe_reference D (take k w)) nothing body (take k w)) (λ _. ok (k + 1))

      go : (o : Place) → outside (one_of ">") 0 x ≡ o → (on_ok (bytes_before unterminated o) (rest x) ≡ err unterminated 0 → ⊥)
          → on_ok (bytes_before unterminated (outside (one_of ">") 0 (x ++ v))) (rest (x ++ v)) ≡ on_ok (bytes_before unterminated o) (rest x)
      go nowhere f g = absurd (g refl)
      go (at k) f g =
          let l : k < length x = outside_within (one_of ">") 0 x k f in
          rw (outside_longer (one_of ">") 0 x v k f, take_longer k x v (omega arith))

  closed_markup : (pe : Bool) → Closed Closing (parse_markup_decl D too_deep pe)
  unfolding parse_markup_decl parse_pi parse_comment
  closed_markup pe =
      closed_on "<?" refl (closed_own "<?" _ refl (own_up_to "?>" (check_pi D)))
      (closed_on "<!--" refl (closed_own "<!--" _ refl (own_up_to "-->" check_comment))
      (closed_on "<![" refl (closed_refuse _)
      (closed_on "<!ELEMENT" refl (closed_own "<!ELEMENT" _ refl (own_finish pe (parse_element_decl D too_deep)))
      (closed_on "<!ATTLIST" refl (closed_own "<!ATTLIST" _ refl (own_finish pe (parse_attlist_decl D)))
      (closed_on "<!ENTITY" refl (closed_own "<!ENTITY" _ refl (own_finish pe (parse_entity_decl D)))
      (closed_own "<!NOTATION" _ refl (own_finish pe (parse_notation_decl D))))))))

  closed_reference : Closed Closing (parse_pe_reference D)
  unfolding parse_pe_reference
  closed_reference = closed_word "%" _ refl then closed_name then closed_word ";" _ refl

  -- the subset, item by item
  closed_items : (d : ℕ) (pe : Bool) (x : List ℕ) → length x ≤ d → Steady Closing Closing Closing (items D pe) x
  unfolding item on
  closed_items zero pe x h = record { stands = λ f. absurd (let c = firm_closing (items D pe x) x f in let z = closing_some x c in omega arith) }
  closed_items (suc d) pe x h =
      steady_as (items_turn D pe)
      (steady_then closing_some (closed_skip x) (λ i e.
      steady_choose (starts (ascii "]")) (λ c v. starts_stands (ascii "]") (drop i x) v refl c) (λ g. closed_word "]" _ refl (drop i x))
      (λ g. steady_choose (starts (ascii "%")) (λ c v. starts_stands (ascii "%") (drop i x) v refl c)
      (λ g. steady_then closing_some (closed_reference (drop i x)) (λ j f. closed_items d true (drop j (drop i x)) (less (parse_pe_reference D) (some_reference D) d (drop i x) j f (omega (arith, length-drop i x)))))
      (λ g. steady_choose (starts (ascii "<")) (λ c v. starts_stands (ascii "<") (drop i x) v refl c)
      (λ g. steady_then closing_some (closed_markup pe (drop i x)) (λ j f. closed_items d pe (drop j (drop i x)) (less (parse_markup_decl D too_deep pe) (some_markup D pe) d (drop i x) j f (omega (arith, length-drop i x)))))
      (λ g. closed_unexpected (drop i x))))))

  -- the whole
  pub closed_text : Closed Any (read_doctype_text D)
  unfolding read_doctype_text doctype_before
  closed_text =
      closed_skip then closed_name then closed_skip
      then closed_choose _ (λ x v c. (λ i. starts_stands (ascii "SYSTEM") x v refl c i || starts_stands (ascii "PUBLIC") x v refl c i)) (closed_id then closed_skip) closed_nothing
      then closed_on "[" refl (closed_word "[" _ refl then (λ x. steady_as (subset_items D) (closed_items (length x) false x (omega arith))) then closed_skip) closed_nothing
      then closed_end trailing

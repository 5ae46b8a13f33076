-- The readers of a document's beginning: what is read or refused stands whatever follows, where it is known what begins next. Assumes nothing.
use mathlib.Core.Logic
use mathlib.Core.Bool.{Bool, true, false, ◌&&◌, ◌||◌, true≢false, and-true, or-true}
use mathlib.Core.List.{List, [], ◌∷◌, ◌++◌}
use mathlib.Core.Logic.{◌⊎◌}
use mathlib.Core.Path.{◌≡◌, refl, sym, ◌∙◌, ap, subst}
use Prim.Native.Nat.{ℕ, suc, ◌+◌, ◌≤◌, ◌<◌}
use Prim.Native.String.{String}
use native.Mathlib.Omega.{arith}
use lib.Dec.{eqb, ltb}
use lib.ListN.{length, take, drop, length-drop, take-append-drop}
use Rattle.spec.specs.Basics.{pick, limit}
use Rattle.spec.specs.Grammar.Characters.{Text, space}
use Rattle.spec.specs.Grammar.Languages.{ascii, one_of, Ch, Star, end, more, any}
use Rattle.spec.specs.Grammar.Names.{Dialect}
use Rattle.spec.specs.Grammar.Utf8.{scalar, encode}
use Rattle.spec.specs.Reading.Checks.{check_declaration}
use Rattle.spec.specs.Reading.Document.{at_most, unless_closed, closing, is_declaration, read_declaration, item_here, read_item, read_misc, read_doctype, read_opening, read_ending, read_prolog, read_other, read_tag, read_beginning}
use Rattle.spec.specs.Reading.Dtd.{skip_s, check_comment, parse_comment, check_pi, parse_pi}
use Rattle.spec.specs.Reading.Readers.{Result, ok, err, Reader, on_ok, past, ◌>>◌, refuse, some_left, starts, choose, on, word, word_of, run, contains, begins}
use Rattle.spec.specs.Reading.Refusals.{Refusal, number, too_long, unterminated, unexpected, out_of_order, bad_name}
use Rattle.spec.specs.Reading.Utf8.{point, decode1}
use Rattle.spec.specs.Reading.Wellformed.{name}
use Rattle.spec.proofs.Agreement.Holds.{starts_longer}
use Rattle.spec.proofs.Agreement.Words.{starts_split, starts_within}
use Rattle.spec.proofs.Base.Loops.{Somes}
use Rattle.spec.proofs.Base.Results.{err_ok}
use Rattle.spec.proofs.Base.Somes.{some_on, some_choose, some_refuse, some_then, some_word}
use Rattle.spec.proofs.Base.Tests.{T→true, and_left, and_right, decide, eqb-true, eqb_no}
use Rattle.spec.proofs.Characters.Bytes.{text_front}
use Rattle.spec.proofs.Characters.Text.{text_rest, ascii_text}
use Rattle.spec.proofs.Characters.Utf8.{decode_encode}
use Rattle.spec.proofs.Document.Closed.{closed_text}
use Rattle.spec.proofs.Document.Steady.{Closing, Firm, Steady, Any, whatever, None, closing_back, closing_some, closing_mark, starts_stands, begins_stands, begins_longer, drop_longer, contains_longer, steady_weaker, steady_nothing, steady_choose, steady_then, steady_while, steady_skip, own_up_to, up_to_found, own_after, firm_after, firm_past, point_longer}
use Rattle.spec.proofs.Wellformed.LongestName.{char_is, char_not, parts_ok, name_first, name_none}

-- Whether an XML declaration begins here does not hang on what follows.
pub record Decided (y : List ℕ) : Type 0 where
  pub declaration : (v : List ℕ) → is_declaration (y ++ v) ≡ is_declaration y

-- Something is left; and whether a comment, an instruction or a DOCTYPE begins here does not hang on what follows,
record Known (y : List ℕ) : Type 0 where
  some : 0 < length y
  comment : (v : List ℕ) → starts (ascii "<!--") (y ++ v) ≡ starts (ascii "<!--") y
  instruction : (v : List ℕ) → starts (ascii "<?") (y ++ v) ≡ starts (ascii "<?") y
  doctype : (v : List ℕ) → starts (ascii "<!DOCTYPE") (y ++ v) ≡ starts (ascii "<!DOCTYPE") y

-- nor whether an XML declaration does
record Opened (y : List ℕ) : Type 0 where
  known : Known y
  decided : Decided y

known_some : (y : List ℕ) → Known y → 0 < length y
known_some y k = k.some

opened_some : (y : List ℕ) → Opened y → 0 < length y
opened_some y o = o.known.some

known_item : (y : List ℕ) → Known y → (v : List ℕ) → item_here (y ++ v) ≡ item_here y
unfolding item_here
known_item y k v = (λ i. k.comment v i || k.instruction v i)

-- By what stands first: a comment, a DOCTYPE, an instruction or a byte that begins none of them.
opened_comment : (y : List ℕ) → starts (ascii "<!--") y ≡ true → Opened y
opened_comment y e = let (z, f) = starts_split (ascii "<!--") y e in subst Opened (sym f) (at_front z)
  where
    at_front : (z : List ℕ) → Opened (ascii "<!--" ++ z)
    at_front z = unfold starts in unfold is_declaration in record {
      known = record { some = omega arith; comment = λ v. refl; instruction = λ v. refl; doctype = λ v. refl };
      decided = record { declaration = λ v. refl };
    }

known_doctype : (y : List ℕ) → starts (ascii "<!DOCTYPE") y ≡ true → Known y
known_doctype y e = let (z, f) = starts_split (ascii "<!DOCTYPE") y e in subst Known (sym f) (at_front z)
  where
    at_front : (z : List ℕ) → Known (ascii "<!DOCTYPE" ++ z)
    at_front z = unfold starts in record { some = omega arith; comment = λ v. refl; instruction = λ v. refl; doctype = λ v. refl }

known_instruction : (y : List ℕ) → starts (ascii "<?") y ≡ true → Known y
known_instruction y e = let (z, f) = starts_split (ascii "<?") y e in subst Known (sym f) (at_front z)
  where
    at_front : (z : List ℕ) → Known (ascii "<?" ++ z)
    at_front z = unfold starts in record { some = omega arith; comment = λ v. refl; instruction = λ v. refl; doctype = λ v. refl }

opened_other : (b : ℕ) (z : List ℕ) → eqb b 60 ≡ false → Opened (b ∷ z)
unfolding starts is_declaration
opened_other b z e = record {
  known = record { some = omega arith; comment = λ v. rw e; instruction = λ v. rw e; doctype = λ v. rw e };
  decided = record { declaration = λ v. rw e };
}

-- A '>' is left.
decided_closing : (y : List ℕ) → Closing y → Decided y
unfolding is_declaration
decided_closing y c = record { declaration = λ v. go v (starts (ascii "<?xml") y) refl }
  where
    tail : List ℕ → Bool
    tail z = begins (one_of " \t\r\n?") (drop 5 z)

    go : (v : List ℕ) (t : Bool) → starts (ascii "<?xml") y ≡ t → (starts (ascii "<?xml") (y ++ v) && tail (y ++ v)) ≡ (starts (ascii "<?xml") y && tail y)
    go v false f = rw (starts_stands (ascii "<?xml") y v refl c, f)
    go v true f =
        let (z, g) = starts_split (ascii "<?xml") y f in
        let h : Closing (drop 5 y) = after z (subst Closing g c) (sym g) in
        rw (starts_stands (ascii "<?xml") y v refl c, drop_longer 5 y v (starts_within (ascii "<?xml") y f), begins_stands (one_of " \t\r\n?") (drop 5 y) v h)
      where
        after : (z : List ℕ) → Closing (ascii "<?xml" ++ z) → ascii "<?xml" ++ z ≡ y → Closing (drop 5 y)
        after z d g = subst (λ (u : List ℕ). Closing (drop 5 u)) g (record { it = unfold contains in unfold starts in d.it })

opened_closing : (y : List ℕ) → Closing y → Opened y
opened_closing y c = record {
  known = record { some = closing_some y c; comment = λ v. starts_stands (ascii "<!--") y v refl c; instruction = λ v. starts_stands (ascii "<?") y v refl c; doctype = λ v. starts_stands (ascii "<!DOCTYPE") y v refl c };
  decided = decided_closing y c;
}

-- An XML declaration begins.
pub declared_instruction : (y : List ℕ) → is_declaration y ≡ true → starts (ascii "<?") y ≡ true
unfolding is_declaration
declared_instruction y e = let (z, f) = starts_split (ascii "<?xml") y (and_left (starts (ascii "<?xml") y) (begins (one_of " \t\r\n?") (drop 5 y)) e) in rw f (unfold starts in refl)

pub declared_longer : (y v : List ℕ) → is_declaration y ≡ true → is_declaration (y ++ v) ≡ true
unfolding is_declaration
declared_longer y v e =
    let a : starts (ascii "<?xml") y ≡ true = and_left (starts (ascii "<?xml") y) (begins (one_of " \t\r\n?") (drop 5 y)) e in
    let b : begins (one_of " \t\r\n?") (drop 5 y) ≡ true = and_right (starts (ascii "<?xml") y) (begins (one_of " \t\r\n?") (drop 5 y)) e in
    rw (starts_longer (ascii "<?xml") y v a, drop_longer 5 y v (starts_within (ascii "<?xml") y a)) (begins_longer (one_of " \t\r\n?") (drop 5 y) v b)

pub decided_true : (y : List ℕ) → is_declaration y ≡ true → Decided y
decided_true y e = record { declaration = λ v. declared_longer y v e ∙ sym e }

-- an item that ends a loop decides it
not_declared : (y : List ℕ) → item_here y ≡ false → is_declaration y ≡ false
not_declared y e = go (decide (is_declaration y))
  where
    go : (is_declaration y ≡ true) ⊎ (is_declaration y ≡ false) → is_declaration y ≡ false
    go (Logic.inl f) = absurd (true≢false (sym (or-true (starts (ascii "<!--") y)) ∙ ap (λ (t : Bool). starts (ascii "<!--") y || t) (sym (declared_instruction y f)) ∙ (unfold item_here in e)))
    go (Logic.inr f) = f

known_opened : (y : List ℕ) → item_here y ≡ false → Known y → Opened y
known_opened y e k = record { known = k; decided = record { declaration = λ v. not_declared (y ++ v) (known_item y k v ∙ e) ∙ sym (not_declared y e) } }

-- white space before
back : (K : List ℕ → Type 0) → ((b : ℕ) (z : List ℕ) → eqb b 60 ≡ false → K (b ∷ z)) → (x : List ℕ) → K (drop (run space x) x) → K x
unfolding run
back K h [] k = k
back K h (b ∷ x) k = go (space b) refl k
  where
    go : (t : Bool) → space b ≡ t → K (drop (pick t (suc (run space x)) 0) (b ∷ x)) → K (b ∷ x)
    go true e f = h b x (eqb_no b 60 (λ g. true≢false (sym e ∙ ap space g)))
    go false e f = f

steady_space : (x : List ℕ) → Steady Any Opened Opened skip_s x
steady_space = steady_skip opened_some (back Opened opened_other)

-- The XML declaration: a firm answer says whether there is one.
steady_declaration : (x : List ℕ) → Steady Any Decided Opened read_declaration x
unfolding read_declaration
steady_declaration x =
    steady_choose is_declaration (λ d v. d.declaration v)
    (λ e. record { stands = λ f. (decided_true x e, λ v. own_after "<?" unexpected _ Any Opened (own_up_to "?>" check_declaration) x v (declared_instruction x e) f) })
    (λ e. steady_nothing (λ o. o.decided))

-- What a '>' closes.
steady_closing : {r : Reader} {x : List ℕ} → Steady Closing Closing Any r x → Steady Any Closing Any (closing r) x
unfolding closing
steady_closing {r} {x} a = record { stands = λ f. go (r x) refl f }
  where
    ends : ℕ → Refusal → List ℕ → Bool
    ends k n w = contains (ascii ">") (drop k w) || eqb (number n) (number unterminated) && some_left (drop k w)

    go : (y : Result) → r x ≡ y → Firm Any Any (unless_closed x y) x → Closing x × ((v : List ℕ) → unless_closed (x ++ v) (r (x ++ v)) ≡ unless_closed x y)
    go (ok k) e f = let (c, s) = a.stands (subst (λ (z : Result). Firm Closing Any z x) (sym e) whatever) in (c, λ v. ap (unless_closed (x ++ v)) (s v ∙ e))
    go (err n k) e f = by (contains (ascii ">") (drop k x)) refl (eqb (number n) (number unterminated)) refl f
      where
        by : (t : Bool) → contains (ascii ">") (drop k x) ≡ t → (u : Bool) → eqb (number n) (number unterminated) ≡ u → Firm Any Any (pick (t || u && some_left (drop k x)) (err n k) (err unterminated 0)) x
            → Closing x × ((v : List ℕ) → unless_closed (x ++ v) (r (x ++ v)) ≡ pick (t || u && some_left (drop k x)) (err n k) (err unterminated 0))
        by false g false h (o, w) = absurd (true≢false o)
        by false g true h f₂ = absurd (never (some_left (drop k x)) f₂)
          where
            never : (s : Bool) → Firm Any Any (pick s (err n k) (err unterminated 0)) x → ⊥
            never true (o, w) = true≢false (sym h ∙ o)
            never false (o, w) = true≢false o
        by true g u h (o, w) =
            let c : Closing (drop k x) = record { it = g } in
            let (d, s) = a.stands (subst (λ (z : Result). Firm Closing Any z x) (sym e) (o, c)) in
            let l : k ≤ length x = (let z = closing_some (drop k x) c in omega (arith, length-drop k x)) in
            (d, λ v. ap (unless_closed (x ++ v)) (s v ∙ e) ∙ (let m : contains (ascii ">") (drop k (x ++ v)) ≡ true = ap (contains (ascii ">")) (drop_longer k x v l) ∙ contains_longer (ascii ">") (drop k x) v g in rw m))

-- What is taken whole, and may be too long.
steady_most : {K L : List ℕ → Type 0} (n : ℕ) (m : Refusal) {r : Reader} {x : List ℕ} → Steady Any K Any r x → Steady Any K L (at_most n m r) x
unfolding at_most
steady_most {K} {L} n m {r} {x} a = record { stands = λ f. go (r x) refl f }
  where
    test : ℕ → Result
    test k = pick (ltb n k) (err m 0) (ok k)

    go : (y : Result) → r x ≡ y → Firm Any L (on_ok y test) x → K x × ((v : List ℕ) → on_ok (r (x ++ v)) test ≡ on_ok y test)
    go (ok k) e f = let (c, s) = a.stands (subst (λ (z : Result). Firm Any Any z x) (sym e) whatever) in (c, λ v. ap (λ (z : Result). on_ok z test) (s v ∙ e))
    go (err q k) e f = let (c, s) = a.stands (subst (λ (z : Result). Firm Any Any z x) (sym e) f) in (c, λ v. ap (λ (z : Result). on_ok z test) (s v ∙ e))

-- What is refused on what stands first, and a word that stands.
steady_refuse : {K L : List ℕ → Type 0} (n : Refusal) {x : List ℕ} → K x → Steady Any K L (refuse n) x
unfolding refuse
steady_refuse n k = record { stands = λ f. (k, λ v. refl) }

steady_word : {K L : List ℕ → Type 0} (s : String) (n : Refusal) {x : List ℕ} → starts (ascii s) x ≡ true → K x → Steady Any K L (word s n) x
unfolding word_of
steady_word s n {x} e k = record { stands = λ f. (k, λ v. rw (starts_longer (ascii s) x v e, e)) }

module _ (D : Dialect) where
  some_item : Somes (read_item D)
  unfolding read_item parse_comment parse_pi
  some_item =
      some_on "<!--" _ _ (some_then _ _ (some_word "<!--" unexpected (omega arith)))
      (some_choose is_declaration _ _ (some_refuse out_of_order) (some_then _ _ (some_word "<?" unexpected (omega arith))))

  -- comments and instructions
  steady_item : (x : List ℕ) → item_here x ≡ true → Steady Any Opened Opened (read_item D) x
  unfolding read_item parse_comment parse_pi on
  steady_item x here =
      steady_choose (starts (ascii "<!--")) (λ o v. o.known.comment v)
      (λ e. record { stands = λ f. (opened_comment x e, λ v. own_after "<!--" unexpected _ Any Opened (own_up_to "-->" check_comment) x v e f) })
      (λ e. steady_choose is_declaration (λ o v. o.decided.declaration v)
      (λ g. steady_refuse out_of_order (record { known = known_instruction x (declared_instruction x g); decided = decided_true x g }))
      (λ g. let h : starts (ascii "<?") x ≡ true = second e in record {
        stands = λ f. (
          opened_closing x (closing_back 2 x (closing_mark (drop 2 x) (up_to_found "?>" (check_pi D) (drop 2 x) (firm_after "<?" unexpected _ Any Opened x h f)))),
          λ v. own_after "<?" unexpected _ Any Opened (own_up_to "?>" (check_pi D)) x v h f,
        );
      }))
    where
      second : starts (ascii "<!--") x ≡ false → starts (ascii "<?") x ≡ true
      second e = ap (λ (t : Bool). t || starts (ascii "<?") x) (sym e) ∙ (unfold item_here in here)

  steady_misc : (x : List ℕ) → Steady Any Opened Known (read_misc D) x
  unfolding read_misc
  steady_misc x =
      steady_then opened_some (steady_space x) (λ j e.
      steady_while item_here (unfold item_here in unfold starts in refl) (some_then _ _ some_item) opened_some (λ y o v. known_item y o.known v)
      (λ y h. steady_then opened_some (steady_item y h) (λ i f. steady_space (drop i y))) known_opened (drop j x))

  -- the DOCTYPE
  steady_doctype : (x : List ℕ) → starts (ascii "<!DOCTYPE") x ≡ true → Steady Any Known Opened (read_doctype D) x
  unfolding read_doctype
  steady_doctype x e =
      steady_most (10 + limit) too_long (steady_then closing_some (steady_word "<!DOCTYPE" unexpected e (known_doctype x e)) (λ j f. steady_closing (closed_text D (drop j x))))

  steady_ending : (x : List ℕ) → Steady Any Known Known (read_ending D) x
  unfolding read_ending on
  steady_ending x =
      steady_choose (starts (ascii "<!DOCTYPE")) (λ k v. k.doctype v) (λ e. steady_then opened_some (steady_doctype x e) (λ j f. steady_misc (drop j x))) (λ e. steady_nothing (λ k. k))

  steady_prolog : (x : List ℕ) → Steady Any Decided Known (read_prolog D) x
  unfolding read_prolog read_opening
  steady_prolog x = steady_then known_some (steady_then opened_some (steady_declaration x) (λ i e. steady_misc (drop i x))) (λ j e. steady_ending (drop j x))

-- The root's tag, which is refused by its first bytes.
record Rooted (y : List ℕ) : Type 0 where
  known : Known y
  bang : (v : List ℕ) → starts (ascii "<!") (y ++ v) ≡ starts (ascii "<!") y

rooted_front : (y : List ℕ) → starts (ascii "<!") y ≡ true → Known y → Rooted y
rooted_front y e k = record { known = k; bang = λ v. starts_longer (ascii "<!") y v e ∙ sym e }

rooted_other : (b : ℕ) (z : List ℕ) → eqb b 60 ≡ false → Rooted (b ∷ z)
unfolding starts
rooted_other b z e = record { known = (opened_other b z e).known; bang = λ v. rw e }

rooted_name : (c : ℕ) (z : List ℕ) → eqb c 33 ≡ false → Rooted (60 ∷ c ∷ z)
unfolding starts
rooted_name c z e = record { known = record { some = omega arith; comment = λ v. rw e; instruction = λ v. refl; doctype = λ v. rw e }; bang = λ v. rw e }

first_point : (z : List ℕ) → Star (Ch any) z → 0 < length z → (c k : ℕ) × (decode1 z ≡ point c k)
first_point z (end e) l = absurd (let m : length z ≡ 0 = ap length e in omega arith)
first_point z (more x y e h s) l =
    (h.char, length (encode h.char), ap decode1 (e ∙ ap (λ (u : List ℕ). u ++ y) h.bytes) ∙ decode_encode h.char y (T→true (scalar h.char) h.is_scalar))

steady_unended : {K L : List ℕ → Type 0} {x : List ℕ} → Steady Any K L (refuse unterminated) x
unfolding refuse
steady_unended = record { stands = λ f. absurd (true≢false f.0) }

module _ (D : Dialect) where
  name_stays : (z v : List ℕ) → Star (Ch any) z → 0 < length z → Firm Any None (name D z) z → name D (z ++ v) ≡ name D z
  name_stays z v t l f =
      let (c, k, d) = first_point z t l in
      by c k d (D.start c) refl
    where
      none : (a : Result) (j : ℕ) → Firm Any None a z → a ≡ ok j → ⊥
      none (err n k) j g e = err_ok n j e
      none (ok k) j g e = g

      by : (c k : ℕ) → decode1 z ≡ point c k → (b : Bool) → D.start c ≡ b → name D (z ++ v) ≡ name D z
      by c k d true e = absurd (none (name D z) _ f (name_first D z k (char_is D.start bad_name z c k d e) ∙ ap (past k) (parts_ok D (drop k z))))
      by c k d false e =
          name_none D (z ++ v) (char_not D.start bad_name (z ++ v) c k (point_longer z v c k d) e) ∙ sym (name_none D z (char_not D.start bad_name z c k d e))

  steady_root : (y : List ℕ) → starts (ascii "<!") y ≡ false → some_left y ≡ true → ((z : List ℕ) → y ≡ 60 ∷ z → Star (Ch any) z) → Steady Any Rooted None (word "<" unexpected >> choose some_left (name D) (refuse unterminated)) y
  unfolding ◌>>◌ word_of choose refuse some_left starts
  steady_root [] e l t = absurd (true≢false (sym l))
  steady_root (b ∷ z) e l t = record { stands = λ f. go (eqb b 60) refl f }
    where
      r : Reader
      r = choose some_left (name D) (refuse unterminated)

      named : (y : List ℕ) → Star (Ch any) y → starts (ascii "<!") (60 ∷ y) ≡ false → Firm Any None (past 1 (pick (some_left y) (name D) (refuse unterminated) y)) (60 ∷ y)
          → Rooted (60 ∷ y) × ((v : List ℕ) → past 1 (pick (some_left (y ++ v)) (name D) (refuse unterminated) (y ++ v)) ≡ past 1 (pick (some_left y) (name D) (refuse unterminated) y))
      named [] s h (o, _) = absurd (true≢false o)
      named (c ∷ y) s h f = (rooted_name c y (sym (and-true (eqb c 33)) ∙ h), λ v. ap (past 1) (name_stays (c ∷ y) v s (omega arith) (firm_past Any None 1 (name D (c ∷ y)) (60 ∷ c ∷ y) f)))

      go : (u : Bool) → eqb b 60 ≡ u → Firm Any None (on_ok (pick (u && true) (ok 1) (err unexpected 0)) (λ k. past k (r (drop k (b ∷ z))))) (b ∷ z)
          → Rooted (b ∷ z) × ((v : List ℕ) → on_ok (pick (eqb b 60 && true) (ok 1) (err unexpected 0)) (λ k. past k (r (drop k (b ∷ (z ++ v))))) ≡ on_ok (pick (u && true) (ok 1) (err unexpected 0)) (λ k. past k (r (drop k (b ∷ z)))))
      go false g f = (rooted_other b z g, λ v. rw g)
      go true g f =
          let m : b ≡ 60 = eqb-true b 60 g in
          let (k, s) = named z (t z (ap (λ (a : ℕ). a ∷ z) m)) (ap (λ (a : ℕ). starts (ascii "<!") (a ∷ z)) (sym m) ∙ e) (subst (λ (a : ℕ). Firm Any None (past 1 (r z)) (a ∷ z)) m f) in
          (subst (λ (a : ℕ). Rooted (a ∷ z)) (sym m) k, λ v. rw g (s v))

  steady_other : (y : List ℕ) → starts (ascii "<!") y ≡ true → Steady Any Rooted None (read_other D) y
  unfolding read_other choose refuse
  steady_other y e = record { stands = λ f. go (contains (ascii ">") y) refl f }
    where
      r : Reader
      r = word "<!" unexpected >> refuse unterminated

      go : (t : Bool) → contains (ascii ">") y ≡ t → Firm Any None (pick t (refuse unexpected) r y) y → Rooted y × ((v : List ℕ) → pick (contains (ascii ">") (y ++ v)) (refuse unexpected) r (y ++ v) ≡ pick t (refuse unexpected) r y)
      go true g f = (rooted_front y e (opened_closing y (record { it = g })).known, λ v. rw (contains_longer (ascii ">") y v g))
      go false g f = absurd (firm_after "<!" unexpected (refuse unterminated) Any None y e f refl)

  some_left_front : (x : List ℕ) → 0 < length x → (v : List ℕ) → some_left (x ++ v) ≡ some_left x
  unfolding some_left
  some_left_front [] l v = absurd (let z : 0 < 0 = l in omega arith)
  some_left_front (b ∷ x) l v = refl

  bang_front : (z : List ℕ) → starts (ascii "<!") (ascii "<!DOCTYPE" ++ z) ≡ true
  unfolding starts
  bang_front z = refl

  doctype_bang : (y : List ℕ) → starts (ascii "<!DOCTYPE") y ≡ true → starts (ascii "<!") y ≡ true
  doctype_bang y e = let (z, f) = starts_split (ascii "<!DOCTYPE") y e in rw f (bang_front z)

  steady_tag : (y : List ℕ) → ((z : List ℕ) → y ≡ 60 ∷ z → Star (Ch any) z) → Steady Any Known None (read_tag D) y
  unfolding read_tag on
  steady_tag y t =
      steady_weaker (λ z k. k.known) (λ z n. n)
      (steady_choose some_left (λ k v. some_left_front y k.known.some v)
      (λ l. steady_choose (starts (ascii "<!DOCTYPE")) (λ k v. k.known.doctype v)
      (λ e. steady_refuse out_of_order (rooted_front y (doctype_bang y e) (known_doctype y e)))
      (λ e. steady_choose (starts (ascii "<!")) (λ k v. k.bang v) (λ g. steady_other y g) (λ g. steady_root y g l t)))
      (λ l. steady_unended))

  pub steady_beginning : (x : List ℕ) → Star (Ch any) x → Steady Any Decided None (read_beginning D) x
  unfolding read_beginning Text
  steady_beginning x t = steady_then known_some (steady_prolog D x) (λ j e. steady_tag (drop j x) (λ z f. behind j z (ap (λ (u : List ℕ). take j x ++ u) (sym f) ∙ take-append-drop j x)))
    where
      behind : (j : ℕ) (z : List ℕ) → take j x ++ (60 ∷ z) ≡ x → Star (Ch any) z
      behind j z e =
          text_rest z (ascii_text (60 ∷ []) tt) (text_rest (60 ∷ z) (text_front (take j x) 60 z (omega arith) (sym e) t) (subst (Star (Ch any)) (sym e) t))

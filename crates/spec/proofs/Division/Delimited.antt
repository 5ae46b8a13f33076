-- The entries of the one division are those that are met with bodies only delimited: once a text is accepted, its entries end where they
-- are delimited, so that no body is read again. Assumes nothing.
use mathlib.Core.Bool.{Bool, true, ◌||◌}
use mathlib.Core.List.{List, [], ◌∷◌, ◌++◌, append_assoc}
use mathlib.Core.Path.{◌≡◌, refl, sym, ◌∙◌, ap}
use Prim.Native.Nat.{ℕ, zero, suc, ◌+◌, ◌<◌}
use Prim.Native.String.{String}
use native.Mathlib.Omega.{arith}
use lib.Dec.{T}
use lib.ListN.{length, take, drop, length-append, length-drop}
use lib.Seq.{drop-append_seam, drop_at}
use Rattle.spec.specs.Basics.{pick}
use Rattle.spec.specs.Grammar.Characters.{S?, space}
use Rattle.spec.specs.Grammar.Division.{Entry}
use Rattle.spec.specs.Grammar.Languages.{ascii}
use Rattle.spec.specs.Grammar.Names.{Dialect, AsciiNames}
use Rattle.spec.specs.Reading.Dtd.{skip_s, finish_decl, take_decl_body, has_pe_reference, parse_pe_reference, parse_markup_decl, parse_element_decl, parse_attlist_decl, parse_entity_decl, parse_notation_decl}
use Rattle.spec.specs.Reading.Entries.{kind_at, one_entry, listed, entries_fuel, entries_from, from_open, declarations}
use Rattle.spec.specs.Reading.Places.{outside}
use Rattle.spec.specs.Reading.Readers.{Result, ok, err, Reader, on_ok, ◌>>◌, nothing, starts, choose, on, word_of, run}
use Rattle.spec.specs.Reading.Refusals.{Refusal, unexpected, too_deep}
use Rattle.spec.specs.Reading.Scan.{subset_open}
use Rattle.spec.proofs.Agreement.Runs.{not_space, skip}
use Rattle.spec.proofs.Agreement.Signs.{kind, sub_refl}
use Rattle.spec.proofs.Base.Loops.{Somes}
use Rattle.spec.proofs.Base.Results.{err_ok, ok_inj, on_ok_ok, then_ok, both_pick}
use Rattle.spec.proofs.Base.Somes.{some_on}
use Rattle.spec.proofs.Division.Clear.{clear_front}
use Rattle.spec.proofs.Division.Parting.{kind_is, entry_taken, entry_no_space, close_no_space}
use Rattle.spec.proofs.Division.Parts.{Filling, last, next, entries, Parts, list_of}
use Rattle.spec.proofs.Division.Scans.{found_after}
use Rattle.spec.proofs.Dtd.Items.{some_reference, some_markup}

-- q takes what r takes, wherever r takes something
abbrev Looser : List ℕ → ℕ → Reader → Reader → Type 0
Looser w k r q = r w ≡ ok k → q w ≡ ok k

loose_on : (s : String) (w : List ℕ) (k : ℕ) (r q r' q' : Reader) → Looser w k r r' → Looser w k q q' → Looser w k (on s r q) (on s r' q')
unfolding on choose
loose_on s w k r q r' q' a b = both_pick (Looser w k) (starts (ascii s) w) a b

loose_then : (r q q' : Reader) (w : List ℕ) (k : ℕ) → ((v : List ℕ) (j : ℕ) → Looser v j q q') → Looser w k (r >> q) (r >> q')
unfolding ◌>>◌
loose_then r q q' w k h e = let (i, j, f, g, l) = then_ok r q w k e in (rw (f, h (drop i w) j g)) ∙ ap ok l

spaces_run : (s v : List ℕ) → S? s → T (not_space (kind v)) → run space (s ++ v) ≡ length s
unfolding skip_s
spaces_run s v a t = ok_inj (run space (s ++ v)) (length s) ((skip not_space sub_refl).complete s v a (record { it = t }))

module _ (D : Dialect) where
  -- a body that is read is delimited too
  loose_finish : (pe : Bool) (body : Reader) (w : List ℕ) (k : ℕ) → Looser w k (finish_decl D pe body) (finish_decl D true body)
  unfolding finish_decl nothing
  loose_finish pe body w k e =
      let (j, f, g) = on_ok_ok (take_decl_body w) (λ k. on_ok (pick (pe || has_pe_reference D (take k w)) nothing body (take k w)) (λ _. ok (k + 1))) k e in
      let (i, l, m) = on_ok_ok (pick (pe || has_pe_reference D (take j w)) nothing body (take j w)) (λ _. ok (j + 1)) k g in
      ap (λ (x : Result). on_ok x (λ i. ok (i + 1))) f ∙ m

  loose_markup : (pe : Bool) (w : List ℕ) (k : ℕ) → Looser w k (parse_markup_decl D too_deep pe) (parse_markup_decl D too_deep true)
  unfolding parse_markup_decl
  loose_markup pe w k =
      loose_on "<?" w k _ _ _ _ (λ e. e) (loose_on "<!--" w k _ _ _ _ (λ e. e) (loose_on "<![" w k _ _ _ _ (λ e. e)
      (loose_on "<!ELEMENT" w k _ _ _ _ (loose_then _ _ _ w k (loose_finish pe (parse_element_decl D too_deep)))
      (loose_on "<!ATTLIST" w k _ _ _ _ (loose_then _ _ _ w k (loose_finish pe (parse_attlist_decl D)))
      (loose_on "<!ENTITY" w k _ _ _ _ (loose_then _ _ _ w k (loose_finish pe (parse_entity_decl D)))
      (loose_then _ _ _ w k (loose_finish pe (parse_notation_decl D))))))))

  loose_entry : (pe : Bool) (w : List ℕ) (k : ℕ) → Looser w k (on "%" (parse_pe_reference D) (parse_markup_decl D too_deep pe)) (one_entry D)
  loose_entry pe w k = loose_on "%" w k _ _ _ _ (λ e. e) (loose_markup pe w k)

  some_entry : Somes (one_entry D)
  some_entry = some_on "%" (parse_pe_reference D) (parse_markup_decl D too_deep true) (some_reference D) (some_markup D true)

  no_entry : one_entry D [] ≡ err unexpected 0
  unfolding on choose parse_markup_decl starts word_of ◌>>◌
  no_entry = refl

  no_entry_close : (b : List ℕ) → one_entry D (93 ∷ b) ≡ err unexpected 0
  unfolding on choose parse_markup_decl starts word_of ◌>>◌
  no_entry_close b = refl

  -- an entry takes a byte or more
  pub entry_some : (x : List ℕ) (k : ℕ) → one_entry D x ≡ ok k → (0 < k) × (0 < length x)
  entry_some [] k e = absurd (err_ok unexpected k (sym no_entry ∙ e))
  entry_some (b ∷ x) k e = (some_entry.some b x k e, omega arith)

  -- the fuel lasts
  enough : (d e : ℕ) (n : ℕ) (w : List ℕ) → length w < d → length w < e → entries_fuel D d n w ≡ entries_fuel D e n w
  unfolding entries_fuel
  enough zero e n w h g = absurd (let z : length w < 0 = h in omega arith)
  enough (suc d) zero n w h g = absurd (let z : length w < 0 = g in omega arith)
  enough (suc d) (suc e) n w h g = go (one_entry D (drop (run space w) w)) refl (λ m y l. enough d e m y (omega arith) (omega arith))
    where
      go : (a : Result) → one_entry D (drop (run space w) w) ≡ a → ((m : ℕ) (y : List ℕ) → length y < length w → entries_fuel D d m y ≡ entries_fuel D e m y)
          → listed D (entries_fuel D d) (n + run space w) (drop (run space w) w) a ≡ listed D (entries_fuel D e) (n + run space w) (drop (run space w) w) a
      go (err r j) f ih = refl
      go (ok k) f ih =
          let x : List ℕ = drop (run space w) w in
          let (z, y) = entry_some x k f in
          let l : length (drop k x) < length w = omega (arith, length-drop k x, length-drop (run space w) w) in
          ap (λ (es : List Entry). record { kind = kind_at x; first = n + run space w; past = n + run space w + k } ∷ es) (ih (n + run space w + k) (drop k x) l)

  -- one entry and then those after it
  pub from_some : (n : ℕ) (w : List ℕ) (k : ℕ) → one_entry D (drop (run space w) w) ≡ ok k
      → entries_from D n w ≡ record { kind = kind_at (drop (run space w) w); first = n + run space w; past = n + run space w + k } ∷ entries_from D (n + run space w + k) (drop k (drop (run space w) w))
  unfolding entries_from entries_fuel
  from_some n w k e =
      let x : List ℕ = drop (run space w) w in
      let (z, y) = entry_some x k e in
      let l : length (drop k x) < length w = omega (arith, length-drop k x, length-drop (run space w) w) in
      ap (listed D (entries_fuel D (length w)) (n + run space w) x) e
      ∙ ap (λ (es : List Entry). record { kind = kind_at x; first = n + run space w; past = n + run space w + k } ∷ es) (enough (length w) (suc (length (drop k x))) (n + run space w + k) (drop k x) l (omega arith))

  -- none
  pub from_none : (n : ℕ) (w : List ℕ) (r : Refusal) (j : ℕ) → one_entry D (drop (run space w) w) ≡ err r j → entries_from D n w ≡ []
  unfolding entries_from entries_fuel
  from_none n w r j e = ap (listed D (entries_fuel D (length w)) (n + run space w) (drop (run space w) w)) e

  pub from_end : (n : ℕ) → entries_from D n [] ≡ []
  unfolding run
  from_end n = from_none n [] unexpected 0 no_entry

  -- white space before x, and x read there
  spaced : (s x : List ℕ) (a : Result) → S? s → T (not_space (kind x)) → one_entry D x ≡ a → one_entry D (drop (run space (s ++ x)) (s ++ x)) ≡ a
  spaced s x a b t e = ap (λ (n : ℕ). one_entry D (drop n (s ++ x))) (spaces_run s x b t) ∙ ap (one_entry D) (drop-append_seam s x) ∙ e

module _ (D : Dialect) (A : AsciiNames D) where
  -- entries that fill a text before a ']' are those that are met
  from_filling : {pe : Bool} {x : List ℕ} (f : Filling D pe x) (n : ℕ) (b : List ℕ) → entries_from D n (x ++ 93 ∷ b) ≡ entries D n f
  from_filling {pe} {x} (last a) n b =
      from_none D n (x ++ 93 ∷ b) unexpected 0 (spaced D x (93 ∷ b) (err unexpected 0) a (close_no_space D A b) (no_entry_close D b))
  from_filling {pe} {x} (next k s y z e a l f) n b =
      let v : List ℕ = z ++ 93 ∷ b in
      let t : T (not_space (kind (y ++ v))) = entry_no_space D A pe k y v l in
      let r : run space (s ++ (y ++ v)) ≡ length s = spaces_run s (y ++ v) a t in
      let o : one_entry D (drop (run space (s ++ (y ++ v))) (s ++ (y ++ v))) ≡ ok (length y) = spaced D s (y ++ v) (ok (length y)) a t (loose_entry D pe (y ++ v) (length y) (entry_taken D A pe k y v l)) in
      ap (entries_from D n) (ap (λ (q : List ℕ). q ++ 93 ∷ b) e ∙ append_assoc s (y ++ z) (93 ∷ b) ∙ ap (λ (q : List ℕ). s ++ q) (append_assoc y z (93 ∷ b)))
      ∙ from_some D n (s ++ (y ++ v)) (length y) o
      ∙ ap (λ (m : ℕ). record { kind = kind_at (drop m (s ++ (y ++ v))); first = n + m; past = n + m + length y } ∷ entries_from D (n + m + length y) (drop (length y) (drop m (s ++ (y ++ v))))) r
      ∙ ap (λ (q : List ℕ). record { kind = kind_at q; first = n + length s; past = n + length s + length y } ∷ entries_from D (n + length s + length y) (drop (length y) q)) (drop-append_seam s (y ++ v))
      ∙ (λ i. record { kind = kind_is D A pe k y v l i; first = n + length s; past = n + length s + length y } ∷ (ap (entries_from D (n + length s + length y)) (drop-append_seam y v) ∙ from_filling f (n + length s + length y) b) i)

  -- those of a text, divided by parts
  pub parts_declare : (w : List ℕ) (a : Parts D w) → declarations D w ≡ list_of D a
  unfolding declarations outside
  parts_declare w a =
      let p : List ℕ = a.front ++ (91 ∷ []) in
      let r : List ℕ = a.inner ++ (93 ∷ a.back) in
      let e : w ≡ p ++ r = a.split ∙ sym (append_assoc a.front (91 ∷ []) r) in
      let n : length p ≡ length a.front + 1 = length-append a.front (91 ∷ []) in
      let m : length a.front + 1 ≡ suc (length a.front) = omega arith in
      ap (from_open D w) (ap subset_open a.split ∙ found_after subset_open a.front (91 ∷ r) (clear_front D A a.front a.heads) refl)
      ∙ ap (entries_from D (length a.front + 1)) (ap (drop (length a.front + 1)) e ∙ drop_at p r (length a.front + 1) n)
      ∙ ap (λ (i : ℕ). entries_from D i r) m
      ∙ from_filling a.fills (suc (length a.front)) a.back

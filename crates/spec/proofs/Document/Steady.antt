-- Answers that stand, whatever follows: a reader's answer on a beginning is its answer on the whole, where what is left after it, or at
-- the place where it is refused, says enough. The law of each way to make a reader. Assumes nothing.
use mathlib.Core.Logic
use mathlib.Core.Bool.{Bool, true, false, ◌&&◌, ◌||◌, not, true≢false, and-false, or-true}
use mathlib.Core.List.{List, [], ◌∷◌, ◌++◌, append_assoc}
use mathlib.Core.Logic.{◌⊎◌}
use mathlib.Core.Path.{◌≡◌, refl, sym, ◌∙◌, ap, subst}
use Prim.Native.Nat.{ℕ, zero, suc, ◌≤◌, ◌<◌}
use Prim.Native.String.{String}
use native.Mathlib.Omega.{arith}
use lib.Dec.{eqb}
use lib.ListN.{length, take, drop, take-append-drop, length-drop, get_or}
use lib.Seq.{drop-drop}
use Rattle.spec.specs.Basics.{pick, within}
use Rattle.spec.specs.Grammar.Characters.{space}
use Rattle.spec.specs.Grammar.Languages.{ascii, one_of}
use Rattle.spec.specs.Grammar.Utf8.{encode}
use Rattle.spec.specs.Reading.Dtd.{skip_s}
use Rattle.spec.specs.Reading.Places.{at, later, outside}
use Rattle.spec.specs.Reading.Readers.{Result, ok, err, Reader, on_ok, past, ◌>>◌, nothing, starts, choose, word, word_of, run, contains, before, up_to, refuse, begins, while, of_point}
use Rattle.spec.specs.Reading.Refusals.{Refusal, number, unterminated}
use Rattle.spec.specs.Reading.Utf8.{Point, point, no_point, decode4, decode1, lead_3, lead_4}
use Rattle.spec.proofs.Agreement.Holds.{starts_longer, lacks, contains_after}
use Rattle.spec.proofs.Agreement.Words.{starts_within, found, contains_at, before_within, before_le}
use Rattle.spec.proofs.Base.Loops.{Somes, while_turn, while_stop, while_refused}
use Rattle.spec.proofs.Base.Outside.{later_at, nowhere_at}
use Rattle.spec.proofs.Base.Results.{err_ok}
use Rattle.spec.proofs.Base.Tests.{and_left, and_right, decide, eqb-true, not-true}
use Rattle.spec.proofs.Characters.Utf8.{Read, decode_read, decode_encode}

-- a front part of a beginning, and what is left after it
pub take_longer : (k : ℕ) (x v : List ℕ) → k ≤ length x → take k (x ++ v) ≡ take k x
take_longer zero x v h = refl
take_longer (suc k) [] v h = absurd (let z : suc k ≤ 0 = h in omega arith)
take_longer (suc k) (b ∷ x) v h = ap (λ (z : List ℕ). b ∷ z) (take_longer k x v (omega arith))

pub drop_longer : (k : ℕ) (x v : List ℕ) → k ≤ length x → drop k (x ++ v) ≡ drop k x ++ v
drop_longer zero x v h = refl
drop_longer (suc k) [] v h = absurd (let z : suc k ≤ 0 = h in omega arith)
drop_longer (suc k) (b ∷ x) v h = drop_longer k x v (omega arith)

-- a word in it
pub starts_same : (p y v : List ℕ) → length p ≤ length y → starts p (y ++ v) ≡ starts p y
unfolding starts
starts_same [] y v h = refl
starts_same (a ∷ p) [] v h = absurd (let z : suc (length p) ≤ 0 = h in omega arith)
starts_same (a ∷ p) (b ∷ y) v h = ap (λ (t : Bool). eqb b a && t) (starts_same p y v (omega arith))

pub contains_longer : (p x v : List ℕ) → contains p x ≡ true → contains p (x ++ v) ≡ true
unfolding contains
contains_longer p [] v e = absurd (true≢false (sym e))
contains_longer p (b ∷ x) v e = go (starts p (b ∷ x)) refl e (contains_longer p x v)
  where
    go : (t : Bool) → starts p (b ∷ x) ≡ t → (t || contains p x) ≡ true → (contains p x ≡ true → contains p (x ++ v) ≡ true) → (starts p (b ∷ (x ++ v)) || contains p (x ++ v)) ≡ true
    go true f g ih = ap (λ (s : Bool). s || contains p (x ++ v)) (starts_longer p (b ∷ x) v f)
    go false f g ih = rw (ih g) (or-true (starts p (b ∷ (x ++ v))))

pub before_longer : (p x v : List ℕ) → contains p x ≡ true → before p (x ++ v) ≡ before p x
unfolding contains before
before_longer p [] v e = absurd (true≢false (sym e))
before_longer p (b ∷ x) v e = go (starts p (b ∷ x)) refl e (before_longer p x v)
  where
    go : (t : Bool) → starts p (b ∷ x) ≡ t → (t || contains p x) ≡ true → (contains p x ≡ true → before p (x ++ v) ≡ before p x)
        → pick (starts p (b ∷ (x ++ v))) 0 (suc (before p (x ++ v))) ≡ pick t 0 (suc (before p x))
    go true f g ih = rw (starts_longer p (b ∷ x) v f)
    go false f g ih =
        let l = before_within p x g in
        rw (starts_same p (b ∷ x) v (omega arith) ∙ f) (ap suc (ih g))

-- a run of a class that ends in it, and a byte outside quotes
run_longer : (p : ℕ → Bool) (x v : List ℕ) → run p x < length x → run p (x ++ v) ≡ run p x
unfolding run
run_longer p [] v h = absurd (let z : 0 < 0 = h in omega arith)
run_longer p (b ∷ x) v h = go (p b) h (run_longer p x v)
  where
    go : (t : Bool) → pick t (suc (run p x)) 0 < suc (length x) → (run p x < length x → run p (x ++ v) ≡ run p x) → pick t (suc (run p (x ++ v))) 0 ≡ pick t (suc (run p x)) 0
    go true g ih = ap suc (ih (omega arith))
    go false g ih = refl

pub outside_longer : (p : ℕ → Bool) (q : ℕ) (x v : List ℕ) (k : ℕ) → outside p q x ≡ at k → outside p q (x ++ v) ≡ at k
unfolding outside
outside_longer p q [] v k e = absurd (nowhere_at k e)
outside_longer p zero (b ∷ x) v k e = go (p b) e (outside_longer p (pick (one_of "\"'" b) b 0) x v)
  where
    go : (t : Bool) → pick t (at 0) (later 1 (outside p (pick (one_of "\"'" b) b 0) x)) ≡ at k → ((j : ℕ) → outside p (pick (one_of "\"'" b) b 0) x ≡ at j → outside p (pick (one_of "\"'" b) b 0) (x ++ v) ≡ at j)
        → pick t (at 0) (later 1 (outside p (pick (one_of "\"'" b) b 0) (x ++ v))) ≡ at k
    go true f h = f
    go false f h = let (j, g, i) = later_at 1 k (outside p (pick (one_of "\"'" b) b 0) x) f in ap (later 1) (h j g) ∙ ap at i
outside_longer p (suc q) (b ∷ x) v k e =
    let (j, g, i) = later_at 1 k (outside p (pick (eqb b (suc q)) 0 (suc q)) x) e in
    ap (later 1) (outside_longer p (pick (eqb b (suc q)) 0 (suc q)) x v j g) ∙ ap at i

-- a character that comes first
pub point_longer : (x v : List ℕ) (c k : ℕ) → decode1 x ≡ point c k → decode1 (x ++ v) ≡ point c k
point_longer x v c k e =
    let r : Read c k x = decode_read c k x e in
    ap (λ (z : List ℕ). decode1 (z ++ v)) r.split ∙ ap decode1 (append_assoc (encode c) r.rest v) ∙ decode_encode c (r.rest ++ v) r.is_scalar ∙ ap (point c) r.size

pub begins_longer : (p : ℕ → Bool) (x v : List ℕ) → begins p x ≡ true → begins p (x ++ v) ≡ true
unfolding begins
begins_longer p x v e = go (decode1 x) refl e
  where
    go : (d : Point) → decode1 x ≡ d → of_point d (λ c k. p c) false ≡ true → of_point (decode1 (x ++ v)) (λ c k. p c) false ≡ true
    go (point c k) f g = rw (point_longer x v c k f) g
    go no_point f g = absurd (true≢false (sym g))

-- A '>' is left.
pub record Closing (y : List ℕ) : Type 0 where
  pub it : contains (62 ∷ []) y ≡ true

pub closing_back : (k : ℕ) (x : List ℕ) → Closing (drop k x) → Closing x
closing_back k x c = record { it = go (decide (contains (62 ∷ []) x)) }
  where
    go : (contains (62 ∷ []) x ≡ true) ⊎ (contains (62 ∷ []) x ≡ false) → contains (62 ∷ []) x ≡ true
    go (Logic.inl e) = e
    go (Logic.inr e) = absurd (true≢false (sym c.it ∙ contains_after (62 ∷ []) (take k x) (drop k x) (ap (contains (62 ∷ [])) (take-append-drop k x) ∙ e)))

pub closing_some : (y : List ℕ) → Closing y → 0 < length y
unfolding contains
closing_some [] c = absurd (true≢false (sym c.it))
closing_some (b ∷ y) c = omega arith

pub closing_here : (y : List ℕ) → starts (62 ∷ []) y ≡ true → Closing y
unfolding contains starts
closing_here [] e = absurd (true≢false (sym e))
closing_here (b ∷ y) e = record { it = rw e }

closing_tail : (b : ℕ) (x : List ℕ) → Closing (b ∷ x) → eqb b 62 ≡ false → Closing x
unfolding contains starts
closing_tail b x c e = record { it = let h = c.it in (rw e at h) }

-- the '>' of a mark that ends with one
pub closing_mark : (y : List ℕ) → contains (ascii "?>") y ≡ true → Closing y
closing_mark y e =
    let (v, f) = found (ascii "?>") y e in
    let u : List ℕ = take (before (ascii "?>") y) y in
    record { it = ap (contains (62 ∷ [])) (f ∙ sym (append_assoc u (63 ∷ []) (62 ∷ v))) ∙ contains_at 62 [] (u ++ 63 ∷ []) v }

-- then a word without '>' stands or does not, whatever follows,
pub starts_stands : (s x v : List ℕ) → lacks 62 s ≡ true → Closing x → starts s (x ++ v) ≡ starts s x
unfolding starts contains
starts_stands [] x v l c = refl
starts_stands (a ∷ s) [] v l c = absurd (true≢false (sym c.it))
starts_stands (a ∷ s) (b ∷ x) v l c = go (decide (eqb b 62)) (starts_stands s x v (and_right (not (eqb 62 a)) (lacks 62 s) l))
  where
    go : (eqb b 62 ≡ true) ⊎ (eqb b 62 ≡ false) → (Closing x → starts s (x ++ v) ≡ starts s x) → (eqb b a && starts s (x ++ v)) ≡ (eqb b a && starts s x)
    go (Logic.inl e) ih =
        let f : eqb b a ≡ false = ap (λ (z : ℕ). eqb z a) (eqb-true b 62 e) ∙ not-true (eqb 62 a) (and_left (not (eqb 62 a)) (lacks 62 s) l) in
        rw f
    go (Logic.inr e) ih = ap (λ (t : Bool). eqb b a && t) (ih (closing_tail b x c e))

-- and a character comes first or does not: its bytes end before the '>'
second_none : (a c d e f : ℕ) → decode4 a 62 c d ≡ decode4 a 62 e f
unfolding decode4
second_none a c d e f =
    rw (and-false (within 0xC2 0xDF a), and-false (eqb a 0xE0), and-false (within 0xE1 0xEC a), and-false (eqb a 0xED), and-false (within 0xEE 0xEF a), and-false (eqb a 0xF0), and-false (within 0xF1 0xF3 a), and-false (eqb a 0xF4))

third_none : (a b d f : ℕ) → decode4 a b 62 d ≡ decode4 a b 62 f
unfolding decode4
third_none a b d f = rw (and-false (lead_3 a b), and-false (lead_4 a b))

pub decode_stands : (x v : List ℕ) → Closing x → decode1 (x ++ v) ≡ decode1 x
unfolding decode1 contains starts
decode_stands [] v c = absurd (true≢false (sym c.it))
decode_stands (a ∷ []) v c = by (decide (eqb a 62))
  where
    by : (eqb a 62 ≡ true) ⊎ (eqb a 62 ≡ false) → decode4 a (get_or v 0 0) (get_or v 1 0) (get_or v 2 0) ≡ decode4 a 0 0 0
    by (Logic.inl e) = unfold decode4 in rw (eqb-true a 62 e)
    by (Logic.inr e) = absurd (let z : 0 < 0 = closing_some [] (closing_tail a [] c e) in omega arith)
decode_stands (a ∷ b ∷ []) v c = by (decide (eqb a 62)) (decide (eqb b 62))
  where
    by : (eqb a 62 ≡ true) ⊎ (eqb a 62 ≡ false) → (eqb b 62 ≡ true) ⊎ (eqb b 62 ≡ false) → decode4 a b (get_or v 0 0) (get_or v 1 0) ≡ decode4 a b 0 0
    by (Logic.inl e) f = unfold decode4 in rw (eqb-true a 62 e)
    by (Logic.inr e) (Logic.inl f) = rw (eqb-true b 62 f) (second_none a (get_or v 0 0) (get_or v 1 0) 0 0)
    by (Logic.inr e) (Logic.inr f) = absurd (let z : 0 < 0 = closing_some [] (closing_tail b [] (closing_tail a (b ∷ []) c e) f) in omega arith)
decode_stands (a ∷ b ∷ d ∷ []) v c = by (decide (eqb a 62)) (decide (eqb b 62)) (decide (eqb d 62))
  where
    by : (eqb a 62 ≡ true) ⊎ (eqb a 62 ≡ false) → (eqb b 62 ≡ true) ⊎ (eqb b 62 ≡ false) → (eqb d 62 ≡ true) ⊎ (eqb d 62 ≡ false) → decode4 a b d (get_or v 0 0) ≡ decode4 a b d 0
    by (Logic.inl e) f g = unfold decode4 in rw (eqb-true a 62 e)
    by (Logic.inr e) (Logic.inl f) g = rw (eqb-true b 62 f) (second_none a d (get_or v 0 0) d 0)
    by (Logic.inr e) (Logic.inr f) (Logic.inl g) = rw (eqb-true d 62 g) (third_none a b (get_or v 0 0) 0)
    by (Logic.inr e) (Logic.inr f) (Logic.inr g) = absurd (let z : 0 < 0 = closing_some [] (closing_tail d [] (closing_tail b (d ∷ []) (closing_tail a (b ∷ d ∷ []) c e) f) g) in omega arith)
decode_stands (a ∷ b ∷ d ∷ e ∷ x) v c = refl

pub begins_stands : (p : ℕ → Bool) (x v : List ℕ) → Closing x → begins p (x ++ v) ≡ begins p x
unfolding begins
begins_stands p x v c = rw (decode_stands x v c)

-- An answer is firm, where what is left after the bytes taken is as L says; or what is refused is something else than unterminated, and
-- what is left from its place on is as E says.
abbrev pub Other : Refusal → Type 0
Other n = eqb (number n) (number unterminated) ≡ false

abbrev pub Firm : (List ℕ → Type 0) → (List ℕ → Type 0) → Result → List ℕ → Type 0
Firm E L (ok k) x = L (drop k x)
Firm E L (err n k) x = Other n × E (drop k x)

-- A reader is steady at a text, where its firm answer is the answer whatever follows; and such an answer says K of the text itself, so that
-- what is read before it is firm too.
pub record Steady (E K L : List ℕ → Type 0) (r : Reader) (x : List ℕ) : Type 0 where
  pub stands : Firm E L (r x) x → K x × ((v : List ℕ) → r (x ++ v) ≡ r x)

-- any text, and none
pub data Any (y : List ℕ) : Type 0 where
  whatever : Any y

abbrev pub None : List ℕ → Type 0
None y = ⊥

-- something is left
abbrev pub Leaves : (List ℕ → Type 0) → Type 0
Leaves L = (y : List ℕ) → L y → 0 < length y

module _ (E L : List ℕ → Type 0) where
  pub firm_past : (j : ℕ) (a : Result) (x : List ℕ) → Firm E L (past j a) x → Firm E L a (drop j x)
  firm_past j (ok k) x f = subst L (sym (drop-drop k j x)) f
  firm_past j (err n k) x (o, f) = (o, subst E (sym (drop-drop k j x)) f)

  firm_weaker : {M : List ℕ → Type 0} → ((y : List ℕ) → M y → L y) → (a : Result) (x : List ℕ) → Firm E M a x → Firm E L a x
  firm_weaker h (ok k) x f = h (drop k x) f
  firm_weaker h (err n k) x f = f

  -- what is firm has its end
  firm_ends : (k : ℕ) (a : Result) (x : List ℕ) → Firm E L a x → a ≡ err unterminated k → ⊥
  firm_ends k (ok j) x f e = err_ok unterminated j (sym e)
  firm_ends k (err n j) x (o, f) e = let m : n ≡ unterminated = cc in true≢false (ap (λ (z : Refusal). eqb (number z) (number unterminated)) (sym m) ∙ o)

-- a loop is a turn and the loop again
module _ (t : List ℕ → Bool) (r : Reader) (ends : t [] ≡ false) (s : Somes r) where
  some_turn : (x : List ℕ) (j : ℕ) → t x ≡ true → r x ≡ ok j → 0 < j
  some_turn [] j e f = absurd (true≢false (sym e ∙ ends))
  some_turn (b ∷ x) j e f = s.some b x j f

  one_turn : (x : List ℕ) → while t r x ≡ choose t (r >> while t r) nothing x
  unfolding choose ◌>>◌ nothing
  one_turn x = by (t x) refl (r x) refl
    where
      by : (b : Bool) → t x ≡ b → (a : Result) → r x ≡ a → while t r x ≡ pick b (λ y. on_ok (r y) (λ k. past k (while t r (drop k y)))) nothing x
      by true e (ok k) f = while_turn t r ends some_turn x k e f ∙ sym (ap (λ (z : Result). on_ok z (λ k. past k (while t r (drop k x)))) f)
      by true e (err n k) f = while_refused t r ends x n e f ∙ sym (ap (λ (z : Result). on_ok z (λ k. past k (while t r (drop k x)))) f)
      by false e a f = while_stop t r x e

module _ {E K L : List ℕ → Type 0} where
  -- the same reader, written otherwise; less is known before, or more is left after
  pub steady_as : {r q : Reader} {x : List ℕ} → ((y : List ℕ) → r y ≡ q y) → Steady E K L q x → Steady E K L r x
  steady_as {r} {q} {x} h a = record {
    stands = λ f. let (k, s) = a.stands (subst (λ (z : Result). Firm E L z x) (h x) f) in (k, λ v. h (x ++ v) ∙ s v ∙ sym (h x));
  }

  pub steady_weaker : {J M : List ℕ → Type 0} {r : Reader} {x : List ℕ} → ((y : List ℕ) → K y → J y) → ((y : List ℕ) → M y → L y) → Steady E K L r x → Steady E J M r x
  steady_weaker {r = r} {x = x} g h a = record { stands = λ f. let (k, s) = a.stands (firm_weaker E L h (r x) x f) in (g x k, s) }

  pub steady_nothing : {x : List ℕ} → (L x → K x) → Steady E K L nothing x
  unfolding nothing
  steady_nothing h = record { stands = λ f. (h f, λ v. refl) }

  pub steady_choose : (t : List ℕ → Bool) {r q : Reader} {x : List ℕ} → (K x → (v : List ℕ) → t (x ++ v) ≡ t x) → (t x ≡ true → Steady E K L r x) → (t x ≡ false → Steady E K L q x)
      → Steady E K L (choose t r q) x
  unfolding choose
  steady_choose t {r} {q} {x} h a b = record { stands = λ f. by (t x) refl f }
    where
      by : (s : Bool) → t x ≡ s → Firm E L (pick s r q x) x → K x × ((v : List ℕ) → pick (t (x ++ v)) r q (x ++ v) ≡ pick s r q x)
      by true e f = let (k, s) = (a e).stands f in (k, λ v. ap (λ (z : Bool). pick z r q (x ++ v)) (h k v ∙ e) ∙ s v)
      by false e f = let (k, s) = (b e).stands f in (k, λ v. ap (λ (z : Bool). pick z r q (x ++ v)) (h k v ∙ e) ∙ s v)

  -- one after the other
  pub steady_then : {M : List ℕ → Type 0} {r q : Reader} {x : List ℕ} → Leaves L → Steady E K L r x → ((j : ℕ) → r x ≡ ok j → Steady E L M q (drop j x)) → Steady E K M (r >> q) x
  unfolding ◌>>◌
  steady_then {M} {r} {q} {x} some a b = record { stands = λ f. go (r x) refl f }
    where
      next : List ℕ → ℕ → Result
      next w k = past k (q (drop k w))

      go : (y : Result) → r x ≡ y → Firm E M (on_ok y (next x)) x → K x × ((v : List ℕ) → on_ok (r (x ++ v)) (next (x ++ v)) ≡ on_ok y (next x))
      go (err n k) e f =
          let (i, s) = a.stands (subst (λ (z : Result). Firm E L z x) (sym e) f) in
          (i, λ v. ap (λ (z : Result). on_ok z (next (x ++ v))) (s v ∙ e))
      go (ok j) e f =
          let (l, s) = (b j e).stands (firm_past E M j (q (drop j x)) x f) in
          let (i, u) = a.stands (subst (λ (z : Result). Firm E L z x) (sym e) l) in
          let z = some (drop j x) l in
          let h : j ≤ length x = omega (arith, length-drop j x) in
          (i, λ v. ap (λ (y : Result). on_ok y (next (x ++ v))) (u v ∙ e) ∙ ap (past j) (ap q (drop_longer j x v h) ∙ s v))

-- again and again
module _ {E K L : List ℕ → Type 0} (t : List ℕ → Bool) {r : Reader} (ends : t [] ≡ false) (s : Somes r) (some : Leaves K) (test : (x : List ℕ) → K x → (v : List ℕ) → t (x ++ v) ≡ t x)
    (turn : (x : List ℕ) → t x ≡ true → Steady E K K r x) (out : (x : List ℕ) → t x ≡ false → L x → K x) where
  steady_turns : (d : ℕ) (x : List ℕ) → length x ≤ d → Steady E K L (while t r) x
  steady_turns zero [] h = steady_as (one_turn t r ends s) (steady_choose t (test []) (λ e. absurd (true≢false (sym e ∙ ends))) (λ e. steady_nothing (out [] e)))
  steady_turns zero (b ∷ x) h = absurd (let z : suc (length x) ≤ 0 = h in omega arith)
  steady_turns (suc d) x h =
      steady_as (one_turn t r ends s)
      (steady_choose t (test x) (λ e. steady_then some (turn x e) (λ j f. let z = some_turn t r ends s x j e f in steady_turns d (drop j x) (omega (arith, length-drop j x)))) (λ e. steady_nothing (out x e)))

  pub steady_while : (x : List ℕ) → Steady E K L (while t r) x
  steady_while x = steady_turns (length x) x (omega arith)

-- white space
pub steady_skip : {E K : List ℕ → Type 0} → Leaves K → ((x : List ℕ) → K (drop (run space x) x) → K x) → (x : List ℕ) → Steady E K K skip_s x
unfolding skip_s
steady_skip some back x = record {
  stands = λ f. (back x f, λ v. ap ok (run_longer space x v (let z = some (drop (run space x) x) f in omega (arith, length-drop (run space x) x))));
}

-- A reader whose answers stand by themselves, but for one: that what it looks for is nowhere.
abbrev pub Own : Reader → Type 0
Own r = (x v : List ℕ) → (r x ≡ err unterminated 0 → ⊥) → r (x ++ v) ≡ r x

module _ (s : String) (check : List ℕ → Result) where
  pub up_to_longer : (x v : List ℕ) → contains (ascii s) x ≡ true → up_to s unterminated check (x ++ v) ≡ up_to s unterminated check x
  unfolding up_to
  up_to_longer x v e =
      rw (contains_longer (ascii s) x v e, e, before_longer (ascii s) x v e, take_longer (before (ascii s) x) x v (before_le (ascii s) x))

  pub up_to_nowhere : (x : List ℕ) → contains (ascii s) x ≡ false → up_to s unterminated check x ≡ err unterminated 0
  unfolding up_to refuse
  up_to_nowhere x e = rw e

  pub up_to_found : (x : List ℕ) → (up_to s unterminated check x ≡ err unterminated 0 → ⊥) → contains (ascii s) x ≡ true
  up_to_found x d = go (decide (contains (ascii s) x))
    where
      go : (contains (ascii s) x ≡ true) ⊎ (contains (ascii s) x ≡ false) → contains (ascii s) x ≡ true
      go (Logic.inl e) = e
      go (Logic.inr e) = absurd (d (up_to_nowhere x e))

  pub own_up_to : Own (up_to s unterminated check)
  own_up_to x v d = up_to_longer x v (up_to_found x d)

-- such a reader after a word that stands
module _ (s : String) (n : Refusal) (r : Reader) where
  pub after_word : (x : List ℕ) → starts (ascii s) x ≡ true → (word s n >> r) x ≡ past (length (ascii s)) (r (drop (length (ascii s)) x))
  unfolding ◌>>◌ word_of
  after_word x e = rw e

  pub word_longer : (x v : List ℕ) → starts (ascii s) x ≡ true → r (drop (length (ascii s)) x ++ v) ≡ r (drop (length (ascii s)) x) → (word s n >> r) (x ++ v) ≡ (word s n >> r) x
  word_longer x v e h =
      after_word (x ++ v) (starts_longer (ascii s) x v e)
      ∙ ap (past (length (ascii s))) (ap r (drop_longer (length (ascii s)) x v (starts_within (ascii s) x e)) ∙ h)
      ∙ sym (after_word x e)

  pub firm_after : (E L : List ℕ → Type 0) (x : List ℕ) → starts (ascii s) x ≡ true → Firm E L ((word s n >> r) x) x → r (drop (length (ascii s)) x) ≡ err unterminated 0 → ⊥
  firm_after E L x e f =
      let g : Firm E L (past (length (ascii s)) (r (drop (length (ascii s)) x))) x = subst (λ (z : Result). Firm E L z x) (after_word x e) f in
      firm_ends E L 0 (r (drop (length (ascii s)) x)) (drop (length (ascii s)) x) (firm_past E L (length (ascii s)) (r (drop (length (ascii s)) x)) x g)

  pub own_after : (E L : List ℕ → Type 0) → Own r → (x v : List ℕ) → starts (ascii s) x ≡ true → Firm E L ((word s n >> r) x) x → (word s n >> r) (x ++ v) ≡ (word s n >> r) x
  own_after E L o x v e f = word_longer x v e (o (drop (length (ascii s)) x) v (firm_after E L x e f))

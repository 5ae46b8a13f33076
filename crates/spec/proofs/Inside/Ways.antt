-- Readers stop at a place of the text, whether they take bytes or refuse: the law of each way to make a reader. Assumes nothing.
use mathlib.Core.Bool.{Bool, true, false}
use mathlib.Core.List.{List, [], ◌∷◌}
use mathlib.Core.Path.{◌≡◌, refl}
use Prim.Native.Nat.{ℕ, zero, suc, ◌+◌, ◌≤◌}
use Prim.Native.String.{String}
use native.Mathlib.Omega.{arith}
use lib.Dec.{eqb}
use lib.ListN.{length, take, drop, length-take, length-drop}
use Rattle.spec.specs.Basics.{pick}
use Rattle.spec.specs.Grammar.Languages.{ascii}
use Rattle.spec.specs.Reading.Readers.{
  Result,
  ok,
  err,
  Reader,
  stop_of,
  on_ok,
  past,
  ◌>>◌,
  nothing,
  refuse,
  at_end,
  starts,
  choose,
  on,
  word_of,
  word,
  while_fuel,
  while,
  some_left,
  throughout,
  required,
  a_byte,
  of_point,
  char,
  contains,
  before,
  at_front,
  as_one,
  refuse_at,
  up_to,
}
use Rattle.spec.specs.Reading.Refusals.{Refusal}
use Rattle.spec.specs.Reading.Utf8.{Point, point, no_point, decode1}
use Rattle.spec.proofs.Agreement.Words.{starts_within, before_within}
use Rattle.spec.proofs.Characters.Utf8.{point_size}

pub record Inside (r : Reader) : Type 0 where
  pub inside : (w : List ℕ) → stop_of (r w) ≤ length w

-- answers that stop at n or before
pub stop_on : (n : ℕ) (a : Result) (f : ℕ → Result) → stop_of a ≤ n → ((k : ℕ) → a ≡ ok k → stop_of (f k) ≤ n) → stop_of (on_ok a f) ≤ n
stop_on n (ok k) f h g = g k refl
stop_on n (err r j) f h g = h

pub stop_past : (k : ℕ) (a : Result) → stop_of (past k a) ≡ k + stop_of a
stop_past k (ok j) = refl
stop_past k (err r j) = refl

stop_front : (a : Result) → stop_of (at_front a) ≤ stop_of a
stop_front (ok k) = omega arith
stop_front (err r j) = omega arith

pub stop_pick : (n : ℕ) (t : Bool) (a b : Result) → (t ≡ true → stop_of a ≤ n) → (t ≡ false → stop_of b ≤ n) → stop_of (pick t a b) ≤ n
stop_pick n true a b f g = f refl
stop_pick n false a b f g = g refl

-- a word stands within the text, or nowhere
pub before_most : (p w : List ℕ) → before p w ≤ length w
unfolding before
before_most p [] = omega arith
before_most p (b ∷ w) = go (starts p (b ∷ w)) (before_most p w)
  where
    go : (t : Bool) → before p w ≤ length w → pick t 0 (suc (before p w)) ≤ suc (length w)
    go true h = omega arith
    go false h = omega arith

pub take_most : (n : ℕ) (w : List ℕ) → length (take n w) ≤ length w
take_most n w = omega (arith, length-take n w)

-- readers
infixr 60 ◌then◌
pub ◌then◌ : {A B : Reader} → Inside A → Inside B → Inside (A >> B)
unfolding ◌>>◌
◌then◌ {A} {B} p q = record { inside = λ w. go w (A w) (p.inside w) }
  where
    go : (w : List ℕ) (a : Result) → stop_of a ≤ length w → stop_of (on_ok a (λ k. past k (B (drop k w)))) ≤ length w
    go w (ok k) h = let z = q.inside (drop k w) in let e = stop_past k (B (drop k w)) in omega (arith, length-drop k w)
    go w (err r j) h = h

pub in_nothing : Inside nothing
unfolding nothing
in_nothing = record { inside = λ w. omega arith }

pub in_byte : Inside a_byte
unfolding a_byte
in_byte = record { inside = go }
  where
    go : (w : List ℕ) → stop_of (a_byte w) ≤ length w
    go [] = omega arith
    go (b ∷ w) = omega arith

pub in_refuse : (n : Refusal) → Inside (refuse n)
unfolding refuse
in_refuse n = record { inside = λ w. omega arith }

pub in_refuse_at : (s : String) (n : Refusal) → Inside (refuse_at s n)
unfolding refuse_at
in_refuse_at s n = record { inside = λ w. before_most (ascii s) w }

pub in_one : {A : Reader} → Inside A → Inside (as_one A)
unfolding as_one
in_one {A} p = record { inside = λ w. let z = p.inside w in let y = stop_front (A w) in omega arith }

pub in_end : (n : Refusal) → Inside (at_end n)
unfolding at_end
in_end n = record { inside = go }
  where
    go : (w : List ℕ) → stop_of (at_end n w) ≤ length w
    go [] = omega arith
    go (b ∷ w) = omega arith

pub in_pick : (t : Bool) {A B : Reader} → Inside A → Inside B → Inside (pick t A B)
in_pick true p q = p
in_pick false p q = q

pub in_choose : (t : List ℕ → Bool) {A B : Reader} → Inside A → Inside B → Inside (choose t A B)
unfolding choose
in_choose t p q = record { inside = λ w. (in_pick (t w) p q).inside w }

pub in_on : (s : String) {A B : Reader} → Inside A → Inside B → Inside (on s A B)
unfolding on
in_on s p q = in_choose (starts (ascii s)) p q

pub in_word : (s : String) (n : Refusal) → Inside (word s n)
unfolding word_of
in_word s n = record { inside = λ w. stop_pick (length w) (starts (ascii s) w) (ok (length (ascii s))) (err n 0) (starts_within (ascii s) w) (λ _. omega arith) }

in_fuel : (d : ℕ) (t : List ℕ → Bool) {A : Reader} → Inside A → Inside (while_fuel d t A)
unfolding while_fuel ◌>>◌
in_fuel zero t p = record { inside = λ w. omega arith }
in_fuel (suc d) t p =
    let ih = in_fuel d t p in
    record { inside = λ w. (in_pick (t w) (p then ih) in_nothing).inside w }

pub in_while : (t : List ℕ → Bool) {A : Reader} → Inside A → Inside (while t A)
unfolding while
in_while t p = record { inside = λ w. (in_fuel (length w) t p).inside w }

pub in_throughout : {A : Reader} → Inside A → Inside (throughout A)
unfolding throughout
in_throughout p = in_while some_left p

pub in_required : (n : Refusal) {A : Reader} → Inside A → Inside (required n A)
unfolding required
in_required n {A} p = record { inside = λ w. go w (A w) (p.inside w) }
  where
    go : (w : List ℕ) (a : Result) → stop_of a ≤ length w → stop_of (on_ok a (λ k. pick (eqb k 0) (err n 0) (ok k))) ≤ length w
    go w (ok k) h = stop_pick (length w) (eqb k 0) (err n 0) (ok k) (λ _. omega arith) (λ _. h)
    go w (err r j) h = h

pub in_char : (p : ℕ → Bool) (n : Refusal) → Inside (char p n)
unfolding char
in_char p n = record { inside = λ w. go w (decode1 w) refl }
  where
    go : (w : List ℕ) (x : Point) → decode1 w ≡ x → stop_of (of_point x (λ c k. pick (p c) (ok k) (err n 0)) (err n 0)) ≤ length w
    go w (point c k) e = stop_pick (length w) (p c) (ok k) (err n 0) (λ _. (point_size c k w e).1) (λ _. omega arith)
    go w no_point e = omega arith

pub in_up_to : (s : String) (n : Refusal) {check : List ℕ → Result} → Inside check → Inside (up_to s n check)
unfolding up_to refuse
in_up_to s n {check} p = record { inside = λ w. go w (contains (ascii s) w) refl }
  where
    go : (w : List ℕ) (t : Bool) → contains (ascii s) w ≡ t
        → stop_of (pick t (λ (x : List ℕ). on_ok (check (take (before (ascii s) w) w)) (λ _. ok (before (ascii s) w + length (ascii s)))) (refuse n) w) ≤ length w
    go w true e =
        stop_on (length w) (check (take (before (ascii s) w) w)) (λ _. ok (before (ascii s) w + length (ascii s)))
        (let z = p.inside (take (before (ascii s) w) w) in let y = take_most (before (ascii s) w) w in omega arith) (λ k f. before_within (ascii s) w e)
    go w false e = omega arith

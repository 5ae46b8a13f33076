-- Answers of readers: what they can't be at once, how one that is `ok` came about, and numbers. Assumes nothing.
use mathlib.Core.Bool.{Bool, true, false}
use mathlib.Core.List.{List}
use mathlib.Core.Path.{◌≡◌, refl, sym, ap}
use Prim.Native.Nat.{ℕ, ◌+◌, ◌<◌, suc}
use Prim.Native.String.{String}
use native.Mathlib.Omega.{arith}
use lib.ListN.{drop}
use Rattle.spec.specs.Basics.{pick}
use Rattle.spec.specs.Reading.Readers.{Result, ok, err, past, Reader, on_ok, ◌>>◌, refuse, at_front, as_one, refuse_at}
use Rattle.spec.specs.Reading.Refusals.{Refusal, number, too_long, not_utf8, no_space, bad_name, has_colon, no_literal, unterminated, unexpected, trailing, bad_pubid, reserved_target, double_hyphen, bad_connector, less_than, bad_reference, illegal_reference, bad_value, illegal_char, section_end, too_deep, out_of_order}

pub err_ok : (n : Refusal) {j : ℕ} (k : ℕ) → err n j ≡ ok k → ⊥
err_ok n k e = let z : ◌≡◌ {A = ℕ} 0 1 = cc in omega arith

pub err_place : (r : Refusal) (i k : ℕ) → err r i ≡ err r k → i ≡ k
err_place r i k e = cc

pub ok_inj : (n k : ℕ) → ok n ≡ ok k → n ≡ k
ok_inj n k e = cc

-- one byte more
pub one-add : (n : ℕ) → 1 + n ≡ suc n
one-add n = omega arith

-- bytes taken before
pub past_past : (j k : ℕ) (a : Result) → past j (past k a) ≡ past (j + k) a
past_past j k (ok n) = ap ok (let e : j + (k + n) ≡ j + k + n = omega arith in e)
past_past j k (err r n) = ap (err r) (let e : j + (k + n) ≡ j + k + n = omega arith in e)

-- so they are part of what was taken
pub past_ok : (j k : ℕ) (a : Result) → past j a ≡ ok k → (m : ℕ) × (a ≡ ok m) × (j + m ≡ k)
past_ok j k (ok m) e = (m, refl, ok_inj (j + m) k e)
past_ok j k (err n i) e = absurd (err_ok n k e)

-- and of what stands before a refusal
pub past_err : (j k : ℕ) (r : Refusal) (a : Result) → past j a ≡ err r k → (m : ℕ) × (a ≡ err r m) × (j + m ≡ k)
past_err j k r (ok m) e = absurd (err_ok r (j + m) (sym e))
past_err j k r (err n m) e = (m, cc, cc)

-- How an answer came about, that is `ok`: what was taken first, and what then.
pub on_ok_ok : (a : Result) (f : ℕ → Result) (k : ℕ) → on_ok a f ≡ ok k → (j : ℕ) × (a ≡ ok j) × (f j ≡ ok k)
on_ok_ok (ok j) f k e = (j, refl, e)
on_ok_ok (err n i) f k e = absurd (err_ok n k e)

pub then_ok : (r q : Reader) (w : List ℕ) (k : ℕ) → (r >> q) w ≡ ok k → (i j : ℕ) × (r w ≡ ok i) × (q (drop i w) ≡ ok j) × (i + j ≡ k)
unfolding ◌>>◌
then_ok r q w k e =
    let (i, f, g) = on_ok_ok (r w) (λ i. past i (q (drop i w))) k e in
    let (j, h, l) = past_ok i k (q (drop i w)) g in
    (i, j, f, h, l)

-- the same branch on both sides
pub both_pick : {A : Type 0} (R : A → A → Type 0) (t : Bool) {x y x' y' : A} → R x x' → R y y' → R (pick t x y) (pick t x' y')
both_pick R true a b = a
both_pick R false a b = b

-- by a test that chooses between two values, and between two readers
pub by_pick : {A C : Type 0} (t : Bool) (x y z : A) → (t ≡ true → x ≡ z → C) → (t ≡ false → y ≡ z → C) → pick t x y ≡ z → C
by_pick true x y z f g e = f refl e
by_pick false x y z f g e = g refl e

pub by_reader : {C : Type 0} (t : Bool) (r q : Reader) (w : List ℕ) (a : Result) → (t ≡ true → r w ≡ a → C) → (t ≡ false → q w ≡ a → C) → pick t r q w ≡ a → C
by_reader true r q w a f g e = f refl e
by_reader false r q w a f g e = g refl e

-- and where one of the two refuses: the test came out the other way
pub unless_refused : (n : Refusal) (j : ℕ) (t : Bool) (a : Result) (k : ℕ) → pick t (err n j) a ≡ ok k → (t ≡ false) × (a ≡ ok k)
unless_refused n j t a k e = by_pick t (err n j) a (ok k) (λ _ f. absurd (err_ok n k f)) (λ f g. (f, g)) e

pub else_refused : (n : Refusal) (j : ℕ) (t : Bool) (a : Result) (k : ℕ) → pick t a (err n j) ≡ ok k → (t ≡ true) × (a ≡ ok k)
else_refused n j t a k e = by_pick t a (err n j) (ok k) (λ f g. (f, g)) (λ _ f. absurd (err_ok n k f)) e

pub unless_refuses : (n : Refusal) (t : Bool) (q : Reader) (w : List ℕ) (k : ℕ) → pick t (refuse n) q w ≡ ok k → (t ≡ false) × (q w ≡ ok k)
unfolding refuse
unless_refuses n t q w k e = by_reader t (refuse n) q w (ok k) (λ _ f. absurd (err_ok n k f)) (λ f g. (f, g)) e

pub else_refuses : (n : Refusal) (t : Bool) (r : Reader) (w : List ℕ) (k : ℕ) → pick t r (refuse n) w ≡ ok k → (t ≡ true) × (r w ≡ ok k)
unfolding refuse
else_refuses n t r w k e = by_reader t r (refuse n) w (ok k) (λ f g. (f, g)) (λ _ f. absurd (err_ok n k f)) e

pub unless_refuses_at : (s : String) (n : Refusal) (t : Bool) (q : Reader) (w : List ℕ) (k : ℕ) → pick t (refuse_at s n) q w ≡ ok k → (t ≡ false) × (q w ≡ ok k)
unfolding refuse_at
unless_refuses_at s n t q w k e = by_reader t (refuse_at s n) q w (ok k) (λ _ f. absurd (err_ok n k f)) (λ f g. (f, g)) e

-- where a refusal is met makes no difference to what is taken
front_ok : (a : Result) (k : ℕ) → at_front a ≡ ok k → a ≡ ok k
front_ok (ok j) k e = e
front_ok (err n j) k e = absurd (err_ok n k e)

pub one_ok : (r : Reader) (w : List ℕ) (k : ℕ) → as_one r w ≡ ok k → r w ≡ ok k
unfolding as_one
one_ok r w k e = front_ok (r w) k e

pub ok_one : (r : Reader) (w : List ℕ) (k : ℕ) → r w ≡ ok k → as_one r w ≡ ok k
unfolding as_one
ok_one r w k e = rw e

-- no refusal's number is 0
pub number_pos : (r : Refusal) → 0 < number r
number_pos too_long = omega arith
number_pos not_utf8 = omega arith
number_pos no_space = omega arith
number_pos bad_name = omega arith
number_pos has_colon = omega arith
number_pos no_literal = omega arith
number_pos unterminated = omega arith
number_pos unexpected = omega arith
number_pos trailing = omega arith
number_pos bad_pubid = omega arith
number_pos reserved_target = omega arith
number_pos double_hyphen = omega arith
number_pos bad_connector = omega arith
number_pos less_than = omega arith
number_pos bad_reference = omega arith
number_pos illegal_reference = omega arith
number_pos bad_value = omega arith
number_pos illegal_char = omega arith
number_pos section_end = omega arith
number_pos too_deep = omega arith
number_pos out_of_order = omega arith

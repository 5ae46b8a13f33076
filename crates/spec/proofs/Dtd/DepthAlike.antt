-- Two readers that differ only in what they do with one group too many, and the law of each way to make a reader. Assumes nothing.
use mathlib.Core.Bool.{Bool, not}
use mathlib.Core.List.{List, [], ◌∷◌}
use mathlib.Core.Path.{◌≡◌, refl, ap, subst}
use Prim.Native.Nat.{ℕ, zero, suc, ◌+◌}
use Prim.Native.String.{String}
use lib.Dec.{T, eqb}
use lib.ListN.{length, take, drop}
use Rattle.spec.specs.Basics.{pick}
use Rattle.spec.specs.Grammar.Languages.{ascii}
use Rattle.spec.specs.Reading.Readers.{Result, ok, err, Reader, number_of, on_ok, past, ◌>>◌, nothing, refuse, at_end, starts, choose, on, word_of, word, while_fuel, while, some_left, throughout, required, a_byte, of_point, char, contains, before, at_front, as_one, refuse_at, up_to}
use Rattle.spec.specs.Reading.Refusals.{Refusal, too_deep}
use Rattle.spec.specs.Reading.Utf8.{Point, point, no_point, decode1}
use Rattle.spec.proofs.Base.Results.{both_pick}

-- an answer whose number is not 20
abbrev pub other : Result → Bool
other a = not (eqb (number_of a) 20)

-- The first answer is given under some limit, with too_deep for one group too many, the second under a limit larger by j, with y for one
-- too many. Where the first limit is met, and it is also the second, the second answer is y, at the same place; else the answers are one, and
-- not 20.
pub data Alike (j : ℕ) (y : Refusal) (a b : Result) : Type 0 where
  met : (k : ℕ) → a ≡ err too_deep k → (j ≡ 0 → b ≡ err y k) → Alike j y a b
  same : a ≡ b → T (other a) → Alike j y a b

pub record Like (j : ℕ) (y : Refusal) (r q : Reader) : Type 0 where
  pub it : (w : List ℕ) → Alike j y (r w) (q w)

module _ {j : ℕ} {y : Refusal} where
  -- answers
  pub alike_on : {a b : Result} {f g : ℕ → Result} → Alike j y a b → ((k : ℕ) → Alike j y (f k) (g k)) → Alike j y (on_ok a f) (on_ok b g)
  alike_on {a} {b} {f} {g} (met k e m) h = met k (ap (λ (x : Result). on_ok x f) e) (λ z. ap (λ (x : Result). on_ok x g) (m z))
  alike_on {a} {b} {f} {g} (same e t) h = subst (λ (x : Result). Alike j y (on_ok a f) (on_ok x g)) e (go a t)
    where
      go : (x : Result) → T (other x) → Alike j y (on_ok x f) (on_ok x g)
      go (ok k) t = h k
      go (err n i) t = same refl t

  pub alike_past : (k : ℕ) {a b : Result} → Alike j y a b → Alike j y (past k a) (past k b)
  alike_past k (met l e m) = met (k + l) (ap (past k) e) (λ z. ap (past k) (m z))
  alike_past k {a} (same e t) = same (ap (past k) e) (go a t)
    where
      go : (x : Result) → T (other x) → T (other (past k x))
      go (ok i) t = tt
      go (err n i) t = t

  alike_front : {a b : Result} → Alike j y a b → Alike j y (at_front a) (at_front b)
  alike_front (met k e m) = met 0 (ap at_front e) (λ z. ap at_front (m z))
  alike_front {a} (same e t) = same (ap at_front e) (go a t)
    where
      go : (x : Result) → T (other x) → T (other (at_front x))
      go (ok i) t = tt
      go (err n i) t = t

  -- k bytes where the test holds, or refusal n
  pub alike_test : (b : Bool) (k : ℕ) (n : Refusal) (i : ℕ) → T (other (err n i)) → Alike j y (pick b (ok k) (err n i)) (pick b (ok k) (err n i))
  alike_test b k n i t = both_pick (Alike j y) b (same refl tt) (same refl t)

  -- readers
  infixr 60 ◌then◌
  pub ◌then◌ : {r q r' q' : Reader} → Like j y r r' → Like j y q q' → Like j y (r >> q) (r' >> q')
  unfolding ◌>>◌
  a then b = record { it = λ w. alike_on (a.it w) (λ k. alike_past k (b.it (drop k w))) }

  pub like_nothing : Like j y nothing nothing
  unfolding nothing
  like_nothing = record { it = λ w. same refl tt }

  pub like_byte : Like j y a_byte a_byte
  unfolding a_byte
  like_byte = record { it = go }
    where
      go : (w : List ℕ) → Alike j y (a_byte w) (a_byte w)
      go [] = same refl tt
      go (b ∷ w) = same refl tt

  pub like_refuse : (n : Refusal) → T (other (err n 0)) → Like j y (refuse n) (refuse n)
  unfolding refuse
  like_refuse n t = record { it = λ w. same refl t }

  pub like_refuse_at : (s : String) (n : Refusal) → T (other (err n 0)) → Like j y (refuse_at s n) (refuse_at s n)
  unfolding refuse_at
  like_refuse_at s n t = record { it = λ w. same refl t }

  pub like_one : {r q : Reader} → Like j y r q → Like j y (as_one r) (as_one q)
  unfolding as_one
  like_one a = record { it = λ w. alike_front (a.it w) }

  pub like_end : (n : Refusal) → T (other (err n 0)) → Like j y (at_end n) (at_end n)
  unfolding at_end
  like_end n t = record { it = go }
    where
      go : (w : List ℕ) → Alike j y (at_end n w) (at_end n w)
      go [] = same refl tt
      go (b ∷ w) = same refl t

  pub like_choose : (t : List ℕ → Bool) {r q r' q' : Reader} → Like j y r r' → Like j y q q' → Like j y (choose t r q) (choose t r' q')
  unfolding choose
  like_choose t a b = record { it = λ w. (both_pick (Like j y) (t w) a b).it w }

  pub like_on : (s : String) {r q r' q' : Reader} → Like j y r r' → Like j y q q' → Like j y (on s r q) (on s r' q')
  unfolding on
  like_on s a b = like_choose (starts (ascii s)) a b

  pub like_word : (s : String) (n : Refusal) → T (other (err n 0)) → Like j y (word s n) (word s n)
  unfolding word_of
  like_word s n t = record { it = λ w. alike_test (starts (ascii s) w) (length (ascii s)) n 0 t }

  like_fuel : (d : ℕ) (t : List ℕ → Bool) {r q : Reader} → Like j y r q → Like j y (while_fuel d t r) (while_fuel d t q)
  unfolding while_fuel ◌>>◌
  like_fuel zero t a = record { it = λ w. same refl tt }
  like_fuel (suc d) t a =
      let ih = like_fuel d t a in
      record { it = λ w. (both_pick (Like j y) (t w) (a then ih) like_nothing).it w }

  pub like_while : (t : List ℕ → Bool) {r q : Reader} → Like j y r q → Like j y (while t r) (while t q)
  unfolding while
  like_while t a = record { it = λ w. (like_fuel (length w) t a).it w }

  pub like_throughout : {r q : Reader} → Like j y r q → Like j y (throughout r) (throughout q)
  unfolding throughout
  like_throughout a = like_while some_left a

  pub like_required : (n : Refusal) → T (other (err n 0)) → {r q : Reader} → Like j y r q → Like j y (required n r) (required n q)
  unfolding required
  like_required n t a = record { it = λ w. alike_on (a.it w) (λ k. both_pick (Alike j y) (eqb k 0) (same refl t) (same refl tt)) }

  pub like_char : (p : ℕ → Bool) (n : Refusal) → T (other (err n 0)) → Like j y (char p n) (char p n)
  unfolding char
  like_char p n t = record { it = λ w. go (decode1 w) }
    where
      go : (x : Point) → Alike j y (of_point x (λ c k. pick (p c) (ok k) (err n 0)) (err n 0)) (of_point x (λ c k. pick (p c) (ok k) (err n 0)) (err n 0))
      go (point c k) = alike_test (p c) k n 0 t
      go no_point = same refl t

  pub like_up_to : (s : String) (n : Refusal) → T (other (err n 0)) → {c d : List ℕ → Result} → Like j y c d → Like j y (up_to s n c) (up_to s n d)
  unfolding up_to
  like_up_to s n t a =
      record { it = λ w. (both_pick (Like j y) (contains (ascii s) w) (record { it = λ x. alike_on (a.it (take (before (ascii s) w) w)) (λ k. same refl tt) }) (like_refuse n t)).it w }

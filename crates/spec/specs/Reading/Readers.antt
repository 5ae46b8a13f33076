-- Readers: from the bytes that are left to how many of them are taken, or to a refusal and the place where it is met. Total on all
-- bytes. Assumes nothing.
use Rattle.std.specs.Prelude.{Bool, true, false, ◌&&◌, ◌||◌, List, [], ◌∷◌, ℕ, zero, suc, ◌+◌, eqb, length, take, drop}
use Prim.Native.String.{String}
use Rattle.spec.specs.Basics.{pick}
use Rattle.spec.specs.Grammar.Languages.{ascii}
use Rattle.spec.specs.Reading.Refusals.{Refusal, number}
use Rattle.spec.specs.Reading.Utf8.{Point, point, no_point, decode1}

-- how many bytes are taken; or the refusal, and how many of the bytes that are left stand before the place where it is met
pub data Result : Type 0 where
  ok : ℕ → Result
  err : Refusal → ℕ → Result

abbrev pub Reader : Type 0
Reader = List ℕ → Result

-- the number of an answer in the table of docs/SCOPE.md, and how many bytes it took
abbrev pub number_of : Result → ℕ
number_of (ok k) = 0
number_of (err r j) = number r

abbrev pub taken : Result → ℕ
taken (ok k) = k
taken (err r j) = 0

-- where reading stops: how many bytes stand before the end of what is taken, or before the place of the refusal
abbrev pub stop_of : Result → ℕ
stop_of (ok k) = k
stop_of (err r j) = j

-- go on with what was taken, or pass the refusal up
abbrev pub on_ok : Result → (ℕ → Result) → Result
on_ok (ok k) f = f k
on_ok (err r j) f = err r j

-- k bytes were taken before
abbrev pub past : ℕ → Result → Result
past k (ok j) = ok (k + j)
past k (err r j) = err r (k + j)

-- one after the other
infixr 60 ◌>>◌
unfoldable pub ◌>>◌ : Reader → Reader → Reader
(r >> q) w = on_ok (r w) (λ k. past k (q (drop k w)))

unfoldable pub nothing : Reader
nothing w = ok 0

unfoldable pub refuse : Refusal → Reader
refuse n w = err n 0

-- the text's end, or refusal n
unfoldable pub at_end : Refusal → Reader
at_end n [] = ok 0
at_end n (b ∷ bs) = err n 0

-- the text begins with these bytes
unfoldable pub starts : List ℕ → List ℕ → Bool
starts [] w = true
starts (p ∷ ps) [] = false
starts (p ∷ ps) (b ∷ bs) = eqb b p && starts ps bs

-- r where the test holds, q where it does not
unfoldable pub choose : (List ℕ → Bool) → Reader → Reader → Reader
choose t r q w = pick (t w) r q w

-- r where the word stands, q where it does not
unfoldable pub on : String → Reader → Reader → Reader
on s = choose (starts (ascii s))

-- these bytes, or refusal n; a word's bytes
unfoldable pub word_of : List ℕ → Refusal → Reader
word_of p n w = pick (starts p w) (ok (length p)) (err n 0)

abbrev pub word : String → Refusal → Reader
word s n = word_of (ascii s) n

-- how many bytes of the class stand first
unfoldable pub run : (ℕ → Bool) → List ℕ → ℕ
run p [] = 0
run p (b ∷ bs) = pick (p b) (suc (run p bs)) 0

-- r again and again while the test holds; each turn takes a byte or more, so the fuel, a unit for each byte, lasts
unfoldable pub while_fuel : ℕ → (List ℕ → Bool) → Reader → Reader
while_fuel zero t r w = ok 0
while_fuel (suc d) t r w = pick (t w) (λ x. on_ok (r x) (λ k. past k (while_fuel d t r (drop k x)))) nothing w

unfoldable pub while : (List ℕ → Bool) → Reader → Reader
while t r w = while_fuel (length w) t r w

-- r again and again to the text's end
unfoldable pub some_left : List ℕ → Bool
some_left [] = false
some_left (b ∷ bs) = true

unfoldable pub throughout : Reader → Reader
throughout r = while some_left r

-- what r takes, at least a byte, or refusal n
unfoldable pub required : Refusal → Reader → Reader
required n r w = on_ok (r w) (λ k. pick (eqb k 0) (err n 0) (ok k))

-- the next byte
unfoldable pub a_byte : Reader
a_byte [] = ok 0
a_byte (b ∷ bs) = ok 1

-- a code point of the class comes first; it, or refusal n
abbrev pub of_point : {A : Type 0} → Point → (ℕ → ℕ → A) → A → A
of_point (point c k) f d = f c k
of_point no_point f d = d

unfoldable pub begins : (ℕ → Bool) → List ℕ → Bool
begins p w = of_point (decode1 w) (λ c k. p c) false

unfoldable pub char : (ℕ → Bool) → Refusal → Reader
char p n w = of_point (decode1 w) (λ c k. pick (p c) (ok k) (err n 0)) (err n 0)

-- whether and where these bytes first stand in the text: how many bytes stand before them
unfoldable pub contains : List ℕ → List ℕ → Bool
contains p [] = false
contains p (b ∷ bs) = starts p (b ∷ bs) || contains p bs

unfoldable pub before : List ℕ → List ℕ → ℕ
before p [] = 0
before p (b ∷ bs) = pick (starts p (b ∷ bs)) 0 (suc (before p bs))

-- r as one sign: what is refused in it is refused where it begins
abbrev pub at_front : Result → Result
at_front (ok k) = ok k
at_front (err r j) = err r 0

unfoldable pub as_one : Reader → Reader
as_one r w = at_front (r w)

-- refusal n where the word first stands
unfoldable pub refuse_at : String → Refusal → Reader
refuse_at s n w = err n (before (ascii s) w)

-- everything up to the first place of the word, and the word too, if the check takes what stands before it;
-- refusal n if the word is nowhere
unfoldable pub up_to : String → Refusal → (List ℕ → Result) → Reader
up_to s n check w =
    pick (contains (ascii s) w)
    (λ x. on_ok (check (take (before (ascii s) w) w)) (λ _. ok (before (ascii s) w + length (ascii s))))
    (refuse n) w

-- Choices by a word, nothing at all, and refusals. Assumes nothing.
use mathlib.Core.Bool.{true}
use mathlib.Core.List.{List, [], ◌++◌}
use mathlib.Core.Path.{◌≡◌, refl, sym, ◌∙◌, ap, subst}
use Prim.Native.Nat.{ℕ}
use Prim.Native.String.{String}
use lib.Dec.{T}
use lib.ListN.{length}
use Rattle.spec.specs.Grammar.Languages.{Lang, lit, ascii, ◌·◌, ◌∣◌}
use Rattle.spec.specs.Reading.Readers.{ok, Reader, nothing, refuse, starts, on}
use Rattle.spec.specs.Reading.Refusals.{Refusal}
use Rattle.spec.proofs.Agreement.Algebra.{no_other}
use Rattle.spec.proofs.Agreement.Reads.{Reads, Next, alt, weaken_by, as_lang, took_none}
use Rattle.spec.proofs.Agreement.Signs.{kind, Class, sub_refl, ◌∪◌, sub_either}
use Rattle.spec.proofs.Agreement.Words.{starts_self, starts_clash, clash, starts_lit}
use Rattle.spec.proofs.Base.Results.{err_ok, ok_inj}

-- the reader that a word settles: r's language begins with it, and q's with another sign
pub on_begun : (s : String) {r q : Reader} {L M F : Lang} {f g : Class} → T (clash (ascii s) [] g) → ((u v : List ℕ) → L u → starts (ascii s) (u ++ v) ≡ true)
    → Reads r L F f → Reads q M F g → Reads (on s r q) (L ∣ M) F (f ∪ g)
unfolding on
on_begun s {g = g} c begun a b = alt (starts (ascii s)) (λ u v l t. begun u v l) (λ u v m t. starts_clash (ascii s) [] g (u ++ v) c (b.leads u v m t)) a b

pub on_word : (s : String) {r q : Reader} {L M F : Lang} {f g : Class} → T (clash (ascii s) [] g)
    → Reads r (lit s · L) F f → Reads q M F g → Reads (on s r q) ((lit s · L) ∣ M) F (f ∪ g)
on_word s c a b = on_begun s c (λ u v l. starts_lit s v l) a b

pub on_lit : (s : String) {r q : Reader} {M F : Lang} {f g : Class} → T (clash (ascii s) [] g)
    → Reads r (lit s) F f → Reads q M F g → Reads (on s r q) (lit s ∣ M) F (f ∪ g)
on_lit s c a b = on_begun s c (λ u v l. ap (λ (x : List ℕ). starts (ascii s) (x ++ v)) l ∙ starts_self (ascii s) v) a b

-- nothing at all
pub empty_reads : (p : Class) → Reads nothing (λ w. w ≡ []) (Next p) p
unfolding nothing
empty_reads p = record {
  sound = λ w k tw e. took_none (ok_inj 0 k e) tw refl;
  complete = λ u v e t. ap (λ (x : List ℕ). ok (length x)) (sym e);
  leads = λ u v e t. subst (λ (x : List ℕ). T (p (kind (x ++ v)))) (sym e) t.it;
}

-- nothing is read
pub refuse_reads : {F : Lang} (n : Refusal) (f : Class) → Reads (refuse n) (λ w. ⊥) F f
unfolding refuse
refuse_reads n f = record { sound = λ w k tw e. absurd (err_ok n k e); complete = λ u v z t. absurd z; leads = λ u v z t. absurd z }

-- r where the word stands, and a refusal elsewhere
pub on_or_refuse : (s : String) {r : Reader} {L F : Lang} {f : Class} (n : Refusal) → Reads r (lit s · L) F f → Reads (on s r (refuse n)) (lit s · L) F f
unfolding on
on_or_refuse s {f = f} n a =
    weaken_by (λ v t. t) (sub_either sub_refl sub_refl)
    (as_lang no_other (alt (starts (ascii s)) (λ u v l t. starts_lit s v l) (λ u v z t. absurd z) a (refuse_reads n f)))

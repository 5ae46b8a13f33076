-- Everything up to the first place of a word. Assumes nothing.
use mathlib.Core.List.{List, ◌∷◌, ◌++◌, append_assoc}
use mathlib.Core.Path.{◌≡◌, refl, sym, ◌∙◌, ap, subst}
use Prim.Native.Nat.{ℕ, suc, ◌+◌}
use Prim.Native.String.{String}
use lib.Dec.{T, ltb}
use lib.ListN.{length, take, length-append}
use lib.Seq.{take-append_seam, length-take-le}
use Rattle.spec.specs.Basics.{pick}
use Rattle.spec.specs.Grammar.Characters.{Text}
use Rattle.spec.specs.Grammar.Languages.{Lang, lit, ascii, Ch, ◌·◌, Star, any}
use Rattle.spec.specs.Reading.Readers.{Result, ok, Reader, on_ok, refuse, contains, before, up_to}
use Rattle.spec.specs.Reading.Refusals.{Refusal}
use Rattle.spec.proofs.Agreement.Reads.{Took, Reads, Next}
use Rattle.spec.proofs.Agreement.Words.{found, before_le, contains_at}
use Rattle.spec.proofs.Base.Results.{ok_inj, else_refuses, on_ok_ok}
use Rattle.spec.proofs.Base.Tests.{T→true, leb_true, and_left}
use Rattle.spec.proofs.Characters.Bytes.{text_front}
use Rattle.spec.proofs.Characters.Text.{all_ascii, ascii_text, text_rest}

-- up to a word: X is what stands before its first place and passes the check
module _ (s : String) (n : Refusal) (check : List ℕ → Result) (X : Lang)
    (a : ℕ) (p : List ℕ) (is : ascii s ≡ a ∷ p) (good : T (all_ascii (a ∷ p)))
    (sound_in : (u v : List ℕ) (j : ℕ) → Text u → before (a ∷ p) (u ++ ((a ∷ p) ++ v)) ≡ length u → check u ≡ ok j → X u)
    (complete_in : (u : List ℕ) → X u → (j : ℕ) × (check u ≡ ok j))
    (free : (u v : List ℕ) → X u → before (a ∷ p) (u ++ ((a ∷ p) ++ v)) ≡ length u) where
  abbrev reader : List ℕ → Reader
  reader q w = pick (contains q w) (λ x. on_ok (check (take (before q w) w)) (λ _. ok (before q w + length q))) (refuse n) w

  sound_up_to : (w : List ℕ) (k : ℕ) → Text w → reader (a ∷ p) w ≡ ok k → Took (X · (λ x. x ≡ a ∷ p)) k w
  unfolding Text
  sound_up_to w k tw e =
      let j : ℕ = before (a ∷ p) w in
      let u : List ℕ = take j w in
      let (c, g) = else_refuses n (contains (a ∷ p) w) (λ x. on_ok (check u) (λ _. ok (j + length (a ∷ p)))) w k e in
      let (v, f) = found (a ∷ p) w c in
      let (i, h, m) = on_ok_ok (check u) (λ _. ok (j + length (a ∷ p))) k g in
      let l : length u ≡ j = length-take-le j w (before_le (a ∷ p) w) in
      let tu : Star (Ch any) u = text_front u a (p ++ v) (leb_true (suc a) 128 (and_left (ltb a 128) (all_ascii p) (T→true (all_ascii (a ∷ p)) good))) f tw in
      record {
        taken = u ++ (a ∷ p);
        rest = v;
        split = f ∙ sym (append_assoc u (a ∷ p) v);
        size = length-append u (a ∷ p) ∙ ap (λ (x : ℕ). x + length (a ∷ p)) l ∙ ok_inj (j + length (a ∷ p)) k m;
        holds = record { left = u; right = a ∷ p; split = refl; first = sound_in u v i tu (ap (before (a ∷ p)) (sym f) ∙ sym l) h; second = refl };
        left = text_rest v (ascii_text (a ∷ p) good) (text_rest ((a ∷ p) ++ v) tu (subst Text f tw));
      }

  complete_up_to : (u v : List ℕ) → (X · (λ x. x ≡ a ∷ p)) u → reader (a ∷ p) (u ++ v) ≡ ok (length u)
  complete_up_to u v l =
      let x : List ℕ = l.left in
      let w : u ++ v ≡ x ++ ((a ∷ p) ++ v) = ap (λ (z : List ℕ). z ++ v) (l.split ∙ ap (λ (z : List ℕ). x ++ z) l.second) ∙ append_assoc x (a ∷ p) v in
      let (j, c) = complete_in x l.first in
      let len : length u ≡ length x + length (a ∷ p) = ap length l.split ∙ length-append x l.right ∙ ap (λ (z : List ℕ). length x + length z) l.second in
      rw (w, contains_at a p x v, free x v l.first, take-append_seam x ((a ∷ p) ++ v), c, len)

  pub up_to_reads : Reads (up_to s n check) (X · lit s) (Next any) any
  unfolding up_to
  up_to_reads = record {
    sound = λ w k tw e. subst (λ (q : List ℕ). Took (X · (λ x. x ≡ q)) k w) (sym is) (sound_up_to w k tw (rw is at e));
    complete = λ u v l t. rw is (complete_up_to u v (subst (λ (q : List ℕ). (X · (λ x. x ≡ q)) u) is l));
    leads = λ u v l t. tt;
  }

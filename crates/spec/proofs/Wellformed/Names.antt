-- Names, tokens and check_name, for every dialect with XML's ASCII name characters. Assumes nothing.
use mathlib.Core.Bool.{Bool, true, false, ◌||◌, not}
use mathlib.Core.Logic.{⊎_elim}
use mathlib.Core.Path.{◌≡◌, refl, ◌∙◌}
use Prim.Native.Nat.{ℕ, suc, ◌<◌}
use lib.Dec.{T, ltb, eqb}
use Rattle.spec.specs.Grammar.Languages.{Ch, Star}
use Rattle.spec.specs.Grammar.Names.{Dialect, start_sign, part_sign, AsciiNames, Name, Nmtoken}
use Rattle.spec.specs.Reading.Dtd.{nmtoken}
use Rattle.spec.specs.Reading.Readers.{begins, at_end}
use Rattle.spec.specs.Reading.Refusals.{bad_name}
use Rattle.spec.specs.Reading.Wellformed.{parts, name, check_name}
use Rattle.spec.proofs.Agreement.Algebra.{none_after}
use Rattle.spec.proofs.Agreement.Chars.{one_char, begins_ch, begins_stop, kind_encode, sign, ch_some}
use Rattle.spec.proofs.Agreement.Loops.{loop}
use Rattle.spec.proofs.Agreement.Reads.{Reads, Next, seq, as_lang}
use Rattle.spec.proofs.Agreement.Runs.{at_least_one}
use Rattle.spec.proofs.Agreement.Signs.{Class, Sub, sub_at, sub_any, sub_refl, ◌∪◌, in_left, in_right, by_signs}
use Rattle.spec.proofs.Agreement.Whole.{at_end_reads, Whole, whole, ends_seq, ends_at_end}
use Rattle.spec.proofs.Base.Tests.{decide, leb_true}

-- the signs that names begin with, go on with, and end before
abbrev pub start_first : Class
start_first k = start_sign k || eqb k 128

abbrev pub part_first : Class
part_first k = part_sign k || eqb k 128

abbrev pub ends_name : Class
ends_name k = not (part_first k)

module _ (D : Dialect) (A : AsciiNames D) where
  class_lead : (p : ℕ → Bool) (q : Class) → ((c : ℕ) → c < 128 → p c ≡ q c) → (c : ℕ) → T (p c) → T (q (sign c) || eqb (sign c) 128)
  class_lead p q law c t =
      ⊎_elim (λ e. rw e (in_left (q c) (eqb c 128) (rw (law c (leb_true (suc c) 128 e)) at t))) (λ e. rw e (in_right (q 128) (eqb 128 128) tt)) (decide (ltb c 128))

  parts_reads : (q : Class) → Sub q ends_name → Reads (parts D) (Star (Ch D.part)) (Next q) (part_first ∪ q)
  unfolding parts
  parts_reads q h =
      loop q (begins D.part) ch_some (λ u v c t. begins_ch D.part u v c)
      (λ v t. begins_stop D.part ends_name (λ z. z) stop v (sub_at q ends_name h v t)) sub_any
      (one_char D.part bad_name part_first (class_lead D.part part_sign A.part_ascii))
    where
      not_or : (a b : Bool) → T (not (a || b)) → a ≡ false
      not_or true b t = absurd t
      not_or false b t = refl

      stop : (b : ℕ) → b < 128 → T (ends_name b) → D.part b ≡ false
      stop b l t = A.part_ascii b l ∙ not_or (part_sign b) (eqb b 128) t

  -- Name and Nmtoken: what follows is no name character
  pub name_reads : Reads (name D) (Name D) (Next ends_name) start_first
  unfolding name Name
  name_reads =
      seq (one_char D.start bad_name start_first (class_lead D.start start_sign A.start_ascii)) sub_any (parts_reads ends_name sub_refl)

  pub nmtoken_reads : Reads (nmtoken D) (Nmtoken D) (Next ends_name) part_first
  unfolding nmtoken Nmtoken
  nmtoken_reads =
      at_least_one bad_name part_first ch_some
      (λ u v c. rw (c.bytes, kind_encode c.char v) (class_lead D.part part_sign A.part_ascii c.char c.in_class))
      (parts_reads ends_name sub_refl)

pub check_name_whole : (D : Dialect) → AsciiNames D → Whole (check_name D) (Name D)
unfolding check_name
check_name_whole D A = whole (as_lang none_after (seq (name_reads D A) (by_signs tt) (at_end_reads bad_name))) (ends_seq (name D) (at_end bad_name) (ends_at_end bad_name))

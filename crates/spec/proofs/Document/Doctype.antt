-- The DOCTYPE of a document, whole and at most so long. Assumes nothing.
use mathlib.Core.Bool.{Bool, true, false, ◌&&◌, ◌||◌}
use mathlib.Core.List.{List, ◌++◌}
use mathlib.Core.Path.{◌≡◌, ◌∙◌, ap}
use Prim.Native.Nat.{ℕ, suc, ◌≤◌, ◌<◌, ◌+◌}
use native.Mathlib.Omega.{arith}
use lib.Dec.{ltb, eqb}
use lib.ListN.{length, drop}
use Rattle.spec.specs.Basics.{pick, limit}
use Rattle.spec.specs.Grammar.Characters.{Text}
use Rattle.spec.specs.Grammar.Doctype.{doctypedecl}
use Rattle.spec.specs.Grammar.Languages.{Lang, lit, ascii, ◌·◌, ◌&◌, any}
use Rattle.spec.specs.Grammar.Names.{Dialect, AsciiNames}
use Rattle.spec.specs.Grammar.Prolog.{Doctype}
use Rattle.spec.specs.Reading.Document.{unless_closed, closing, at_most, read_doctype}
use Rattle.spec.specs.Reading.Readers.{Result, ok, err, Reader, some_left, contains}
use Rattle.spec.specs.Reading.Refusals.{Refusal, number, too_long, unterminated, unexpected}
use Rattle.spec.proofs.Agreement.Reads.{Took, Reads, Next, seq, as_lang, ◌≅◌}
use Rattle.spec.proofs.Agreement.Signs.{Class, sub_any}
use Rattle.spec.proofs.Agreement.Words.{first_of, wd}
use Rattle.spec.proofs.Base.Results.{err_ok, on_ok_ok, unless_refused, ok_inj}
use Rattle.spec.proofs.Base.Tests.{leb_no, leb_false}
use Rattle.spec.proofs.Characters.Text.{cat_size}
use Rattle.spec.proofs.Dtd.Markup.{doctype_closed}

-- at most so many bytes
most_reads : {r : Reader} {L F : Lang} {f : Class} (n : ℕ) (c : Refusal) → Reads r L F f → Reads (at_most n c r) (L & (λ t. length t ≤ n)) F f
unfolding at_most
most_reads {r} {L} {F} {f} n c a = record { sound = sound_by; complete = complete_by; leads = λ u v l t. a.leads u v l.0 t }
  where
    sound_by : (w : List ℕ) (k : ℕ) → Text w → at_most n c r w ≡ ok k → Took (L & (λ t. length t ≤ n)) k w
    sound_by w k tw e =
        let (j, g, h) = on_ok_ok (r w) (λ j. pick (ltb n j) (err c 0) (ok j)) k e in
        let (z, i) = unless_refused c 0 (ltb n j) (ok j) k h in
        let o : Took L j w = a.sound w j tw g in
        let m : length o.taken ≡ j = o.size in
        let b : j < suc n = leb_false (suc n) j z in
        record { taken = o.taken; rest = o.rest; split = o.split; size = o.size ∙ ok_inj j k i; holds = (o.holds, omega arith); left = o.left }

    complete_by : (u v : List ℕ) → (L & (λ t. length t ≤ n)) u → F v → at_most n c r (u ++ v) ≡ ok (length u)
    complete_by u v (l, h) t = rw (a.complete u v l t, leb_no (suc n) (length u) (omega arith))

-- whatever is refused, what is taken is the same
closed_ok : (w : List ℕ) (a : Result) (k : ℕ) → unless_closed w a ≡ ok k → a ≡ ok k
closed_ok w (ok j) k e = e
closed_ok w (err n j) k e = absurd (go (contains (ascii ">") (drop j w) || eqb (number n) (number unterminated) && some_left (drop j w)) e)
  where
    go : (t : Bool) → pick t (err n j) (err unterminated 0) ≡ ok k → ⊥
    go true f = err_ok n k f
    go false f = err_ok unterminated k f

closing_reads : {r : Reader} {L F : Lang} {f : Class} → Reads r L F f → Reads (closing r) L F f
unfolding closing
closing_reads {r} a = record {
  sound = λ w k tw e. a.sound w k tw (closed_ok w (r w) k e);
  complete = λ u v l t. ap (unless_closed (u ++ v)) (a.complete u v l t);
  leads = a.leads;
}

module _ (D : Dialect) (A : AsciiNames D) where
  -- the DOCTYPE with its limit, as it is read and as it is written
  short : ((lit "<!DOCTYPE" · doctypedecl D · lit ">") & (λ t. length t ≤ 10 + limit)) ≅ Doctype D
  short = record {
    to = λ w (c, h). record {
      left = c.left;
      right = c.right;
      split = c.split;
      first = c.first;
      second = record { left = c.second.left; right = c.second.right; split = c.second.split; first = (c.second.first, let m : length c.left ≡ 9 = ap length c.first in let n : length c.second.right ≡ 1 = ap length c.second.second in omega (arith, cat_size c, cat_size c.second)); second = c.second.second };
    };
    from = λ w c. (
      record { left = c.left; right = c.right; split = c.split; first = c.first; second = record { left = c.second.left; right = c.second.right; split = c.second.split; first = c.second.first.0; second = c.second.second } },
      let m : length c.left ≡ 9 = ap length c.first in let n : length c.second.right ≡ 1 = ap length c.second.second in let h = c.second.first.1 in omega (arith, cat_size c, cat_size c.second),
    );
  }

  pub doctype_reads : Reads (read_doctype D) (Doctype D) (Next any) (first_of "<")
  unfolding read_doctype
  doctype_reads = as_lang short (most_reads (10 + limit) too_long (seq (wd "<!DOCTYPE" unexpected tt) sub_any (closing_reads (doctype_closed D A))))

-- What is found of a document, in one coding, in the coding that it names, and by its front part. Assumes nothing.
use mathlib.Core.Path.{◌≡◌, refl, sym, ap, ◌∙◌}
use mathlib.Core.Bool.{Bool, false}
use mathlib.Core.List.{List}
use Prim.Native.Nat.{ℕ, ◌-◌, ◌≤◌}
use native.Mathlib.Omega.{arith}
use borrow.Author.Rules.{rules}
use lib.ListN.{length, take, drop, take-append-drop}
use lib.Seq.{length-take-le}
use Rattle.std.specs.Prelude as Std
use Rattle.std.specs.Prelude.{Option, Some, None, Ok, Err}
use Rattle.std.specs.Result.{is_ok}
use Rattle.spec.specs.Basics.{pick}
use Rattle.spec.specs.Grammar.Names.{Dialect}
use Rattle.spec.specs.Grammar.Encodings as Rule
use Rattle.spec.specs.Grammar.Encodings.{Encoding, unnamed, class_of, coding_in}
use Rattle.spec.specs.Reading.Document.{read_declaration, legal_length, legal_part}
use Rattle.spec.specs.Reading.Refusals.{Refusal, not_utf8}
use Rattle.spec.specs.Reading.Verdict.{Verdict, accepted, refused, ended, rootless, number_in, end_refusal, verdict_in, find_encoding, unless_refused, encoding_read, by_coding, verdict}
use Rattle.spec.proofs.Document.Legal.{legal_takes}
use Rattle.spec.proofs.Document.Right.{accepted_stays}
use Rattle.error.specs.Read as Read
use Rattle.error.specs.Read.{Answer, reason, said, read}
use Rattle.error.specs.declared.Fault.{Fault}
use Rattle.error.proofs.Laws.{was_ok, was_err}
use Rattle.source.specs.declared.Span.{Span}
use Rattle.classes.specs.Classes.{dialect}
use Rattle.classes.specs.declared.Names.{Names}
use Rattle.classes.proofs.ClassLaws.{dialect_ascii}
use Rattle.encodings.specs.Codings.{of}
use Rattle.encodings.specs.Names.{told, start_of}
use Rattle.encodings.specs.declared.codings.Coding.{Coding}
use Rattle.encodings.specs.declared.codings.Coding.TheVariants.{Utf8, Bytes, Foreign}
use Rattle.document.specs.Judgements as Judgements
use Rattle.document.specs.Judgements.{Judgement, accepts, refuses, ends, lacks_root, judged, in_full}
use Rattle.document.specs.Findings.{Found, reads, loses, found, finds}
use Rattle.document.specs.Prologs.{text_of}
use Rattle.document.specs.declared.finding.Lost.{Lost}
use Rattle.document.specs.declared.opening.Opening.{Opening}
use Rattle.document.specs.declared.verdict.Stopped.{Stopped}
use Rattle.document.specs.declared.verdict.Stopped.TheVariants as S
use Rattle.document.proofs.Judging.{verdict_judged}

-- a front part, as the code cuts it
front_part : (n : ℕ) (w : List ℕ) → take (n - 0) (drop 0 w) ≡ take n w
front_part n w = let z : n - 0 ≡ n = omega arith in ap (λ (m : ℕ). take m w) z

-- In one coding: e is where the part that is read ends, and j what it is judged.
module _ (D : Dialect) (c : Coding) (whole : Bool) (w : List ℕ) (e : ℕ) (a : e ≡ legal_length (class_of (of c)) w) (j : Std.Result Opening Stopped) (b : Judgements.told j ≡ judged D (take (e - 0) (drop 0 w))) where
  part_is : take (e - 0) (drop 0 w) ≡ legal_part (class_of (of c)) w
  part_is = front_part e w ∙ ap (λ (n : ℕ). take n w) a

  part_size : length (legal_part (class_of (of c)) w) ≡ e
  part_size = length-take-le (legal_length (class_of (of c)) w) w (legal_takes (class_of (of c)) w).within ∙ sym a

  full : found (verdict_in D (of c) whole w) ≡ found (in_full (end_refusal (of c) whole w) e (Judgements.told j))
  full = ap found (verdict_judged D (of c) whole w ∙ (λ i. in_full (end_refusal (of c) whole w) (part_size i) (judged D (sym part_is i))) ∙ ap (in_full (end_refusal (of c) whole w) e) (sym b))

  by_judgement : (k : Std.Result Opening Stopped) → j ≡ k → found (verdict_in D (of c) whole w) ≡ found (in_full (end_refusal (of c) whole w) e (Judgements.told k))
  by_judgement k f = full ∙ ap (λ (i : Std.Result Opening Stopped). found (in_full (end_refusal (of c) whole w) e (Judgements.told i))) f

  pub in_accepted : (o : Opening) → j ≡ Ok o → finds (Ok o) ≡ found (verdict_in D (of c) whole w)
  unfolding Judgements.told finds
  in_accepted o f = sym (by_judgement (Ok o) f)

  pub in_refused : (x : Fault) (l : Lost) → j ≡ Err (S.Refused x) → l ≡ record { fault = x; opened = x.place } → finds (Err l) ≡ found (verdict_in D (of c) whole w)
  unfolding Judgements.told finds
  in_refused x l f g = ap (λ (i : Lost). loses (reason i.fault.refusal) i.opened i.fault.place) g ∙ sym (by_judgement (Err (S.Refused x)) f)

  module _ (x : Fault) (n : Refusal) (d : n ≡ end_refusal (of c) whole w) (g : said (Err x) ≡ Read.refused n e) where
    at_end : (reason x.refusal ≡ end_refusal (of c) whole w) × (x.place ≡ e)
    unfolding said
    at_end = let y : reason x.refusal ≡ n = cc in (y ∙ d, cc)

    pub in_ended : (k : ℕ) → j ≡ Err (S.Ended k) → finds (Err (record { fault = x; opened = k })) ≡ found (verdict_in D (of c) whole w)
    unfolding Judgements.told finds
    in_ended k f = let (y, z) = at_end in (rw (y, z)) ∙ sym (by_judgement (Err (S.Ended k)) f)

    pub in_rootless : (l : Lost) → j ≡ Err S.Rootless → l ≡ record { fault = x; opened = x.place } → finds (Err l) ≡ found (verdict_in D (of c) whole w)
    unfolding Judgements.told finds
    in_rootless l f h = let (y, z) = at_end in ap (λ (i : Lost). loses (reason i.fault.refusal) i.opened i.fault.place) h ∙ (rw (y, z)) ∙ sym (by_judgement (Err S.Rootless) f)

-- of a declaration that is refused none is looked for: r is what its reader answered
by_answer : (x : List ℕ) (r : Answer) (e : Encoding) → said r ≡ read read_declaration x 0 → pick (is_ok r) e unnamed ≡ unless_refused (read_declaration x) e
by_answer x (Ok i) e a = let (k, (f, _)) = was_ok read_declaration x 0 i (Ok i) a refl in rw f
by_answer x (Err n) e a = let (m, (j, (f, _))) = was_err read_declaration x 0 n (Err n) a refl in rw f

-- In the coding that it names: r is what is read of the declaration, m the name that is read, and c what it stands for.
module _ (whole : Bool) (w : List ℕ) (e : ℕ) (a : e ≡ legal_length (class_of (of Utf8)) w) (r : Answer) (b : said r ≡ read read_declaration (take (e - 0) (drop 0 w)) 0) (t : Bool) (g : t ≡ is_ok r) (m : Option Span)
    (d : told (take (e - 0) (drop 0 w)) m ≡ pick t (find_encoding (take (e - 0) (drop 0 w))) unnamed)
    (c : Coding) (f : of c ≡ coding_in (told (take (e - 0) (drop 0 w)) m)) where
  read_is : told (take (e - 0) (drop 0 w)) m ≡ encoding_read w
  unfolding of encoding_read
  read_is =
      d ∙ ap (λ (z : Bool). pick z (find_encoding (take (e - 0) (drop 0 w))) unnamed) g ∙ by_answer (take (e - 0) (drop 0 w)) r (find_encoding (take (e - 0) (drop 0 w))) b
      ∙ ap (λ (x : List ℕ). unless_refused (read_declaration x) (find_encoding x)) (front_part e w ∙ ap (λ (n : ℕ). take n w) a)

  code_is : coding_in (encoding_read w) ≡ of c
  code_is = ap coding_in (sym read_is) ∙ sym f

  pub named_read : (D : Dialect) (q : Found) (k : Coding) → c ≡ k → (c ≡ Foreign → ⊥) → q ≡ found (verdict_in D (of k) whole w) → q ≡ found (verdict D whole w)
  unfolding verdict of
  named_read D q k i n h = h ∙ go k (λ z. n (i ∙ z)) ∙ sym (ap (λ (k : Rule.Coding). found (by_coding D whole w (encoding_read w) k)) (code_is ∙ ap of i))
    where
      go : (k : Coding) → (k ≡ Foreign → ⊥) → found (verdict_in D (of k) whole w) ≡ found (by_coding D whole w (encoding_read w) (of k))
      go Utf8 n = refl
      go Bytes n = refl
      go Foreign n = absurd (n refl)

  pub named_foreign : (D : Dialect) (x : Fault) (l : Lost) (k : ℕ) → c ≡ Foreign → k ≡ start_of m → said (Err x) ≡ Read.refused not_utf8 k → l ≡ record { fault = x; opened = x.place } → finds (Err l) ≡ found (verdict D whole w)
  unfolding verdict of finds said told
  named_foreign D x l k i j h n =
      let y : reason x.refusal ≡ not_utf8 = cc in
      let z : x.place ≡ start_of m = cc in
      ap (λ (i : Lost). loses (reason i.fault.refusal) i.opened i.fault.place) n ∙ (rw (y, z)) ∙ go m
      ∙ sym (ap (λ (y : Rule.Coding). found (by_coding D whole w (told (take (e - 0) (drop 0 w)) m) y)) (code_is ∙ ap of i))
      ∙ ap (λ (y : Encoding). found (by_coding D whole w y (coding_in (encoding_read w)))) read_is
    where
      go : (m : Option Span) → loses not_utf8 (start_of m) (start_of m) ≡ found (by_coding D whole w (told (take (e - 0) (drop 0 w)) m) Rule.foreign)
      go None = refl
      go (Some n) = refl

-- By its front part, of which f is what is found: what is accepted of it stands.
found_zero : (v : Verdict) (k : ℕ) (t : _) → reads k t ≡ found v → number_in v ≡ 0
found_zero (accepted k t) i s e = refl
found_zero (refused r k) i s e = let z : ◌≡◌ {A = ℕ} 0 1 = cc in absurd (omega arith)
found_zero (ended r k j) i s e = let z : ◌≡◌ {A = ℕ} 0 1 = cc in absurd (omega arith)
found_zero (rootless r k) i s e = let z : ◌≡◌ {A = ℕ} 0 1 = cc in absurd (omega arith)

pub front_stands : (names : Names) (whole : Bool) (w : List ℕ) (n : ℕ) (f : Std.Result Opening Lost) (o : Opening) → finds f ≡ found (verdict (dialect names) false (take (n - 0) (drop 0 w))) → f ≡ Ok o → finds (Ok o) ≡ found (verdict (dialect names) whole w)
unfolding finds
front_stands names whole w n f o a e =
    let b : reads o.end (text_of o.doctype) ≡ found (verdict (dialect names) false (take n w)) =
    sym (ap finds e) ∙ a ∙ ap (λ (x : List ℕ). found (verdict (dialect names) false x)) (front_part n w) in
    let z : number_in (verdict (dialect names) false (take n w)) ≡ 0 = found_zero (verdict (dialect names) false (take n w)) o.end (text_of o.doctype) b in
    b ∙ ap found (sym (accepted_stays (dialect names) (dialect_ascii names) false whole (take n w) (drop n w) z) ∙ ap (verdict (dialect names) whole) (take-append-drop n w))

-- where a part ends, the text goes on or ends
pub legal_within : (c : Coding) (w : List ℕ) (e : ℕ) → e ≡ legal_length (class_of (of c)) w → e ≤ length w
legal_within c w e a = let h = (legal_takes (class_of (of c)) w).within in omega (arith, a)

-- what the functions search
pub ruleset finding = (in_accepted, in_refused, in_ended, in_rootless, named_read, named_foreign, front_stands, legal_within, rules)

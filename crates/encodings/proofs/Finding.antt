-- The encoding that an XML declaration names. Assumes nothing.
use mathlib.Core.Path.{◌≡◌, refl, sym, ap, ◌∙◌}
use mathlib.Core.Logic.{◌⊎◌, inl, inr}
use mathlib.Core.Bool.{Bool, true, false}
use mathlib.Core.List.{List, [], ◌∷◌, ◌++◌}
use Prim.Native.Nat.{ℕ, suc, min, ◌+◌, ◌-◌, ◌*◌, ◌^◌, ◌<◌, ◌≤◌}
use native.Mathlib.Nat.{add-zero}
use native.Mathlib.Omega.{arith}
use borrow.Author.Rules.{rules}
use mir.Syntax.{w64}
use mir.Val.{Fits}
use borrow.Author.Tests.{ltb-true, ltb-false}
use denote.Ref.{Bor}
use lib.Dec.{leb, ltb}
use lib.ListN.{length, get_or, take, drop, length-drop, length-take}
use lib.Seq.{drop-drop, take_all, take-length, take-take, take-nil}
use Rattle.std.specs.Prelude.{Option, Some, None, Ok, Err}
use Rattle.std.specs.Prelude.{MatchOption}
use Rattle.std.specs.List.{slice_range}
use Rattle.std.specs.Option.{unwrap_or}
use Rattle.std.specs.Slice.{IsGetRangeResult}
use Rattle.std.specs.Result.{result_unwrap_or}
use Rattle.spec.specs.Basics.{pick}
use Rattle.spec.specs.Grammar.Characters.{space}
use Rattle.spec.specs.Grammar.Encodings.{Encoding, unnamed, named, coding_of, coding_in}
use Rattle.spec.specs.Grammar.Languages.{ascii}
use Rattle.spec.specs.Reading.Document.{is_declaration}
use Rattle.spec.specs.Reading.Dtd.{skip_s, require_s}
use Rattle.spec.specs.Reading.Readers.{Result, ok, err, Reader, taken, stop_of, starts, run, contains, before}
use Rattle.spec.specs.Reading.Refusals.{no_space, unexpected}
use Rattle.spec.specs.Reading.Verdict.{read_version, read_encoding, value_at, encoding_at, encoding_in, find_encoding}
use Rattle.spec.proofs.Agreement.Words.{starts_split}
use Rattle.spec.proofs.Base.Places.{drop_at, drop_end, drop_take, run_within}
use Rattle.spec.proofs.Base.Tests.{not-true, not-false, leb_true, leb_false, or_false_left, or_false_right}
use Rattle.spec.proofs.Inside.Ways.{Inside, before_most, ◌then◌, in_word, in_required}
use Rattle.error.specs.Read.{Answer, said, read}
use Rattle.error.proofs.Laws.{was_ok, was_err}
use Rattle.search.specs.FirstPlace.{first_place}
use Rattle.search.specs.Places.{found}
use Rattle.search.proofs.Finding.{was_nowhere, was_here, here_within}
use Rattle.encodings.specs.Codings.{of}
use Rattle.encodings.specs.Names.{told, declared_text, Declared, Names}
use Rattle.encodings.specs.declared.codings.Coding.{Coding}
use Rattle.encodings.specs.declared.codings.Coding.TheVariants.{Utf8, Foreign}
use Rattle.source.specs.declared.Span.{Span}

-- how far a reader came from a place on: r is its answer
module _ (R : Reader) (s : List ℕ) (from : ℕ) (r : Answer) (a : said r ≡ read R s from) where
  took : result_unwrap_or r from ≡ from + taken (R (drop from s))
  took = go r refl
    where
      go : (x : Answer) → r ≡ x → result_unwrap_or x from ≡ from + taken (R (drop from s))
      go (Ok i) e = let (k, (f, g)) = was_ok R s from i r a e in rw f g
      go (Err x) e = let (m, (j, (f, g))) = was_err R s from x r a e in rw (f, add-zero)

-- up to the version, and up to the encoding's quote mark
pub version_at : (s : List ℕ) (r : Answer) → said r ≡ read read_version s 2 → result_unwrap_or r 2 ≡ 2 + taken (read_version (drop 2 s))
version_at s r a = took read_version s 2 r a

pub mark_at : (s : List ℕ) (from : ℕ) (r : Answer) → said r ≡ read read_encoding s from → result_unwrap_or r from ≡ from + taken (read_encoding (drop from s))
mark_at s from r a = took read_encoding s from r a

-- a word that stands nowhere
before_none : (p w : List ℕ) → contains p w ≡ false → before p w ≡ length w
unfolding before contains
before_none p [] e = refl
before_none p (b ∷ w) e = rw (or_false_left (starts p (b ∷ w)) (contains p w) e, before_none p w (or_false_right (starts p (b ∷ w)) (contains p w) e))

-- where the declaration's text ends
pub declared_to : (x : List ℕ) (r : Option ℕ) → found r ≡ first_place (ascii "?>") x 2 → Declared x (unwrap_or r (length x))
declared_to x r a = go r refl
  where
    go : (o : Option ℕ) → r ≡ o → Declared x (unwrap_or o (length x))
    go (Some j) e =
        let (c, f) = was_here (ascii "?>") x 2 r a j e in
        let z : j - 2 ≡ before (ascii "?>") (drop 2 x) = omega arith in
        record { within = here_within (ascii "?>") x 2 r a j e; text = drop_take 2 j x ∙ (rw z) }
    go None e = record {
      within = omega arith;
      text = ap (drop 2) (take-length x) ∙ sym ((rw (before_none (ascii "?>") (drop 2 x) (was_nowhere (ascii "?>") x 2 r a e))) ∙ take-length (drop 2 x));
    }

-- read_encoding lies within the text
spaces : Inside skip_s
unfolding skip_s
spaces = record { inside = λ w. run_within space w }

in_encoding : Inside read_encoding
unfolding read_encoding require_s
in_encoding = in_required no_space spaces then in_word "encoding" unexpected then spaces then in_word "=" unexpected then spaces

taken_most : (x : Result) → taken x ≤ stop_of x
taken_most (ok k) = omega arith
taken_most (err r k) = omega arith

-- EncodingDecl? from a place on: i is where its name is looked for, and b whether it stands there
module _ (t : List ℕ) (from i : ℕ) (b : Bool) (h : i ≡ from + run space (drop from t)) (e : b ≡ starts (ascii "encoding") (drop i t)) where
  ahead : b ≡ starts (ascii "encoding") (drop (run space (drop from t)) (drop from t))
  ahead = e ∙ ap (λ (k : ℕ). starts (ascii "encoding") (drop k t)) h ∙ ap (starts (ascii "encoding")) (sym (drop-drop (run space (drop from t)) from t))

  pub after_none : b ≡ false → Names t (encoding_at from (drop from t)) None
  unfolding told
  after_none f = record { says = sym (rw (sym ahead ∙ f)); lies = omega arith }

  -- its quote mark is looked for at `mark`
  module _ (y : b ≡ true) (mark : ℕ) (g : mark ≡ from + taken (read_encoding (drop from t))) where
    mark_in : mark ≤ length t
    mark_in =
        let (v, s) = starts_split (ascii "encoding") (drop i t) (sym e ∙ y) in
        let l : length (drop i t) ≡ suc (length (ascii "ncoding" ++ v)) = ap length s in
        let m : stop_of (read_encoding (drop from t)) ≤ length (drop from t) = in_encoding.inside (drop from t) in
        let n = taken_most (read_encoding (drop from t)) in
        let o : length (drop i t) ≡ length t - i = length-drop i t in
        let q : length (drop from t) ≡ length t - from = length-drop from t in
        omega arith

    pub mark_fits : length t * 1 < 2 ^ 63 → Fits w64 (mark + 1)
    mark_fits l = let m = mark_in in omega arith

    valued : encoding_at from (drop from t) ≡ value_at mark (drop mark t)
    valued = rw (sym ahead ∙ y, drop-drop (taken (read_encoding (drop from t))) from t, ← g)

    pub after_past : length t ≤ mark → Names t (encoding_at from (drop from t)) (Some (record { start = mark + 1; end = mark + 1 }))
    unfolding told before
    after_past k =
        let z : mark + 1 - (mark + 1) ≡ 0 = omega arith in
        record { says = sym (valued ∙ (rw (drop_end t mark k, z))); lies = omega arith }

    pub after_mark : (r : Option ℕ) (to : ℕ) → mark < length t → found r ≡ first_place (get_or t mark 0 ∷ []) t (mark + 1) → to ≡ unwrap_or r (length t)
        → Names t (encoding_at from (drop from t)) (Some (record { start = mark + 1; end = to }))
    unfolding told
    after_mark r to k f g = rw g (go r refl)
      where
        value : encoding_at from (drop from t) ≡ named (mark + 1) (take (before (get_or t mark 0 ∷ []) (drop (mark + 1) t)) (drop (mark + 1) t))
        value = valued ∙ (rw (drop_at t mark k))

        go : (o : Option ℕ) → r ≡ o → Names t (encoding_at from (drop from t)) (Some (record { start = mark + 1; end = unwrap_or o (length t) }))
        go (Some j) w =
            let (c, d) = was_here (get_or t mark 0 ∷ []) t (mark + 1) r f j w in
            let z : j - (mark + 1) ≡ before (get_or t mark 0 ∷ []) (drop (mark + 1) t) = omega arith in
            let m = before_most (get_or t mark 0 ∷ []) (drop (mark + 1) t) in
            let l : length (drop (mark + 1) t) ≡ length t - (mark + 1) = length-drop (mark + 1) t in
            record { says = sym (value ∙ (rw z)); lies = omega arith }
        go None w =
            let z = before_none (get_or t mark 0 ∷ []) (drop (mark + 1) t) (was_nowhere (get_or t mark 0 ∷ []) t (mark + 1) r f w) in
            record { says = sym (value ∙ (rw (z, length-drop))); lies = omega arith }

-- what is said of a front part is said of the whole
told_whole : (n : ℕ) (x : List ℕ) (e : Encoding) (r : Option Span) → Names (take n x) e r → told x r ≡ e
unfolding told
told_whole n x e None h = h.says
told_whole n x e (Some v) h = ap (named v.start) (sym same) ∙ h.says
  where
    same : take (v.end - v.start) (drop v.start (take n x)) ≡ take (v.end - v.start) (drop v.start x)
    same =
        let l : length (take n x) ≡ min n (length x) = length-take n x in
        let m : v.end - v.start ≤ length (take n x) - v.start = h.lies in
        let k : v.end - v.start ≤ n - v.start = omega arith in
        ap (take (v.end - v.start)) (drop_take v.start n x) ∙ take-take (v.end - v.start) (n - v.start) (drop v.start x) k

-- the whole: d is whether a declaration begins
module _ (x : List ℕ) (d : Bool) (a : d ≡ is_declaration (drop 0 x)) where
  pub find_none : d ≡ false → told x None ≡ find_encoding x
  unfolding told find_encoding
  find_none f = rw (sym a ∙ f)

  pub find_some : (to from : ℕ) (r : Option Span) → d ≡ true → Declared x to → from ≡ 2 + taken (read_version (drop 2 (take (to - 0) (drop 0 x))))
      → Names (take (to - 0) (drop 0 x)) (encoding_at from (drop from (take (to - 0) (drop 0 x)))) r → told x r ≡ find_encoding x
  unfolding find_encoding encoding_in
  find_some to from r f c g h =
      let z : to - 0 ≡ to = omega arith in
      let u : List ℕ = declared_text x in
      let e : drop 2 (take (to - 0) x) ≡ u = ap (λ (n : ℕ). drop 2 (take n x)) z ∙ c.text in
      let i : from ≡ 2 + taken (read_version u) = g ∙ ap (λ (v : List ℕ). 2 + taken (read_version v)) e in
      let j : drop from (take (to - 0) x) ≡ drop (taken (read_version u)) u =
      ap (λ (n : ℕ). drop n (take (to - 0) x)) i ∙ sym (drop-drop (taken (read_version u)) 2 (take (to - 0) x)) ∙ ap (drop (taken (read_version u))) e in
      told_whole (to - 0) x _ r h ∙ (rw (sym a ∙ f) (λ k. encoding_at (i k) (j k)))

-- of a document whose declaration is accepted or not
module _ (x : List ℕ) (y : Bool) where
  pub read_accepted : (r : Option Span) → y ≡ true → told x r ≡ find_encoding x → told x r ≡ pick y (find_encoding x) unnamed
  read_accepted r e a = a ∙ sym (ap (λ (z : Bool). pick z (find_encoding x) unnamed) e)

  pub read_refused : y ≡ false → told x None ≡ pick y (find_encoding x) unnamed
  unfolding told
  read_refused e = sym (ap (λ (z : Bool). pick z (find_encoding x) unnamed) e)

-- what the name stands for
pub coding_none : (x : List ℕ) (name : Option Span) → name ≡ None → of Utf8 ≡ coding_in (told x name)
unfolding of told
coding_none x name e = rw e

-- to is where the name is cut, its end or the text's
module _ (x : List ℕ) (start end to : ℕ) (h : to ≡ min end (length x)) where
  past : to < start → take (end - start) (drop start x) ≡ []
  past k = go (ltb start (length x)) refl
    where
      go : (t : Bool) → ltb start (length x) ≡ t → take (end - start) (drop start x) ≡ []
      go true e = let l = ltb-true start (length x) e in let z : end - start ≡ 0 = omega arith in rw z
      go false e = rw (drop_end x start (ltb-false start (length x) e)) (take-nil (end - start))

  part : take (to - start) (drop start x) ≡ take (end - start) (drop start x)
  part = go (leb end (length x)) refl
    where
      go : (t : Bool) → leb end (length x) ≡ t → take (to - start) (drop start x) ≡ take (end - start) (drop start x)
      go true e = let l = leb_true end (length x) e in let z : to ≡ end = omega arith in rw z
      go false e =
          let l = leb_false end (length x) e in
          let z : length (drop start x) ≡ length x - start = length-drop start x in
          take_all (to - start) (drop start x) (omega arith) ∙ sym (take_all (end - start) (drop start x) (omega arith))

-- r is the part that `get` gives, and P what its coding is said to be
pub coding_by : (x : List ℕ) (name : Option Span) (n : Span) (to : ℕ) (r : Option (Bor (List ℕ))) (P : Bor (List ℕ) → Type 0) (c : Coding)
    → name ≡ Some n → to ≡ min n.end (length x) → IsGetRangeResult x n.start to r → MatchOption r (c ≡ Foreign) P → ((p : Bor (List ℕ)) → P p → of c ≡ coding_of p.now)
    → of c ≡ coding_in (told x name)
unfolding told of coding_of
coding_by x name n to r P c e h g m f = go r (g.0) m ∙ sym (rw e)
  where
    go : (o : Option (Bor (List ℕ))) → MatchOption o ((to < n.start) ⊎ (length x < to)) (λ p. (n.start ≤ to) × (to ≤ length x) × (p.now ≡ slice_range x n.start to) × (length p.now + n.start ≡ to))
        → MatchOption o (c ≡ Foreign) P → of c ≡ coding_of (take (n.end - n.start) (drop n.start x))
    go None (inl l) q = rw (q, past x n.start n.end to h l)
    go None (inr l) q = absurd (let z = h in omega arith)
    go (Some p) l q = f p q ∙ ap coding_of (l.2 ∙ part x n.start n.end to h)

-- what the functions search
pub ruleset reaching = (version_at, mark_at, declared_to, rules)

pub ruleset valuing = (after_none, mark_fits, after_past, after_mark, not-true, not-false, rules)

pub ruleset finding = (find_none, find_some, read_accepted, read_refused, not-true, not-false, rules)

pub ruleset standing = (coding_none, rules)

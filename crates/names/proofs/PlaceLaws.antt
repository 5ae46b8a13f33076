-- Names at a place in a text: the code's loop over name characters, for any classes. Assumes nothing.
use mathlib.Core.Path.{◌≡◌, refl, sym, ap, subst, ◌∙◌}
use mathlib.Core.Bool.{Bool, true, false, ◌&&◌}
use mathlib.Core.List.{List, [], ◌∷◌}
use Prim.Native.Nat.{ℕ, suc, ◌+◌, ◌-◌, ◌^◌, ◌<◌, ◌≤◌}
use native.Mathlib.Nat.{add-zero, zero-add}
use native.Mathlib.Omega.{arith}
use borrow.Author.Rules.{rules}
use mir.Syntax.{w64}
use mir.Val.{Fits}
use lib.ListN.{length, take, drop, get_or, length-drop}
use lib.Seq.{drop-drop, take-nil, length-take-le}
use Rattle.spec.specs.Basics.{pick}
use Rattle.spec.specs.Grammar.Names.{Dialect, Name}
use Rattle.spec.specs.Reading.Refusals.{bad_name}
use Rattle.spec.specs.Reading.Utf8.{decode1}
use Rattle.spec.specs.Reading.Readers.{Result, ok, err, number_of, taken, past, run, ◌>>◌, at_end, char}
use Rattle.spec.specs.Reading.Wellformed.{parts, name, name_length, check_name}
use Rattle.spec.proofs.Base.Tests.{and_left, and_right}
use Rattle.spec.proofs.Base.Places.{drop_at, drop_end, take_rest}
use Rattle.spec.proofs.Characters.Utf8.{decode_1}
use Rattle.std.specs.List.{fold}
use Rattle.spec.proofs.Wellformed.LongestName.{char_is, char_not, char_none, chars_stop, chars_turn, parts_ok, parts_takes, name_first, name_none, Named, a_name, no_name, named, name_within, name_is_name, name_longest}
use Rattle.std.specs.Prelude.{Option, Some, None, Ok, Err}
use Rattle.error.specs.Read.{passed, refused, said, read}
use Rattle.error.specs.declared.Fault.{Fault}
use Rattle.error.proofs.Laws.{answered}
use Rattle.utf8.specs.Seen.{seen}
use Rattle.utf8.specs.declared.Point.{Point}
use Rattle.utf8.proofs.Points.{code_at, none_at, point_end, point_fits, point_less}
use Rattle.utf8.proofs.Decoding.{code_one}
use Rattle.classes.specs.Classes.{dialect, ascii_start, ascii_part}
use Rattle.names.specs.Names.{AsciiRun, AnyName}
use Rattle.names.specs.NamePart.{NamePart}
use Rattle.classes.specs.declared.Names.{Names}
use Rattle.classes.proofs.ClassLaws.{start_low, part_low, start_part, sign_low}

-- whether a character of the class q stands at i, by what the code tests
module _ (q : ℕ → Bool) (s : List ℕ) (i : ℕ) where
  pub none_past : length s ≤ i → char q bad_name (drop i s) ≡ err bad_name 0
  unfolding char decode1
  none_past h = rw (drop_end s i h)

  module _ (o : Option Point) (a : seen o ≡ decode1 (drop i s)) where
    pub none_point : o ≡ None → char q bad_name (drop i s) ≡ err bad_name 0
    none_point b = char_none q bad_name (drop i s) (none_at s i o a b)

    module _ (p : Point) (b : o ≡ Some p) (r : Bool) (e : r ≡ q p.code) where
      pub none_class : r ≡ false → char q bad_name (drop i s) ≡ err bad_name 0
      none_class n = char_not q bad_name (drop i s) p.code p.width (code_at s i o p a b) (sym e ∙ n)

      pub one_class : r ≡ true → char q bad_name (drop i s) ≡ ok p.width
      one_class y = char_is q bad_name (drop i s) p.code p.width (code_at s i o p a b) (sym e ∙ y)

-- the same of a byte below 128 that stands first
module _ (q : ℕ → Bool) (b : ℕ) (w : List ℕ) (r : Bool) (e : r ≡ q b) (l : b < 128) where
  none_sign : r ≡ false → char q bad_name (b ∷ w) ≡ err bad_name 0
  none_sign n = char_not q bad_name (b ∷ w) b 1 (decode_1 b w l) (sym e ∙ n)

  one_sign : r ≡ true → char q bad_name (b ∷ w) ≡ ok 1
  one_sign y = char_is q bad_name (b ∷ w) b 1 (decode_1 b w l) (sym e ∙ y)

-- a run of name characters, by its first
module _ (D : Dialect) (w : List ℕ) where
  parts_none : char D.part bad_name w ≡ err bad_name 0 → taken (parts D w) ≡ 0
  unfolding parts
  parts_none e = ap taken (chars_stop D.part bad_name w e)

  parts_more : (k : ℕ) → char D.part bad_name w ≡ ok k → taken (parts D w) ≡ k + taken (parts D (drop k w))
  parts_more k e =
      let t : parts D w ≡ past k (parts D (drop k w)) = unfold parts in chars_turn D.part bad_name w k e in
      ap taken (t ∙ ap (past k) (parts_ok D (drop k w)))

-- The loop that decodes. The invariant: the name characters from i on end where all do.
module _ (names : Names) (s : List ℕ) (i : ℕ) (inv : i + taken (parts (dialect names) (drop i s)) ≡ taken (parts (dialect names) s)) (o : Option Point) (a : seen o ≡ decode1 (drop i s)) where
  stops : char (dialect names).part bad_name (drop i s) ≡ err bad_name 0 → i ≡ taken (parts (dialect names) s)
  stops e = rw (parts_none (dialect names) (drop i s) e, add-zero) at inv

  pub run_none : o ≡ None → i ≡ taken (parts (dialect names) s)
  run_none b = stops (none_point (dialect names).part s i o a b)

  module _ (p : Point) (b : o ≡ Some p) (t : Bool) (e : t ≡ (dialect names).part p.code) where
    pub run_stop : t ≡ false → i ≡ taken (parts (dialect names) s)
    run_stop n = stops (none_class (dialect names).part s i o a p b t e n)

    pub run_go : t ≡ true → i + p.width + taken (parts (dialect names) (drop (i + p.width) s)) ≡ taken (parts (dialect names) s)
    run_go y =
        let n : taken (parts (dialect names) (drop i s)) ≡ p.width + taken (parts (dialect names) (drop (i + p.width) s)) = parts_more (dialect names) (drop i s) p.width (one_class (dialect names).part s i o a p b t e y) ∙ (rw drop-drop) in
        omega arith

-- the same at a sign below 128
module _ (names : Names) (s : List ℕ) (i : ℕ) (inv : i + taken (parts (dialect names) (drop i s)) ≡ taken (parts (dialect names) s)) (h : i < length s) (l : get_or s i 0 < 128) (t : Bool) (e : t ≡ ascii_part (get_or s i 0)) where
  pub sign_stop : t ≡ false → i ≡ taken (parts (dialect names) s)
  sign_stop = run_stop names s i inv _ (code_one s i h l) _ refl t (part_low names (get_or s i 0) t l e)

  pub sign_go : t ≡ true → i + 1 + taken (parts (dialect names) (drop (i + 1) s)) ≡ taken (parts (dialect names) s)
  sign_go = run_go names s i inv _ (code_one s i h l) _ refl t (part_low names (get_or s i 0) t l e)

pub past_stop : (names : Names) (s : List ℕ) (i : ℕ) → i + taken (parts (dialect names) (drop i s)) ≡ taken (parts (dialect names) s) → length s ≤ i → i ≡ taken (parts (dialect names) s)
past_stop names s i inv h = rw (parts_none (dialect names) (drop i s) (none_past (dialect names).part s i h), add-zero) at inv

-- the name characters below 128, whatever the edition
ascii_run : (w : List ℕ) → AsciiRun w (run ascii_part w)
unfolding run
ascii_run [] = record { among = λ names. zero-add _; ends = λ names l. sym (parts_none (dialect names) [] (none_past (dialect names).part [] 0 (omega arith))) }
ascii_run (b ∷ w) = go (ascii_part b) refl (ascii_run w)
  where
    go : (t : Bool) → ascii_part b ≡ t → AsciiRun w (run ascii_part w) → AsciiRun (b ∷ w) (pick t (suc (run ascii_part w)) 0)
    go false e rest = record { among = λ names. zero-add _; ends = λ names l. sym (parts_none (dialect names) (b ∷ w) (none_sign (dialect names).part b w false (part_low names b false l (sym e)) l refl)) }
    go true e rest =
        let l : b < 128 = sign_low b e in
        let first : (names : Names) → taken (parts (dialect names) (b ∷ w)) ≡ 1 + taken (parts (dialect names) w) = λ names. parts_more (dialect names) (b ∷ w) 1 (one_sign (dialect names).part b w true (part_low names b true l (sym e)) l refl) in
        record {
          among = λ names. omega (arith, first names, rest.among names);
          ends = λ names h. omega (arith, first names, rest.ends names h);
        }

pub ascii_found : (w : List ℕ) (r : ℕ) → r ≡ 0 + run ascii_part (drop 0 w) → AsciiRun w r
ascii_found w r e = subst (AsciiRun w) (sym (e ∙ zero-add (run ascii_part w))) (ascii_run w)

-- and what they leave: nothing, an ASCII sign, or a byte to decode
module _ (names : Names) (s : List ℕ) (n : ℕ) (a : AsciiRun s n) where
  pub run_ends : get_or s n 0 < 128 → n ≡ taken (parts (dialect names) s)
  run_ends l = a.ends names l

  pub run_past : length s ≤ n → n ≡ taken (parts (dialect names) s)
  run_past h = rw (parts_none (dialect names) (drop n s) (none_past (dialect names).part s n h), add-zero) at (a.among names)

  module _ (e : ℕ) (f : e ≡ taken (parts (dialect names) (take (length s - n) (drop n s)))) where
    pub run_on : n + e ≡ taken (parts (dialect names) s)
    run_on = ap (λ (x : ℕ). n + x) (f ∙ (rw (take_rest s n))) ∙ a.among names

    pub run_fits : length s < 2 ^ 64 → Fits w64 (n + e)
    run_fits h = omega (arith, run_on, (parts_takes (dialect names) s).within)

-- the name that stands first, by its first character
module _ (names : Names) (s : List ℕ) where
  no_start : char (dialect names).start bad_name s ≡ err bad_name 0 → 0 ≡ name_length (dialect names) s
  unfolding name_length
  no_start e = rw (name_none (dialect names) s e)

  pub no_name_past : length s ≡ 0 → 0 ≡ name_length (dialect names) s
  no_name_past h = no_start (none_past (dialect names).start s 0 (omega arith))

  module _ (k e : ℕ) (g : e ≡ taken (parts (dialect names) (take (length s - k) (drop k s)))) where
    a_start : char (dialect names).start bad_name s ≡ ok k → k + e ≡ name_length (dialect names) s
    unfolding name_length
    a_start f =
        let z : e ≡ taken (parts (dialect names) (drop k s)) = g ∙ (rw (take_rest s k)) in
        ap (λ (x : ℕ). k + x) z ∙ (rw (name_first (dialect names) s k f, parts_ok (dialect names) (drop k s)))

    start_fits : k + e ≡ name_length (dialect names) s → length s < 2 ^ 64 → Fits w64 (k + e)
    start_fits f h = omega (arith, name_within (dialect names) s)

  -- a sign below 128
  module _ (h : length s ≡ 0 → ⊥) (l : get_or s 0 0 < 128) (t : Bool) (e : t ≡ ascii_start (get_or s 0 0)) where
    low : seen (Some (record { code = get_or s 0 0; width = 1 })) ≡ decode1 (drop 0 s)
    low = code_one s 0 (omega arith) l

    pub no_name_sign : t ≡ false → 0 ≡ name_length (dialect names) s
    no_name_sign n = no_start (none_class (dialect names).start s 0 _ low _ refl t (start_low names (get_or s 0 0) t l e) n)

    module _ (y : t ≡ true) (k : ℕ) (g : k ≡ taken (parts (dialect names) (take (length s - 1) (drop 1 s)))) where
      pub name_sign : 1 + k ≡ name_length (dialect names) s
      name_sign = a_start 1 k g (one_class (dialect names).start s 0 _ low _ refl t (start_low names (get_or s 0 0) t l e) y)

      pub name_sign_fits : length s < 2 ^ 64 → Fits w64 (1 + k)
      name_sign_fits = start_fits 1 k g name_sign

  -- a character that is decoded
  module _ (o : Option Point) (a : seen o ≡ decode1 (drop 0 s)) where
    pub no_name_point : o ≡ None → 0 ≡ name_length (dialect names) s
    no_name_point b = no_start (none_point (dialect names).start s 0 o a b)

    module _ (p : Point) (b : o ≡ Some p) (t : Bool) (e : t ≡ (dialect names).start p.code) where
      pub no_name_class : t ≡ false → 0 ≡ name_length (dialect names) s
      no_name_class n = no_start (none_class (dialect names).start s 0 o a p b t e n)

      module _ (y : t ≡ true) (k : ℕ) (g : k ≡ taken (parts (dialect names) (take (length s - p.width) (drop p.width s)))) where
        pub name_class : p.width + k ≡ name_length (dialect names) s
        name_class = a_start p.width k g (one_class (dialect names).start s 0 o a p b t e y)

        pub name_class_fits : length s < 2 ^ 64 → Fits w64 (p.width + k)
        name_class_fits = start_fits p.width k g name_class

pub width_in : (s : List ℕ) (o : Option Point) (p : Point) → seen o ≡ decode1 (drop 0 s) → o ≡ Some p → p.width ≤ length s
width_in s o p a b = omega (arith, point_end s 0 o p a b)

-- in the rest of a text
module _ (D : Dialect) (s : List ℕ) (at : ℕ) where
  pub rest_no_parts : length s < at → at ≡ at + taken (parts D (drop at s))
  rest_no_parts h = rw (parts_none D (drop at s) (none_past D.part s at (omega arith)), add-zero)

  pub rest_no_name : length s < at → at ≡ at + name_length D (drop at s)
  unfolding name_length
  rest_no_name h = rw (name_none D (drop at s) (none_past D.start s at (omega arith)), add-zero)

  module _ (e : ℕ) where
    pub rest_parts : e ≡ taken (parts D (take (length s - at) (drop at s))) → at + e ≡ at + taken (parts D (drop at s))
    rest_parts f = rw (f, take_rest s at)

    pub rest_parts_fits : at ≤ length s → e ≡ taken (parts D (take (length s - at) (drop at s))) → length s < 2 ^ 64 → Fits w64 (at + e)
    rest_parts_fits h f g = let z = rw (take_rest s at) at f in omega (arith, (parts_takes D (drop at s)).within, length-drop at s)

    pub rest_name : e ≡ name_length D (take (length s - at) (drop at s)) → at + e ≡ at + name_length D (drop at s)
    rest_name f = rw (f, take_rest s at)

    pub rest_name_fits : at ≤ length s → e ≡ name_length D (take (length s - at) (drop at s)) → length s < 2 ^ 64 → Fits w64 (at + e)
    rest_name_fits h f g = let z = rw (take_rest s at) at f in omega (arith, name_within D (drop at s), length-drop at s)

-- the part that a name is
module _ (D : Dialect) (s : List ℕ) (at : ℕ) where
  pub part_length : (p : List ℕ) → p ≡ take (name_length D (drop at s)) (drop at s) → length p ≡ name_length D (drop at s)
  part_length p e = ap length e ∙ length-take-le (name_length D (drop at s)) (drop at s) (name_within D (drop at s))

  part_is : (p : List ℕ) → p ≡ take (name_length D (drop at s)) (drop at s) → NamePart D (drop at s) p
  part_is p e =
      let n = part_length p e in
      record {
        part = e;
        name = λ h. subst (Name D) (sym e) (name_is_name D (drop at s) (λ z. h (n ∙ z)));
        longest = λ u v f g. rw n (name_longest D (drop at s) u v f g);
      }

  pub part_past : length s < at → NamePart D (drop at s) []
  part_past h = let g : length s ≤ at = omega arith in part_is [] (rw (drop_end s at g, take-nil))

  -- the rest of the text, of which the first e bytes are the name
  pub part_at : (w : List ℕ) (e : ℕ) → w ≡ take (length s - at) (drop at s) → e ≡ name_length D w → NamePart D (drop at s) (take e w)
  part_at w e f g = part_is (take e w) (rw (g, f, take_rest s at))

-- what is read where only a name may stand, by where the name at the place ends
module _ (D : Dialect) (s : List ℕ) (at e : ℕ) (f : e ≡ at + name_length D (drop at s)) where
  ends_at : (x : Result) → name D (drop at s) ≡ x → e ≡ at + taken x
  unfolding name_length
  ends_at x g = f ∙ (rw g)

  pub whole_none : (x : Fault) → e ≡ at → said (Err x) ≡ refused bad_name e → said (Err x) ≡ read (check_name D) s at
  unfolding read check_name ◌>>◌
  whole_none x z r = r ∙ ap (refused bad_name) z ∙ go (named D (drop at s))
    where
      go : Named D (drop at s) → refused bad_name at ≡ read (check_name D) s at
      go (a_name k p g t) = absurd (omega (arith, ends_at (ok k) g))
      go (no_name g n) = rw (g, add-zero)

  module _ (some : e ≡ at → ⊥) where
    a_name_to : (k : ℕ) × ((name D (drop at s) ≡ ok k) × (e ≡ at + k))
    a_name_to = go (named D (drop at s))
      where
        go : Named D (drop at s) → (k : ℕ) × ((name D (drop at s) ≡ ok k) × (e ≡ at + k))
        go (a_name k p g t) = (k, (g, ends_at (ok k) g))
        go (no_name g n) = absurd (some (ends_at (err bad_name 0) g ∙ add-zero at))

    pub whole_more : (x : Fault) → e < length s → said (Err x) ≡ refused bad_name e → said (Err x) ≡ read (check_name D) s at
    unfolding read check_name ◌>>◌ at_end
    whole_more x h r =
        let (k, (g, l)) = a_name_to in
        let z : at + k < length s = omega arith in
        r ∙ ap (refused bad_name) l ∙ (rw (g, drop-drop, drop_at s (at + k) z, add-zero))

    pub whole_all : length s ≤ e → said (Ok e) ≡ read (check_name D) s at
    unfolding read said check_name ◌>>◌ at_end
    whole_all h =
        let (k, (g, l)) = a_name_to in
        let z : length s ≤ at + k = omega arith in
        ap passed l ∙ (rw (g, drop-drop, drop_end s (at + k) z, add-zero))

-- a name of ASCII alone, whatever the edition: it begins with b, and goes on to its end
abbrev pub all_parts : Bool → ℕ → Bool
all_parts a b = a && ascii_part b

runs_out : (w : List ℕ) (a : Bool) → fold all_parts a w ≡ true → (a ≡ true) × ((names : Names) → length w ≡ taken (parts (dialect names) w))
runs_out [] a e = (e, λ names. sym (parts_none (dialect names) [] (none_past (dialect names).part [] 0 (omega arith))))
runs_out (b ∷ w) a e =
    let (f, rest) = runs_out w (a && ascii_part b) e in
    let y : ascii_part b ≡ true = and_right a (ascii_part b) f in
    let l : b < 128 = sign_low b y in
    (and_left a (ascii_part b) f, λ names. omega (arith, rest names, parts_more (dialect names) (b ∷ w) 1 (one_sign (dialect names).part b w true (part_low names b true l (sym y)) l refl)))

pub any_name : (b : ℕ) (w : List ℕ) (t : Bool) → t ≡ ascii_start b → t ≡ true → fold all_parts true w ≡ true → AnyName (b ∷ w)
any_name b w t e y f =
    let rest = runs_out w true f in
    let l : b < 128 = sign_low b (start_part b (sym e ∙ y)) in
    record {
      accepted = λ names.
          let g : 1 + length w ≡ name_length (dialect names) (b ∷ w) = name_sign names (b ∷ w) (λ z. omega arith) l t e y (length w) (rw (take_rest (b ∷ w) 1) (rest.1 names)) in
          answered (check_name (dialect names)) (b ∷ w) (Ok (1 + length w)) (whole_all (dialect names) (b ∷ w) 0 (1 + length w) (omega (arith, g)) (λ z. omega arith) (omega arith));
    }

pub number_any : (w : List ℕ) (t : Bool) (names : Names) → t ≡ true → (t ≡ true → AnyName w) → 0 ≡ number_of (check_name (dialect names) w)
number_any w t names y a = (a y).accepted names

-- what the loop over name characters searches, and what the calls around it do
pub ruleset loops = (past_stop, sign_stop, sign_go, run_none, run_stop, run_go, point_fits, point_less)

pub ruleset asciis = (run_past, run_ends, run_on, run_fits)

pub ruleset firsts = (no_name_past, no_name_sign, name_sign, name_sign_fits, no_name_point, no_name_class, name_class, name_class_fits, width_in)

pub ruleset rests = (rest_no_parts, rest_no_name, rest_parts, rest_parts_fits, rest_name, rest_name_fits)

pub ruleset whole = (name_within, part_past, part_at, whole_none, whole_more, whole_all, rules)

-- Laws of decoding: one code point, and a text from its front. Assumes nothing.
use mathlib.Core.Path.{◌≡◌, refl, sym, ap, ◌∙◌}
use mathlib.Core.Bool.{Bool, true, false}
use mathlib.Core.List.{List, [], ◌∷◌}
use Prim.Native.Nat.{ℕ, ◌+◌, ◌*◌, ◌%◌, ◌<◌, ◌≤◌}
use native.Mathlib.Nat.{add-zero, zero-add}
use native.Mathlib.Omega.{arith}
use borrow.Author.Rules.{rules}
use Rattle.std.proofs.Common.{Option, Some, None}
use lib.Dec.{eqb}
use lib.ListN.{length, get_or, drop}
use lib.Seq.{drop-drop, get_or-drop}
use Rattle.spec.specs.Reading.Utf8.{point, no_point, two, three, four, decode4, decode1}
use Rattle.spec.specs.Reading.Readers.{Result, ok, err, stop_of, past}
use Rattle.spec.specs.Reading.Source.{utf8}
use Rattle.spec.proofs.Base.Places.{drop_at, drop_end, byte_past, take_rest}
use Rattle.spec.proofs.Base.Results.{ok_inj}
use Rattle.spec.proofs.Base.Tests.{eqb_yes, eqb_no}
use Rattle.spec.proofs.Characters.Utf8.{decode4_1, decode4_2, decode4_3, decode4_4, decode4_no}
use Rattle.spec.proofs.Characters.Valid.{utf8_end, utf8_turn, utf8_stop, utf8_sound, utf8_complete, utf8_inside}
use Rattle.spec.proofs.Inside.Ways.{stop_past}
use Rattle.utf8.specs.Seen.{seen, accepts}
use Rattle.utf8.specs.declared.Point.{Point}
use Rattle.utf8.proofs.Points.{code_at, none_at, point_fits, point_less}

-- the code's four forms, by the tests in order; t, u and v are what the tests say
module _ (a b c d : ℕ) where
  pub one_is : a < 0x80 → seen (Some (record { code = a; width = 1 })) ≡ decode4 a b c d
  unfolding seen
  one_is h = sym (decode4_1 a b c d h)

module _ (a b c d : ℕ) (h : 0x80 ≤ a) (t : Bool) (et : t ≡ two a b) where
  pub two_is : t ≡ true → seen (Some (record { code = a % 32 * 64 + b % 64; width = 2 })) ≡ decode4 a b c d
  unfolding seen
  two_is e = sym (decode4_2 a b c d h (sym et ∙ e))

  module _ (e : t ≡ false) (u : Bool) (eu : u ≡ three a b c) where
    pub three_is : u ≡ true → (p : ℕ) → p ≡ a % 16 * 4096 + b % 64 * 64 + c % 64 → seen (Some (record { code = p; width = 3 })) ≡ decode4 a b c d
    unfolding seen
    three_is f p g = rw g (sym (decode4_3 a b c d h (sym et ∙ e) (sym eu ∙ f)))

    module _ (f : u ≡ false) (v : Bool) (ev : v ≡ four a b c d) where
      pub four_is : v ≡ true → (p : ℕ) → p ≡ a % 8 * 262144 + b % 64 * 4096 + c % 64 * 64 + d % 64 → seen (Some (record { code = p; width = 4 })) ≡ decode4 a b c d
      unfolding seen
      four_is g p k = rw k (sym (decode4_4 a b c d h (sym et ∙ e) (sym eu ∙ f) (sym ev ∙ g)))

      pub none_is : v ≡ false → seen None ≡ decode4 a b c d
      unfolding seen
      none_is g = sym (decode4_no a b c d h (sym et ∙ e) (sym eu ∙ f) (sym ev ∙ g))

-- at a place
pub code_none : (s : List ℕ) (at : ℕ) → length s ≤ at → seen None ≡ decode1 (drop at s)
unfolding seen decode1
code_none s at h = rw (drop_end s at h)

pub code_is : (s : List ℕ) (at b c d : ℕ) (r : Option Point) → at < length s → b ≡ get_or s (at + 1) 0 → c ≡ get_or s (at + 2) 0 → d ≡ get_or s (at + 3) 0
    → seen r ≡ decode4 (get_or s at 0) b c d → seen r ≡ decode1 (drop at s)
unfolding decode1
code_is s at b c d r h eb ec ed e =
    let n1 : at + 1 + 0 ≡ at + 1 = omega arith in
    let n2 : at + 1 + 1 ≡ at + 2 = omega arith in
    let n3 : at + 1 + 2 ≡ at + 3 = omega arith in
    e ∙ (rw (drop_at s at h, get_or-drop (at + 1) s 0 0, get_or-drop (at + 1) s 1 0, get_or-drop (at + 1) s 2 0, n1, n2, n3, ← eb, ← ec, ← ed))

pub code_one : (s : List ℕ) (at : ℕ) → at < length s → get_or s at 0 < 0x80 → seen (Some (record { code = get_or s at 0; width = 1 })) ≡ decode1 (drop at s)
code_one s at h k = code_is s at _ _ _ (Some (record { code = get_or s at 0; width = 1 })) h refl refl refl (one_is (get_or s at 0) _ _ _ k)

-- at the front of a text
module _ (t : List ℕ) (h : length t ≡ 0 → ⊥) where
  pub first_one : get_or t 0 0 < 0x80 → seen (Some (record { code = get_or t 0 0; width = 1 })) ≡ decode1 t
  first_one k = code_one t 0 (omega arith) k

  pub first_is : (b c d : ℕ) (r : Option Point) → b ≡ get_or t 1 0 → c ≡ get_or t 2 0 → d ≡ get_or t 3 0 → seen r ≡ decode4 (get_or t 0 0) b c d → seen r ≡ decode1 t
  first_is b c d r e f g a = code_is t 0 b c d r (omega arith) e f g a

pub first_none : (t : List ℕ) → length t ≡ 0 → seen None ≡ decode1 t
first_none t e = code_none t 0 (omega arith)

-- a text from its front: a code point decides as little as its absence decides all
accepts_past : (k : ℕ) (x : Result) → accepts (past k x) ≡ accepts x
accepts_past k (ok j) = refl
accepts_past k (err r j) = refl

pub accepts_turn : (w : List ℕ) (c k : ℕ) → decode1 w ≡ point c k → accepts (utf8 w) ≡ accepts (utf8 (drop k w))
accepts_turn w c k e = ap accepts (utf8_turn w c k e) ∙ accepts_past k (utf8 (drop k w))

-- The loop over code points. The invariant: from i on it stops where the whole does.
pub end_holds : (s : List ℕ) → 0 + stop_of (utf8 (drop 0 s)) ≡ stop_of (utf8 s)
end_holds s = zero-add (stop_of (utf8 s))

stop_none : (w : List ℕ) → decode1 w ≡ no_point → stop_of (utf8 w) ≡ 0
stop_none [] d = ap stop_of utf8_end
stop_none (a ∷ w) d = ap stop_of (utf8_stop a w d)

module _ (s : List ℕ) (i : ℕ) (inv : i + stop_of (utf8 (drop i s)) ≡ stop_of (utf8 s)) where
  module _ (o : Option Point) (a : seen o ≡ decode1 (drop i s)) where
    pub end_none : o ≡ None → i ≡ stop_of (utf8 s)
    end_none b = rw (stop_none (drop i s) (none_at s i o a b), add-zero) at inv

    pub end_go : (p : Point) → o ≡ Some p → i + p.width + stop_of (utf8 (drop (i + p.width) s)) ≡ stop_of (utf8 s)
    end_go p b =
        let n = p.width in
        let t : stop_of (utf8 (drop i s)) ≡ n + stop_of (utf8 (drop (i + n) s)) = ap stop_of (utf8_turn (drop i s) p.code n (code_at s i o p a b)) ∙ stop_past n (utf8 (drop n (drop i s))) ∙ (rw drop-drop) in
        omega arith

-- it stops at the text's end exactly if it takes the text
pub end_tells : (s : List ℕ) (e : ℕ) → e ≡ stop_of (utf8 s) → eqb e (length s) ≡ accepts (utf8 s)
end_tells s e f = go (utf8 s) refl f
  where
    go : (x : Result) → utf8 s ≡ x → e ≡ stop_of x → eqb e (length s) ≡ accepts x
    go (ok k) g h =
        let y : ok k ≡ ok (length s) = sym g ∙ utf8_complete s (utf8_sound s k g) in
        eqb_yes e (length s) (h ∙ ok_inj k (length s) y)
    go (err r k) g h = let l = utf8_inside s r k g in eqb_no e (length s) (λ z. omega arith)

-- what the proofs search: of decode; of a code point at a place; of a text from its front
pub ruleset forms = (one_is, two_is, three_is, four_is, none_is, rules)

pub ruleset places = (byte_past, first_none, first_one, first_is, code_none, rules)

pub ruleset fronts = (point_fits, point_less, end_holds, end_none, end_go, end_tells, rules)

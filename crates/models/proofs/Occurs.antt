-- An occurrence sign. Assumes nothing.
use mathlib.Core.Path.{◌≡◌, refl, sym, ap, ◌∙◌}
use mathlib.Core.Bool.{Bool, true, false, ◌||◌, or-false, or_assoc, true≢false}
use mathlib.Core.List.{List}
use Prim.Native.Nat.{ℕ, ◌+◌, ◌^◌, ◌<◌}
use native.Mathlib.Nat.{add-zero}
use native.Mathlib.Omega.{arith}
use borrow.Author.Rules.{rules}
use mir.Syntax.{w64}
use mir.Val.{Fits}
use lib.Dec.{T, eqb}
use lib.ListN.{length, get_or, drop}
use Rattle.std.specs.Prelude.{Ok}
use Rattle.spec.specs.Grammar.Languages.{ascii, one_of}
use Rattle.spec.specs.Reading.Readers.{nothing, choose, begins, char}
use Rattle.spec.specs.Reading.Dtd.{occurs}
use Rattle.spec.proofs.Agreement.Runs.{among_ascii}
use Rattle.spec.proofs.Base.Tests.{true→T}
use Rattle.spec.proofs.Base.Places.{drop_at, byte_in, front_at}
use Rattle.spec.proofs.Characters.Utf8.{decode_1}
use Rattle.spec.proofs.Agreement.FirstSign.{begins_sign}
use Rattle.error.specs.Read.{said, read}

-- the class as the code tests it
abbrev mark : ℕ → Bool
mark b = eqb b 63 || eqb b 42 || eqb b 43

mark_is : (b : ℕ) → mark b ≡ one_of "?*+" b
mark_is b = simp (or-false, or_assoc)

mark_low : (c : ℕ) → T (one_of "?*+" c) → c < 128
mark_low = among_ascii (ascii "?*+") tt

module _ (s : List ℕ) (at b : ℕ) (e : b ≡ get_or s at 0) where
  -- below 128 the byte at a place tells what begins there
  begun : (t : Bool) → mark b ≡ t → begins (one_of "?*+") (drop at s) ≡ t
  begun t f = begins_sign "?*+" tt refl (drop at s) ∙ (rw (front_at s at, ← e)) ∙ sym (mark_is b) ∙ f

  module _ (y : mark b ≡ true) where
    mark_in : at < length s
    mark_in = byte_in s at b e (λ (z : b ≡ 0). true≢false (sym y ∙ ap mark z))

    pub occurs_fits : length s < 2 ^ 64 → Fits w64 (at + 1)
    occurs_fits h = let v = mark_in in omega arith

    pub occurs_yes : said (Ok (at + 1)) ≡ read occurs s at
    unfolding read said occurs choose char
    occurs_yes =
        let f : one_of "?*+" b ≡ true = sym (mark_is b) ∙ y in
        rw (begun true y, drop_at s at mark_in, ← e, decode_1 b (drop (at + 1) s) (mark_low b (true→T _ f)), f)

  pub occurs_no : mark b ≡ false → said (Ok at) ≡ read occurs s at
  unfolding read said occurs choose nothing
  occurs_no n = rw (begun false n, add-zero)

pub ruleset occurring = (occurs_fits, occurs_yes, occurs_no, rules)

-- Read bodies are tame: characters other than quotes, '<', '>' and brackets, and literals. So they are delimited, and no quick scan
-- is misled by them. The law of each way to make a language. Assumes nothing.
use mathlib.Core.Bool.{Bool, true, false, ◌&&◌, true≢false}
use mathlib.Core.List.{List, [], ◌∷◌}
use mathlib.Core.Path.{◌≡◌, refl, sym, ◌∙◌, subst}
use Prim.Native.Nat.{ℕ, zero, suc}
use Prim.Native.String.{String}
use native.Mathlib.Omega.{arith}
use lib.Dec.{T, ltb, eqb}
use Rattle.spec.specs.Grammar.Characters.{S, S?, space}
use Rattle.spec.specs.Grammar.ContentModels.{contentspec, Mixed, choice, sequence, occurrence, cp, Group, children}
use Rattle.spec.specs.Grammar.Declarations.{Delimited, element_body}
use Rattle.spec.specs.Grammar.Languages.{Lang, lit, ascii, Ch, ◌·◌, ◌∣◌, inl, inr, Star, end, more, one_of, none_of}
use Rattle.spec.specs.Grammar.Literals.{SystemLiteral}
use Rattle.spec.specs.Grammar.Names.{Dialect, Name, AsciiNames}
use Rattle.spec.proofs.Agreement.Algebra.{ε}
use Rattle.spec.proofs.Base.Tests.{T→true, true→T, eqb_no, and_left, and_right, leb_true, none_sub, not-true}
use Rattle.spec.proofs.Characters.Text.{star_append, star_one, star_map, ascii_char, reclass, star_bind}

-- Languages whose texts have quotes in pairs, and no angle bracket and no square bracket outside them
abbrev pub Tame : Lang
Tame = Star (Ch (none_of "\"'<>[]") ∣ SystemLiteral)

abbrev pub Within : Lang → Type 0
Within L = (u : List ℕ) → L u → Tame u

-- such a text is a delimited body
pub tame_delimited : {u : List ℕ} → Tame u → Delimited u
unfolding Delimited
tame_delimited t = star_map item t
  where
    item : (w : List ℕ) → (Ch (none_of "\"'<>[]") ∣ SystemLiteral) w → (Ch (none_of "\"'>") ∣ SystemLiteral) w
    item w (inl c) = inl (reclass c (rw (none_sub (ascii "\"'>") (ascii "\"'<>[]") tt c.char (not-true (one_of "\"'<>[]" c.char) (T→true (none_of "\"'<>[]" c.char) c.in_class))) tt))
    item w (inr l) = inr l

pub within_cat : {L M : Lang} → Within L → Within M → Within (L · M)
within_cat a b u c = subst Tame (sym c.split) (star_append (a c.left c.first) (b c.right c.second))

pub within_either : {L M : Lang} → Within L → Within M → Within (L ∣ M)
within_either a b u (inl l) = a u l
within_either a b u (inr m) = b u m

pub within_none : Within ε
within_none u e = end e

pub within_star : {L : Lang} → Within L → Within (Star L)
within_star a u s = star_bind a s

pub within_ch : (p : ℕ → Bool) → p 34 ≡ false → p 39 ≡ false → p 60 ≡ false → p 62 ≡ false → p 91 ≡ false → p 93 ≡ false → Within (Ch p)
within_ch p a b d f g h u c = star_one (inl (reclass c go))
  where
    not_at : (m : ℕ) → p m ≡ false → eqb c.char m ≡ false
    not_at m e = eqb_no c.char m (λ f. true≢false (sym (T→true (p m) (subst (λ (k : ℕ). T (p k)) f c.in_class)) ∙ e))

    go : T (none_of "\"'<>[]" c.char)
    go = rw (not_at 34 a, not_at 39 b, not_at 60 d, not_at 62 f, not_at 91 g, not_at 93 h) tt

abbrev pub every_plain : List ℕ → Bool
every_plain [] = true
every_plain (b ∷ bs) = ltb b 128 && none_of "\"'<>[]" b && every_plain bs

pub plain_bytes : (w : List ℕ) → every_plain w ≡ true → Tame w
plain_bytes [] h = end refl
plain_bytes (b ∷ w) h =
    let f : (ltb b 128 && none_of "\"'<>[]" b) ≡ true = and_left (ltb b 128 && none_of "\"'<>[]" b) (every_plain w) h in
    more (b ∷ []) w refl
    (inl (ascii_char (none_of "\"'<>[]") b (leb_true (suc b) 128 (and_left (ltb b 128) (none_of "\"'<>[]" b) f)) (true→T (none_of "\"'<>[]" b) (and_right (ltb b 128) (none_of "\"'<>[]" b) f))))
    (plain_bytes w (and_right (ltb b 128 && none_of "\"'<>[]" b) (every_plain w) h))

pub within_lit : (s : String) → T (every_plain (ascii s)) → Within (lit s)
within_lit s h u e = subst Tame (sym e) (plain_bytes (ascii s) (T→true (every_plain (ascii s)) h))

pub within_s? : Within S?
unfolding S?
within_s? = within_star (within_ch space refl refl refl refl refl refl)

pub within_s : Within S
unfolding S
within_s = within_cat (within_ch space refl refl refl refl refl refl) (within_star (within_ch space refl refl refl refl refl refl))

module _ (D : Dialect) (A : AsciiNames D) where
  pub within_name : Within (Name D)
  unfolding Name
  within_name =
      within_cat (within_ch D.start (A.start_ascii 34 (omega arith)) (A.start_ascii 39 (omega arith)) (A.start_ascii 60 (omega arith)) (A.start_ascii 62 (omega arith)) (A.start_ascii 91 (omega arith)) (A.start_ascii 93 (omega arith)))
      (within_star (within_ch D.part (A.part_ascii 34 (omega arith)) (A.part_ascii 39 (omega arith)) (A.part_ascii 60 (omega arith)) (A.part_ascii 62 (omega arith)) (A.part_ascii 91 (omega arith)) (A.part_ascii 93 (omega arith))))

  within_occurrence : Within occurrence
  unfolding occurrence
  within_occurrence = within_either (within_ch (one_of "?*+") refl refl refl refl refl refl) within_none

  within_choice : {C : Lang} → Within C → Within (choice C)
  unfolding choice
  within_choice {C} c =
      within_cat (within_lit "(" tt) (within_cat within_s? (within_cat c (within_cat (within_cat item (within_star item)) (within_cat within_s? (within_lit ")" tt)))))
    where
      item : Within (S? · lit "|" · S? · C)
      item = within_cat within_s? (within_cat (within_lit "|" tt) (within_cat within_s? c))

  within_seq : {C : Lang} → Within C → Within (sequence C)
  unfolding sequence
  within_seq c =
      within_cat (within_lit "(" tt) (within_cat within_s? (within_cat c (within_cat (within_star (within_cat within_s? (within_cat (within_lit "," tt) (within_cat within_s? c)))) (within_cat within_s? (within_lit ")" tt)))))

  within_cp : {G : Lang} → Within G → Within (cp D G)
  within_cp g = within_cat (within_either within_name g) within_occurrence

  within_group : (h : ℕ) → Within (Group D h)
  unfolding Group
  within_group zero = λ u z. absurd z
  within_group (suc h) = within_either (within_choice (within_cp (within_group h))) (within_seq (within_cp (within_group h)))

  pub within_element : Within (element_body D)
  unfolding element_body contentspec Mixed children
  within_element =
      within_cat within_s (within_cat within_name (within_cat within_s (within_cat
      (within_either (within_lit "EMPTY" tt) (within_either (within_lit "ANY" tt) (within_either
      (within_either
      (within_cat (within_lit "(" tt) (within_cat within_s? (within_cat (within_lit "#PCDATA" tt) (within_cat (within_star (within_cat within_s? (within_cat (within_lit "|" tt) (within_cat within_s? within_name)))) (within_cat within_s? (within_lit ")*" tt))))))
      (within_cat (within_lit "(" tt) (within_cat within_s? (within_cat (within_lit "#PCDATA" tt) (within_cat within_s? (within_lit ")" tt))))))
      (within_cat (within_group D.groups) within_occurrence)))) within_s?)))

-- What an XML declaration begins with and has not in it, and that no instruction begins as one. Assumes nothing.
use mathlib.Core.Logic
use mathlib.Core.Bool.{true, false, ◌&&◌, not, true≢false}
use mathlib.Core.List.{List, [], ◌∷◌, ◌++◌, append_assoc}
use mathlib.Core.Logic.{◌⊎◌}
use mathlib.Core.Path.{◌≡◌, refl, sym, ◌∙◌, ap}
use Prim.Native.Nat.{ℕ}
use Prim.Native.String.{String}
use native.Mathlib.Omega.{arith}
use lib.ListN.{get_or, drop}
use Rattle.spec.specs.Grammar.Characters.{S, S?, space, latin_letter}
use Rattle.spec.specs.Grammar.Declarations.{PI}
use Rattle.spec.specs.Grammar.Languages.{Lang, lit, ascii, Ch, ◌·◌, ◌∣◌, inl, inr, Plus, Opt, one_of, among}
use Rattle.spec.specs.Grammar.Literals.{Quoted}
use Rattle.spec.specs.Grammar.Names.{Dialect, PITarget, AsciiNames}
use Rattle.spec.specs.Grammar.References.{digit}
use Rattle.spec.specs.Grammar.XmlDecl.{Eq, VersionNum, VersionInfo, enc_char, EncName, EncodingDecl, SDDecl, XMLDecl}
use Rattle.spec.specs.Reading.Document.{is_declaration}
use Rattle.spec.specs.Reading.Dtd.{reserved}
use Rattle.spec.specs.Reading.Readers.{begins, starts}
use Rattle.spec.proofs.Agreement.Chars.{begins_ch}
use Rattle.spec.proofs.Agreement.FirstSign.{begins_sign}
use Rattle.spec.proofs.Agreement.Runs.{space_ascii}
use Rattle.spec.proofs.Agreement.Words.{starts_split}
use Rattle.spec.proofs.Base.Tests.{T→true, true→T, decide, and_left, and_right, among_sub}
use Rattle.spec.proofs.Characters.Bytes.{avoids, avoids_all, class_avoids}
use Rattle.spec.proofs.Characters.Text.{star_one, reclass}
use Rattle.spec.proofs.Characters.Utf8.{encode_1}
use Rattle.spec.proofs.Dtd.Instructions.{Unmarked, reserved_xml, target_avoids}
use Rattle.spec.proofs.Wellformed.References.{Avoiding, avoiding_cat, avoiding_lit, plus_avoiding}

-- an XML declaration has no '?'
abbrev Unasked : Lang → Type 0
Unasked = Avoiding 63

unasked_lit : (s : String) → avoids 63 (ascii s) ≡ true → Unasked (lit s)
unasked_lit s h = avoiding_lit 63 s h

unasked_s? : Unasked S?
unfolding S?
unasked_s? u s = class_avoids space 63 (omega arith) refl s

unasked_s : Unasked S
unfolding S
unasked_s = plus_avoiding 63 space (omega arith) refl

unasked_either : {L M : Lang} → Unasked L → Unasked M → Unasked (L ∣ M)
unasked_either a b u (inl l) = a u l
unasked_either a b u (inr m) = b u m

unasked_none : Unasked (λ w. w ≡ [])
unasked_none u e = ap (avoids 63) e

unasked_quoted : {L : Lang} → Unasked L → Unasked (Quoted L L)
unasked_quoted a = unasked_either (avoiding_cat 63 (unasked_lit "\"" refl) (avoiding_cat 63 a (unasked_lit "\"" refl))) (avoiding_cat 63 (unasked_lit "'" refl) (avoiding_cat 63 a (unasked_lit "'" refl)))

unasked_eq : Unasked Eq
unfolding Eq
unasked_eq = avoiding_cat 63 unasked_s? (avoiding_cat 63 (unasked_lit "=" refl) unasked_s?)

unasked_version : Unasked VersionInfo
unfolding VersionInfo VersionNum
unasked_version =
    avoiding_cat 63 unasked_s (avoiding_cat 63 (unasked_lit "version" refl) (avoiding_cat 63 unasked_eq (unasked_quoted (avoiding_cat 63 (unasked_lit "1." refl) (plus_avoiding 63 digit (omega arith) refl)))))

unasked_encoding : Unasked EncodingDecl
unfolding EncodingDecl EncName
unasked_encoding =
    avoiding_cat 63 unasked_s (avoiding_cat 63 (unasked_lit "encoding" refl) (avoiding_cat 63 unasked_eq (unasked_quoted
    (avoiding_cat 63 (λ u c. class_avoids latin_letter 63 (omega arith) refl (star_one c)) (λ u s. class_avoids enc_char 63 (omega arith) refl s)))))

unasked_standalone : Unasked SDDecl
unfolding SDDecl
unasked_standalone = avoiding_cat 63 unasked_s (avoiding_cat 63 (unasked_lit "standalone" refl) (avoiding_cat 63 unasked_eq (unasked_quoted (unasked_either (unasked_lit "yes" refl) (unasked_lit "no" refl)))))

pub unasked : Unasked XMLDecl
unfolding XMLDecl
unasked = avoiding_cat 63 (unasked_lit "xml" refl) (avoiding_cat 63 unasked_version (avoiding_cat 63 (unasked_either unasked_encoding unasked_none) (avoiding_cat 63 (unasked_either unasked_standalone unasked_none) unasked_s?)))

-- what ends the name that a declaration or an instruction begins with
abbrev ends_target : String
ends_target = " \t\r\n?"

space_ends : (b : ℕ) → space b ≡ true → one_of ends_target b ≡ true
space_ends = among_sub (ascii " \t\r\n") (ascii ends_target) tt

-- what is one begins as one
pub begins_declared : (t y : List ℕ) → XMLDecl t → is_declaration (60 ∷ 63 ∷ (t ++ y)) ≡ true
unfolding XMLDecl VersionInfo S
begins_declared t y x =
    let v : (S · lit "version" · Eq · Quoted VersionNum VersionNum) x.second.left = x.second.first in
    let s : Plus (Ch space) v.left = v.first in
    let c : Ch space s.left = s.first in
    let z : List ℕ = (s.right ++ v.right) ++ x.second.right in
    let e : t ≡ 120 ∷ 109 ∷ 108 ∷ (s.left ++ z) =
    x.split ∙ (λ i. x.first i ++ (x.second.split ∙ ap (λ (q : List ℕ). q ++ x.second.right) (v.split ∙ ap (λ (q : List ℕ). q ++ v.right) s.split ∙ append_assoc s.left s.right v.right) ∙ append_assoc s.left (s.right ++ v.right) x.second.right) i) in
    by_space s.left z e (reclass c (true→T (one_of ends_target c.char) (space_ends c.char (T→true (space c.char) c.in_class))))
  where
    then_space : (a z : List ℕ) → Ch (one_of ends_target) a → is_declaration (60 ∷ 63 ∷ 120 ∷ 109 ∷ 108 ∷ (a ++ z)) ≡ true
    then_space a z c = unfold is_declaration starts in begins_ch (one_of ends_target) a z c

    by_space : (a z : List ℕ) → t ≡ 120 ∷ 109 ∷ 108 ∷ (a ++ z) → Ch (one_of ends_target) a → is_declaration (60 ∷ 63 ∷ (t ++ y)) ≡ true
    by_space a z e c = ap (λ (q : List ℕ). is_declaration (60 ∷ 63 ∷ q)) (ap (λ (q : List ℕ). q ++ y) e ∙ ap (λ (q : List ℕ). 120 ∷ 109 ∷ 108 ∷ q) (append_assoc a z y)) ∙ then_space a (z ++ y) c

-- two texts without some signs are one where one of these follows
same_front : (s t u : List ℕ) (b c : ℕ) (y v : List ℕ) → avoids_all s t ≡ true → avoids_all s u ≡ true → among s b ≡ true → among s c ≡ true → t ++ b ∷ y ≡ u ++ c ∷ v → t ≡ u
same_front s [] [] b c y v h g k l e = refl
same_front s [] (d ∷ u) b c y v h g k l e = let f : b ≡ d = cc in absurd (true≢false (sym (and_left (not (among s d)) (avoids_all s u) g) ∙ ap (λ (x : ℕ). not (among s x)) (sym f) ∙ ap not k))
same_front s (a ∷ t) [] b c y v h g k l e = let f : a ≡ c = cc in absurd (true≢false (sym (and_left (not (among s a)) (avoids_all s t) h) ∙ ap (λ (x : ℕ). not (among s x)) f ∙ ap not l))
same_front s (a ∷ t) (d ∷ u) b c y v h g k l e =
    let f : a ≡ d = cc in
    let m : t ++ b ∷ y ≡ u ++ c ∷ v = cc in
    let n : t ≡ u = same_front s t u b c y v (and_right (not (among s a)) (avoids_all s t) h) (and_right (not (among s d)) (avoids_all s u) g) k l m in
    (λ i. f i ∷ n i)

-- an instruction's target is not xml, so it is not taken for a declaration
module _ (D : Dialect) (A : AsciiNames D) where
  -- what follows the target
  record Ended (w : List ℕ) : Type 0 where
    sign_there : ℕ
    rest : List ℕ
    is : w ≡ sign_there ∷ rest
    ends : one_of ends_target sign_there ≡ true

  target_ended : (o z : List ℕ) → Opt (S · Unmarked) o → Ended (o ++ 63 ∷ z)
  unfolding S
  target_ended o z (inr e) = record { sign_there = 63; rest = z; is = ap (λ (x : List ℕ). x ++ 63 ∷ z) e; ends = refl }
  target_ended o z (inl l) =
      let s : Plus (Ch space) l.left = l.first in
      let c : Ch space s.left = s.first in
      let e : o ≡ c.char ∷ (s.right ++ l.right) = l.split ∙ ap (λ (z : List ℕ). z ++ l.right) (s.split ∙ ap (λ (z : List ℕ). z ++ s.right) (c.bytes ∙ encode_1 c.char (space_ascii c.char c.in_class))) in
      record { sign_there = c.char; rest = (s.right ++ l.right) ++ 63 ∷ z; is = ap (λ (x : List ℕ). x ++ 63 ∷ z) e; ends = space_ends c.char (T→true (space c.char) c.in_class) }

  not_declaration : (t y : List ℕ) → PITarget D t → Ended y → is_declaration (60 ∷ 63 ∷ (t ++ y)) ≡ false
  unfolding PITarget reserved
  not_declaration t y p n = go (decide (is_declaration w))
    where
      w : List ℕ
      w = 60 ∷ 63 ∷ (t ++ y)

      by_rest : (v : List ℕ) → t ++ y ≡ (120 ∷ 109 ∷ 108 ∷ []) ++ v → one_of ends_target (get_or v 0 0) ≡ true → ⊥
      by_rest [] e f = true≢false (sym f)
      by_rest (c ∷ v) e f =
          let q : t ≡ 120 ∷ 109 ∷ 108 ∷ [] =
          same_front (ascii ends_target) t (120 ∷ 109 ∷ 108 ∷ []) n.sign_there c n.rest v (target_avoids D A (ascii ends_target) refl t p) refl n.ends f (ap (λ (x : List ℕ). t ++ x) (sym n.is) ∙ e) in
          p.1 (reserved_xml D A t (ap reserved q))

      go : (is_declaration w ≡ true) ⊎ (is_declaration w ≡ false) → is_declaration w ≡ false
      go (Logic.inr e) = e
      go (Logic.inl e) = absurd (by_parts (unfold is_declaration in e))
        where
          by_parts : (starts (ascii "<?xml") w && begins (one_of ends_target) (drop 5 w)) ≡ true → ⊥
          by_parts e =
              let (v, f) = starts_split (ascii "<?xml") w (and_left (starts (ascii "<?xml") w) (begins (one_of ends_target) (drop 5 w)) e) in
              let g : t ++ y ≡ 120 ∷ 109 ∷ 108 ∷ v = cc in
              by_rest v g (ap (λ (x : List ℕ). one_of ends_target (get_or x 0 0)) (sym (ap (drop 5) f)) ∙ sym (begins_sign ends_target tt refl (drop 5 w)) ∙ and_right (starts (ascii "<?xml") w) (begins (one_of ends_target) (drop 5 w)) e)

  pub not_declared : (u z : List ℕ) → PI D u → is_declaration (u ++ z) ≡ false
  unfolding PI
  not_declared u z l =
      let t : List ℕ = l.second.left in
      let o : List ℕ = l.second.second.left in
      let e : u ++ z ≡ 60 ∷ 63 ∷ (t ++ (o ++ 63 ∷ 62 ∷ z)) =
      ap (λ (x : List ℕ). x ++ z) (l.split ∙ (λ j. l.first j ++ (l.second.split ∙ ap (λ (x : List ℕ). t ++ x) (l.second.second.split ∙ ap (λ (x : List ℕ). o ++ x) l.second.second.second)) j))
      ∙ ap (λ (x : List ℕ). 60 ∷ 63 ∷ x) (append_assoc t (o ++ 63 ∷ 62 ∷ []) z ∙ ap (λ (x : List ℕ). t ++ x) (append_assoc o (63 ∷ 62 ∷ []) z)) in
      ap is_declaration e ∙ not_declaration t (o ++ 63 ∷ 62 ∷ z) l.second.first (target_ended o (62 ∷ z) l.second.second.first)

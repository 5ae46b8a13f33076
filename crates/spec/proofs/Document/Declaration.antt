-- The XML declaration, as it is written and as it is read. Assumes nothing.
use mathlib.Core.Bool.{Bool, true, false, ◌&&◌, true≢false}
use mathlib.Core.List.{List, [], ◌∷◌, ◌++◌, append_assoc}
use mathlib.Core.Path.{◌≡◌, refl, sym, ◌∙◌, ap}
use Prim.Native.Nat.{ℕ}
use lib.ListN.{drop}
use Rattle.spec.specs.Grammar.Languages.{Lang, lit, ascii, ◌·◌, Opt, any, one_of}
use Rattle.spec.specs.Grammar.XmlDecl.{XMLDecl}
use Rattle.spec.specs.Reading.Checks.{check_declaration}
use Rattle.spec.specs.Reading.Document.{is_declaration, read_declaration}
use Rattle.spec.specs.Reading.Readers.{◌>>◌, starts, begins, up_to, word}
use Rattle.spec.specs.Reading.Refusals.{unterminated, unexpected}
use Rattle.spec.proofs.Agreement.Choices.{empty_reads}
use Rattle.spec.proofs.Agreement.Holds.{first_after, avoids_contains}
use Rattle.spec.proofs.Agreement.Reads.{Reads, Next, seq, alt, weaken_by}
use Rattle.spec.proofs.Agreement.Signs.{sub_any}
use Rattle.spec.proofs.Agreement.UpTo.{up_to_reads}
use Rattle.spec.proofs.Agreement.Words.{first_of, wd, starts_split, starts_self}
use Rattle.spec.proofs.Base.Tests.{no→false, T→true}
use Rattle.spec.proofs.Characters.Text.{between}
use Rattle.spec.proofs.Checks.XmlDecl.{declaration_agrees}
use Rattle.spec.proofs.Document.Declared.{unasked, begins_declared}

-- the XML declaration
abbrev pub Marked : Lang
Marked = lit "<?" · XMLDecl · lit "?>"

pub marked_reads : Reads (word "<?" unexpected >> up_to "?>" unterminated check_declaration) Marked (Next any) (first_of "<")
marked_reads =
    seq (wd "<?" unexpected tt) sub_any
    (up_to_reads "?>" unterminated check_declaration XMLDecl 63 (62 ∷ []) refl tt (λ u v j tu h e. declaration_agrees.sound u j tu e) declaration_agrees.complete
    (λ u v x. first_after 63 (62 ∷ []) refl u v (avoids_contains 63 (62 ∷ []) u (unasked u x))))

-- it is told from what follows by how it begins
pub marked_there : (u v : List ℕ) → Marked u → is_declaration (u ++ v) ≡ true
marked_there u v l =
    let t : List ℕ = l.second.left in
    ap (λ (z : List ℕ). is_declaration (z ++ v)) (between "<?" "?>" l) ∙ ap (λ (z : List ℕ). is_declaration (60 ∷ 63 ∷ z)) (append_assoc t (63 ∷ 62 ∷ []) v) ∙ begins_declared t (63 ∷ 62 ∷ v) l.second.first

-- what may stand after it, or instead of it
pub record Undeclared (v : List ℕ) : Type 0 where
  pub it : is_declaration v ≡ false

pub declaration_reads : Reads read_declaration (Opt Marked) Undeclared any
unfolding read_declaration
declaration_reads =
    weaken_by (λ v t. t) sub_any
    (alt is_declaration (λ u v l t. marked_there u v l) (λ u v e t. ap (λ (z : List ℕ). is_declaration (z ++ v)) e ∙ t.it)
    (weaken_by (λ v t. record { it = tt }) sub_any marked_reads) (weaken_by (λ v t. record { it = tt }) sub_any (empty_reads any)))

-- what begins with no "<?xml" is none
pub no_word : (v : List ℕ) → starts (ascii "<?xml") v ≡ false → is_declaration v ≡ false
unfolding is_declaration
no_word v e = ap (λ (b : Bool). b && begins (one_of " \t\r\n?") (drop 5 v)) e

-- where a word does not begin, no longer one does
pub starts_front : (s t v : List ℕ) → starts s v ≡ false → starts (s ++ t) v ≡ false
starts_front s t v e = no→false (starts (s ++ t) v)
    (λ y. let (r, f) = starts_split (s ++ t) v (T→true (starts (s ++ t) v) y) in true≢false (sym (starts_self s (t ++ r)) ∙ ap (starts s) (sym (append_assoc s t r) ∙ sym f) ∙ e))

-- What the grammar derives is text: UTF-8 by construction. The law of each way to make a language. Assumes nothing.
use mathlib.Core.Bool.{Bool}
use mathlib.Core.List.{List, []}
use mathlib.Core.Path.{◌≡◌, sym, subst}
use Prim.Native.Nat.{ℕ}
use Prim.Native.String.{String}
use lib.Dec.{T}
use Rattle.spec.specs.Grammar.Characters.{Text, S, S?, space}
use Rattle.spec.specs.Grammar.Languages.{Lang, lit, ascii, Ch, ◌·◌, ◌∣◌, inl, inr, Star, end, Plus, any, ◌∖◌}
use Rattle.spec.specs.Grammar.Names.{Dialect, Name}
use Rattle.spec.specs.Grammar.References.{digit, hex_digit, CharRef, Unreferring, Referring}
use Rattle.spec.proofs.Characters.Text.{all_ascii, ascii_text, star_append, star_one, ch_any, star_bind}

abbrev pub Texts : Lang → Type 0
Texts L = (u : List ℕ) → L u → Star (Ch any) u

pub texts_cat : {L M : Lang} → Texts L → Texts M → Texts (L · M)
texts_cat f g u c = subst (Star (Ch any)) (sym c.split) (star_append (f c.left c.first) (g c.right c.second))

pub texts_star : {L : Lang} → Texts L → Texts (Star L)
texts_star f u s = star_bind f s

pub texts_lit : (s : String) → T (all_ascii (ascii s)) → Texts (lit s)
texts_lit s h u e = subst (Star (Ch any)) (sym e) (ascii_text (ascii s) h)

pub texts_ch : (p : ℕ → Bool) → Texts (Ch p)
texts_ch p u c = star_one (ch_any c)

pub texts_either : {L M : Lang} → Texts L → Texts M → Texts (L ∣ M)
texts_either f g u (inl l) = f u l
texts_either f g u (inr m) = g u m

pub texts_none : Texts (λ w. w ≡ [])
texts_none u e = end e

pub texts_plus : (d : ℕ → Bool) → Texts (Plus (Ch d))
texts_plus d = texts_cat (texts_ch d) (texts_star (texts_ch d))

pub texts_s : Texts S
unfolding S
texts_s = texts_plus space

pub texts_s? : Texts S?
unfolding S?
texts_s? = texts_star (texts_ch space)

pub texts_ref : Texts CharRef
unfolding CharRef
texts_ref u (inl l) = texts_cat (texts_lit "&#" tt) (texts_cat (λ x c. texts_plus digit x c.0) (texts_lit ";" tt)) u l
texts_ref u (inr l) = texts_cat (texts_lit "&#x" tt) (texts_cat (λ x c. texts_plus hex_digit x c.0) (texts_lit ";" tt)) u l

pub texts_referring : (p : ℕ → Bool) → Texts (Referring p)
unfolding Referring Unreferring
texts_referring p = texts_cat free (texts_star (texts_cat texts_ref free))
  where
    free : Texts (Star (Ch p) ∖ (Text · lit "&#" · Text))
    free u x = texts_star (texts_ch p) u x.0

pub texts_name : (D : Dialect) → Texts (Name D)
unfolding Name
texts_name D = texts_cat (texts_ch D.start) (texts_star (texts_ch D.part))

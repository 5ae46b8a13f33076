-- Where the reading of a document stops is a place of the text, and so is every place that the verdict tells. Assumes nothing.
use mathlib.Core.Bool.{◌&&◌, ◌||◌}
use mathlib.Core.List.{List}
use Prim.Native.Nat.{ℕ, ◌≤◌}
use native.Mathlib.Omega.{arith}
use lib.Dec.{eqb, ltb}
use lib.ListN.{length, drop}
use Rattle.spec.specs.Basics.{pick}
use Rattle.spec.specs.Grammar.Languages.{ascii}
use Rattle.spec.specs.Grammar.Names.{Dialect}
use Rattle.spec.specs.Reading.Document.{at_most, unless_closed, closing, is_declaration, read_declaration, item_here, read_item, read_misc, read_doctype_text, read_doctype, read_opening, read_ending, read_prolog, read_other, read_tag, read_beginning}
use Rattle.spec.specs.Reading.Readers.{Result, ok, err, Reader, stop_of, some_left, contains}
use Rattle.spec.specs.Reading.Refusals.{Refusal, number, unterminated}
use Rattle.spec.proofs.Inside.Readers.{spaces, comment, name, pi, in_before, in_declaration}
use Rattle.spec.proofs.Inside.Ways.{Inside, stop_on, stop_pick, ◌then◌, in_nothing, in_refuse, in_choose, in_on, in_word, in_while, in_up_to}

in_most : (n : ℕ) (c : Refusal) {A : Reader} → Inside A → Inside (at_most n c A)
unfolding at_most
in_most n c {A} p = record {
  inside = λ w. stop_on (length w) (A w) (λ k. pick (ltb n k) (err c 0) (ok k)) (p.inside w)
      (λ k e. stop_pick (length w) (ltb n k) (err c 0) (ok k) (λ _. omega arith) (λ _. let h = p.inside w in (rw e at h)));
}

in_closing : {A : Reader} → Inside A → Inside (closing A)
unfolding closing
in_closing {A} p = record { inside = λ w. go w (A w) (p.inside w) }
  where
    go : (w : List ℕ) (a : Result) → stop_of a ≤ length w → stop_of (unless_closed w a) ≤ length w
    go w (ok k) h = h
    go w (err n k) h =
        stop_pick (length w) (contains (ascii ">") (drop k w) || eqb (number n) (number unterminated) && some_left (drop k w)) (err n k) (err unterminated 0) (λ _. h) (λ _. omega arith)

pub in_xml : Inside read_declaration
unfolding read_declaration
in_xml = in_choose is_declaration (in_word "<?" _ then in_up_to "?>" _ in_declaration) in_nothing

module _ (D : Dialect) where
  in_item : Inside (read_item D)
  unfolding read_item
  in_item = in_on "<!--" comment (in_choose is_declaration (in_refuse _) (pi D))

  in_misc : Inside (read_misc D)
  unfolding read_misc
  in_misc = spaces then in_while item_here (in_item then spaces)

  in_text : Inside (read_doctype_text D)
  unfolding read_doctype_text
  in_text = in_before D (in_word ">" _)

  in_whole_doctype : Inside (read_doctype D)
  unfolding read_doctype
  in_whole_doctype = in_most _ _ (in_word "<!DOCTYPE" _ then in_closing in_text)

  pub in_prolog : Inside (read_prolog D)
  unfolding read_prolog read_opening read_ending
  in_prolog = (in_xml then in_misc) then in_on "<!DOCTYPE" (in_whole_doctype then in_misc) in_nothing

  in_other : Inside (read_other D)
  unfolding read_other
  in_other = in_choose _ (in_refuse _) (in_word "<!" _ then in_refuse _)

  in_tag : Inside (read_tag D)
  unfolding read_tag
  in_tag =
      in_choose some_left
      (in_on "<!DOCTYPE" (in_refuse _) (in_on "<!" in_other (in_word "<" _ then in_choose some_left (name D) (in_refuse _))))
      (in_refuse _)

  pub in_beginning : Inside (read_beginning D)
  unfolding read_beginning
  in_beginning = in_prolog then in_tag

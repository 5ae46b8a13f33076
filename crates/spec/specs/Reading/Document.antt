-- The order in which the beginning of a document is read: the prolog, and '<' and a name of the root. This is ours, not the Rust's, whose
-- tokenizer does it; it is made of the Rust's readers. The first thing that can't be read on is refused. Assumes nothing.
use Rattle.std.specs.Prelude.{Bool, ◌&&◌, ◌||◌, List, ℕ, ◌+◌, ◌-◌, eqb, ltb, take, drop}
use Rattle.spec.specs.Basics.{pick, limit}
use Rattle.spec.specs.Grammar.Languages.{ascii, one_of}
use Rattle.spec.specs.Grammar.Names.{Dialect}
use Rattle.spec.specs.Grammar.Prolog.{DoctypeText, no_doctype, from_to}
use Rattle.spec.specs.Reading.Checks.{check_declaration}
use Rattle.spec.specs.Reading.Dtd.{skip_s, parse_comment, parse_pi, doctype_before}
use Rattle.spec.specs.Reading.Readers.{Result, ok, err, Reader, taken, on_ok, ◌>>◌, nothing, refuse, some_left, starts, choose, on, word, while, begins, char, contains, up_to}
use Rattle.spec.specs.Reading.Refusals.{Refusal, number, too_long, unterminated, unexpected, trailing, illegal_char, out_of_order, too_deep}
use Rattle.spec.specs.Reading.Wellformed.{name}

-- what r takes, if it is at most n bytes, or a refusal where it begins
unfoldable pub at_most : ℕ → Refusal → Reader → Reader
at_most n refusal r w = on_ok (r w) (λ k. pick (ltb n k) (err refusal 0) (ok k))

-- r, the inside of a declaration that a '>' ends. Where it is refused and no '>' is left, the declaration does not end, whatever is wrong
-- in it, as take_decl_body has it: that is refused where r begins, or, where something in it does not end, behind the sign of that.
abbrev pub unless_closed : List ℕ → Result → Result
unless_closed w (ok k) = ok k
unless_closed w (err n k) =
    pick (contains (ascii ">") (drop k w) || eqb (number n) (number unterminated) && some_left (drop k w)) (err n k) (err unterminated 0)

unfoldable pub closing : Reader → Reader
closing r w = unless_closed w (r w)

-- an XML declaration begins with "<?xml" and then white space or '?': an instruction's target may only begin so
unfoldable pub is_declaration : List ℕ → Bool
is_declaration w = starts (ascii "<?xml") w && begins (one_of " \t\r\n?") (drop 5 w)

-- XMLDecl?
unfoldable pub read_declaration : Reader
read_declaration = choose is_declaration (word "<?" unexpected >> up_to "?>" unterminated check_declaration) nothing

-- a comment or an instruction begins here
unfoldable pub item_here : List ℕ → Bool
item_here w = starts (ascii "<!--") w || starts (ascii "<?") w

module _ (D : Dialect) where
  -- a comment or an instruction, as in the subset; but an XML declaration that is not first is out of order (21), where in the subset it
  -- is an instruction with a reserved target (11)
  unfoldable pub read_item : Reader
  read_item = on "<!--" parse_comment (choose is_declaration (refuse out_of_order) (parse_pi D))

  -- Misc*
  unfoldable pub read_misc : Reader
  read_misc = skip_s >> while item_here (read_item >> skip_s)

  -- what stands between '<!DOCTYPE' and '>', and the '>'
  unfoldable pub read_doctype_text : Reader
  read_doctype_text = doctype_before D too_deep (word ">" trailing)

  -- the whole of it: 10 bytes more than its text, which is not longer than any text that is looked at
  unfoldable pub read_doctype : Reader
  read_doctype = at_most (10 + limit) too_long (word "<!DOCTYPE" unexpected >> closing read_doctype_text)

  -- XMLDecl? Misc*, and (doctypedecl Misc*)?
  unfoldable pub read_opening : Reader
  read_opening = read_declaration >> read_misc

  unfoldable pub read_ending : Reader
  read_ending = on "<!DOCTYPE" (read_doctype >> read_misc) nothing

  unfoldable pub read_prolog : Reader
  read_prolog = read_opening >> read_ending

  -- another declaration, or a section: unexpected (8); one that no '>' ends may be any, a comment or a DOCTYPE too, and does not end (7)
  unfoldable pub read_other : Reader
  read_other = choose (contains (ascii ">")) (refuse unexpected) (word "<!" unexpected >> refuse unterminated)

  -- the root's '<' and name; where the text ends before them or between them, it does not end (7); a second DOCTYPE is out of order (21)
  unfoldable pub read_tag : Reader
  read_tag =
      choose some_left
      (on "<!DOCTYPE" (refuse out_of_order)
      (on "<!" read_other (word "<" unexpected >> choose some_left (name D) (refuse unterminated))))
      (refuse unterminated)

  unfoldable pub read_beginning : Reader
  read_beginning = read_prolog >> read_tag

-- How many bytes stand before the first that begins no character of a class, and the part of a text that they are. Of a text only the part
-- is read that consists of Chars.
unfoldable pub legal_length : (ℕ → Bool) → List ℕ → ℕ
legal_length p w = taken (while (begins p) (char p illegal_char) w)

abbrev pub legal_part : (ℕ → Bool) → List ℕ → List ℕ
legal_part p w = take (legal_length p w) w

-- where the DOCTYPE's text lies that is read
module _ (D : Dialect) where
  abbrev pub read_after : ℕ → List ℕ → DoctypeText
  read_after k w = pick (starts (ascii "<!DOCTYPE") w) (from_to (k + 9) (k + 9 + (taken (read_doctype_text D (drop 9 w)) - 1))) no_doctype

  unfoldable pub find_doctype : List ℕ → DoctypeText
  find_doctype w = read_after (taken (read_opening D w)) (drop (taken (read_opening D w)) w)

-- The parts of the whole DOCTYPE, its agreement with the grammar, and its places. Assumes nothing.
use mathlib.Core.Path.{◌≡◌, sym}
use mathlib.Core.Bool.{Bool, true, false, ◌||◌}
use mathlib.Core.List.{List}
use Prim.Native.Nat.{ℕ}
use borrow.Author.Rules.{rules}
use lib.ListN.{drop}
use Rattle.spec.specs.Grammar.Languages.{ascii}
use Rattle.spec.specs.Grammar.Doctype.{doctypedecl}
use Rattle.spec.specs.Grammar.Names.{Dialect, AsciiNames}
use Rattle.spec.specs.Reading.Readers.{◌>>◌, nothing, number_of, starts, choose}
use Rattle.spec.specs.Promises.{ChecksDoctype}
use Rattle.spec.specs.Reading.Dtd.{skip_s, parse_external_id, check_doctype}
use Rattle.spec.specs.Reading.Source.{checked}
use Rattle.spec.proofs.Division.Promised.{doctype_promise}
use Rattle.spec.proofs.Dtd.Texts.{doctype_agrees}
use Rattle.spec.proofs.Inside.Checks.{Placed, doctype_placed}
use Rattle.std.specs.Prelude.{IsErrAnd}
use Rattle.std.specs.Result.{result_from_control_flow}
use Rattle.std.proofs.Common.{Break, Continue}
use Rattle.error.specs.Read.{Said, Verdict, code, read}
use Rattle.source.proofs.Admitting.{call_left, call_passed}
use Rattle.source.proofs.Placing.{stopping}
use Rattle.classes.specs.Classes.{dialect}
use Rattle.classes.specs.declared.Names.{Names}
use Rattle.classes.proofs.ClassLaws.{dialect_ascii}
use Rattle.cursor.proofs.Reading.{reading}
use Rattle.dtd.specs.Parts.{id_part}
use Rattle.dtd.proofs.Ending.{read_last, read_ended}

-- an external identifier stands at a place, by either of its words, or none does
module _ (s : List ℕ) (at : ℕ) (a b : Bool) (e : a ≡ starts (ascii "SYSTEM") (drop at s)) (f : b ≡ starts (ascii "PUBLIC") (drop at s)) (q : Said) where
  pub id_yes : (a || b) ≡ true → q ≡ read (parse_external_id >> skip_s) s at → q ≡ read id_part s at
  unfolding read choose id_part
  id_yes g h = rw (sym e, sym f, g) h

  pub id_no : (a || b) ≡ false → q ≡ read nothing s at → q ≡ read id_part s at
  unfolding read choose id_part
  id_no g h = rw (sym e, sym f, g) h

-- the public call by any edition's names, after admit, as `?` has it: r is what stands in front, b where it goes on or leaves, and q what is
-- answered in the end
module _ (names : Names) (w : List ℕ) (r : Verdict) (e : code r ≡ checked nothing w) where
  abbrev D : Dialect
  D = dialect names

  abbrev A : AsciiNames D
  A = dialect_ascii names

  pub doctype_left : (b : _) (f : _) (q : Verdict) → r ≡ result_from_control_flow b → b ≡ Break f → IsErrAnd q (λ y. y ≡ f.0) → ChecksDoctype D w (code q)
  doctype_left b f q g h k = doctype_promise D A w (code q) (call_left (check_doctype D) (doctypedecl D) w r e b f q g h k (doctype_agrees D A))

  pub doctype_passed : (b : _) (u : Unit {0}) (q : Verdict) → r ≡ result_from_control_flow b → b ≡ Continue u → code q ≡ number_of (check_doctype D w) → ChecksDoctype D w (code q)
  doctype_passed b u q g h k = doctype_promise D A w (code q) (call_passed (check_doctype D) (doctypedecl D) w r e b u q g h (doctype_agrees D A) k)

-- and its places lie within the text
pub whole_placed : (names : Names) → Placed (check_doctype (dialect names))
whole_placed names = doctype_placed (dialect names)

-- what the parts search, and the public calls
pub ruleset parts_read = (id_yes, id_no, read_last, reading)

pub ruleset ending = (read_ended, reading)

pub ruleset whole = (doctype_left, doctype_passed, rules)

pub ruleset located = (stopping, whole_placed)

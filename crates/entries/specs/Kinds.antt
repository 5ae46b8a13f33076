-- The code's kinds of entries, and what is asked of a kind. Assumes nothing.
use Rattle.std.specs.Prelude.{Bool, ◌||◌, Option, Some, None, ℕ, zero, suc, length}
use Rattle.spec.specs.Grammar.Division as Division
use Rattle.spec.specs.Grammar.Division.{refers, keyword}
use Rattle.spec.specs.Grammar.Languages.{ascii}
use Rattle.entries.specs.declared.kinds.Kind.{Kind}
use Rattle.entries.specs.declared.kinds.Kind.TheVariants.{Element, Attlist, Entity, Notation, Instruction, Comment, Reference}

unfoldable pub kind_of : Kind → Division.Kind
kind_of Element = Division.element
kind_of Attlist = Division.attlist
kind_of Entity = Division.entity
kind_of Notation = Division.notation
kind_of Instruction = Division.instruction
kind_of Comment = Division.comment
kind_of Reference = Division.reference

-- the bytes of a declaration's keyword; none for what is no declaration
unfoldable pub keyword_size : Division.Kind → ℕ
keyword_size k = length (ascii (keyword k))

-- a size as the code has it: `None` for 0, which is the size of nothing
unfoldable pub some_bytes : ℕ → Option ℕ
some_bytes zero = None
some_bytes (suc n) = Some (suc n)

-- whether a parameter-entity reference came before what follows an entry of this kind, by whether one came before it
unfoldable pub referred : Bool → Division.Kind → Bool
referred pe k = refers k || pe

-- Laws of an entry's kind and end. Assumes nothing.
use mathlib.Core.Path.{◌≡◌, sym, ◌∙◌}
use mathlib.Core.Bool.{Bool, true, false}
use mathlib.Core.List.{List}
use Prim.Native.Nat.{ℕ}
use borrow.Author.Rules.{rules}
use lib.ListN.{drop}
use Rattle.std.specs.Prelude.{Option}
use Rattle.spec.specs.Grammar.Languages.{ascii}
use Rattle.spec.specs.Reading.Entries.{kind_at}
use Rattle.spec.specs.Reading.Readers.{starts}
use Rattle.error.proofs.Laws.{chain}
use Rattle.entries.specs.Kinds.{kind_of, keyword_size, some_bytes, referred}
use Rattle.entries.specs.declared.kinds.Kind.{Kind}
use Rattle.entries.specs.declared.kinds.Kind.TheVariants.{Element, Attlist, Entity, Notation, Instruction, Comment, Reference}

-- Each test says whether its word stands at the place.
module _ (s : List ℕ) (at : ℕ) (t₁ : Bool) (e₁ : t₁ ≡ starts (ascii "<?") (drop at s)) where
  pub kind_instruction : t₁ ≡ true → kind_of Instruction ≡ kind_at (drop at s)
  unfolding kind_of kind_at
  kind_instruction f = rw (sym e₁ ∙ f)

  module _ (f₁ : t₁ ≡ false) (t₂ : Bool) (e₂ : t₂ ≡ starts (ascii "<!--") (drop at s)) where
    pub kind_comment : t₂ ≡ true → kind_of Comment ≡ kind_at (drop at s)
    unfolding kind_of kind_at
    kind_comment f = rw (sym e₁ ∙ f₁, sym e₂ ∙ f)

    module _ (f₂ : t₂ ≡ false) (t₃ : Bool) (e₃ : t₃ ≡ starts (ascii "<!ELEMENT") (drop at s)) where
      pub kind_element : t₃ ≡ true → kind_of Element ≡ kind_at (drop at s)
      unfolding kind_of kind_at
      kind_element f = rw (sym e₁ ∙ f₁, sym e₂ ∙ f₂, sym e₃ ∙ f)

      module _ (f₃ : t₃ ≡ false) (t₄ : Bool) (e₄ : t₄ ≡ starts (ascii "<!ATTLIST") (drop at s)) where
        pub kind_attlist : t₄ ≡ true → kind_of Attlist ≡ kind_at (drop at s)
        unfolding kind_of kind_at
        kind_attlist f = rw (sym e₁ ∙ f₁, sym e₂ ∙ f₂, sym e₃ ∙ f₃, sym e₄ ∙ f)

        module _ (f₄ : t₄ ≡ false) (t₅ : Bool) (e₅ : t₅ ≡ starts (ascii "<!ENTITY") (drop at s)) where
          pub kind_entity : t₅ ≡ true → kind_of Entity ≡ kind_at (drop at s)
          unfolding kind_of kind_at
          kind_entity f = rw (sym e₁ ∙ f₁, sym e₂ ∙ f₂, sym e₃ ∙ f₃, sym e₄ ∙ f₄, sym e₅ ∙ f)

          module _ (f₅ : t₅ ≡ false) (t₆ : Bool) (e₆ : t₆ ≡ starts (ascii "<!NOTATION") (drop at s)) where
            pub kind_notation : t₆ ≡ true → kind_of Notation ≡ kind_at (drop at s)
            unfolding kind_of kind_at
            kind_notation f = rw (sym e₁ ∙ f₁, sym e₂ ∙ f₂, sym e₃ ∙ f₃, sym e₄ ∙ f₄, sym e₅ ∙ f₅, sym e₆ ∙ f)

            pub kind_reference : t₆ ≡ false → kind_of Reference ≡ kind_at (drop at s)
            unfolding kind_of kind_at
            kind_reference f = rw (sym e₁ ∙ f₁, sym e₂ ∙ f₂, sym e₃ ∙ f₃, sym e₄ ∙ f₄, sym e₅ ∙ f₅, sym e₆ ∙ f)

-- what is asked of a kind, case by case; each case computes
module _ (kind k : Kind) (e : kind ≡ k) where
  pub size_is : (r : Option ℕ) → r ≡ some_bytes (keyword_size (kind_of k)) → r ≡ some_bytes (keyword_size (kind_of kind))
  size_is r f = rw (e, f)

  pub referred_is : (pe t : Bool) → t ≡ referred pe (kind_of k) → t ≡ referred pe (kind_of kind)
  referred_is pe t f = rw (e, f)

pub ruleset kinds = (kind_instruction, kind_comment, kind_element, kind_attlist, kind_entity, kind_notation, kind_reference, rules)

pub ruleset ends = (chain, rules)

pub ruleset sizes = (size_is, referred_is, rules)

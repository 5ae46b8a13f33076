-- Of two dialects one holds the other: then it derives every document that the other does, up to the root's name. Assumes nothing.
use mathlib.Core.Bool.{Bool}
use mathlib.Core.List.{List}
use Prim.Native.Nat.{ℕ}
use Rattle.spec.specs.Grammar.Names.{Dialect}
use Rattle.spec.specs.Grammar.Prolog.{prolog, tag, Begins, Document}
use Rattle.spec.proofs.Agreement.Wider.{◌⊑◌, same, ◌··◌, ◌∣∣◌, star, also}
use Rattle.spec.proofs.Dtd.Wider.{Wider, name_wider, misc_wider, doctype_wider}

module _ {D E : Dialect} (W : Wider D E) where
  prologs : prolog D ⊑ prolog E
  prologs = (same ·· star (misc_wider W)) ·· (((same ·· also (doctype_wider W) same ·· same) ·· star (misc_wider W)) ∣∣ same)

  tags : tag D ⊑ tag E
  unfolding tag
  tags = same ·· name_wider W

  begun : {p : ℕ → Bool} {w : List ℕ} → Begins D p w → Begins E p w
  begun b = record {
    front = b.front;
    root = b.root;
    rest = b.rest;
    split = b.split;
    is_prolog = prologs.into b.front b.is_prolog;
    is_tag = tags.into b.root b.is_tag;
    legal = b.legal;
  }

  -- the XML declaration has no names, so the encoding is the same
  pub document_wider : Document D ⊑ Document E
  unfolding begun prologs ◌··◌ same
  document_wider = record { into = λ w d. record { begins = begun d.begins; coded = d.coded } }

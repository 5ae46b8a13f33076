-- The entries of the internal subset, one after the other, as the order of reading meets them. Bodies are only delimited, as they are after
-- a parameter-entity reference: where a text is accepted, each ends where it is delimited, so that none has to be read again. Assumes
-- nothing.
use Rattle.std.specs.Prelude.{true, List, [], ◌∷◌, ℕ, zero, suc, ◌+◌, length, drop}
use Rattle.spec.specs.Basics.{pick}
use Rattle.spec.specs.Grammar.Characters.{space}
use Rattle.spec.specs.Grammar.Division.{Kind, element, attlist, entity, notation, instruction, comment, reference, Entry}
use Rattle.spec.specs.Grammar.Languages.{ascii}
use Rattle.spec.specs.Grammar.Names.{Dialect}
use Rattle.spec.specs.Reading.Refusals.{too_deep}
use Rattle.spec.specs.Reading.Dtd.{parse_pe_reference, parse_markup_decl}
use Rattle.spec.specs.Reading.Places.{Place, at, nowhere}
use Rattle.spec.specs.Reading.Readers.{Result, ok, err, Reader, starts, on, run}
use Rattle.spec.specs.Reading.Scan.{subset_open}

-- the kind, by what an entry begins with: the words of parse_markup_decl, in its order
unfoldable pub kind_at : List ℕ → Kind
kind_at w =
    pick (starts (ascii "<?") w) instruction
    (pick (starts (ascii "<!--") w) comment
    (pick (starts (ascii "<!ELEMENT") w) element
    (pick (starts (ascii "<!ATTLIST") w) attlist
    (pick (starts (ascii "<!ENTITY") w) entity
    (pick (starts (ascii "<!NOTATION") w) notation reference)))))

module _ (D : Dialect) where
  -- one entry, [69] PEReference or [29] markupdecl: parse_internal_subset by the next sign, with pe_used
  abbrev pub one_entry : Reader
  one_entry = on "%" (parse_pe_reference D) (parse_markup_decl D too_deep true)

  -- an entry that begins at this place, where x is left, and those after it; none where no entry begins
  abbrev pub listed : (ℕ → List ℕ → List Entry) → ℕ → List ℕ → Result → List Entry
  listed rest place x (ok k) = record { kind = kind_at x; first = place; past = place + k } ∷ rest (place + k) (drop k x)
  listed rest place x (err n j) = []

  -- the loop of parse_internal_subset, white space first; each turn takes a byte or more, so the fuel lasts
  unfoldable pub entries_fuel : ℕ → ℕ → List ℕ → List Entry
  entries_fuel zero place w = []
  entries_fuel (suc d) place w =
      listed (entries_fuel d) (place + run space w) (drop (run space w) w) (one_entry (drop (run space w) w))

  -- the entries from a place on, where w is left
  unfoldable pub entries_from : ℕ → List ℕ → List Entry
  entries_from place w = entries_fuel (suc (length w)) place w

  -- the entries of a DOCTYPE's text: those after the '[' of subset_open; none where there is none
  abbrev pub from_open : List ℕ → Place → List Entry
  from_open w (at i) = entries_from (i + 1) (drop (i + 1) w)
  from_open w nowhere = []

  unfoldable pub declarations : List ℕ → List Entry
  declarations w = from_open w (subset_open w)

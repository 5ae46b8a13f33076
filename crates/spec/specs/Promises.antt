-- The promises of the public calls. Assumes nothing.
use Rattle.std.specs.Prelude.{◌≡◌, ◌↔◌, ◌⊎◌, Bool, true, false, List, ℕ, ◌≤◌, T, length, take}
use Rattle.spec.specs.Basics.{limit}
use Rattle.spec.specs.Grammar.Characters.{Text}
use Rattle.spec.specs.Grammar.Division.{Front, Division}
use Rattle.spec.specs.Grammar.Doctype.{doctypedecl}
use Rattle.spec.specs.Grammar.Languages.{Lang}
use Rattle.spec.specs.Grammar.Names.{Dialect}
use Rattle.spec.specs.Premise.{bare, premise, promised}
use Rattle.spec.specs.Reading.Dtd.{check_doctype}
use Rattle.spec.specs.Reading.Readers.{Reader, nothing}
use Rattle.spec.specs.Reading.Scan.{Scan, not_opened}
use Rattle.spec.specs.Reading.Source.{checked, checked_at}

-- a text that may be looked at, and that the grammar derives
abbrev pub Accepted : Lang → List ℕ → Type 0
Accepted L w = (length w ≤ limit) × L w

-- a check answers with n: the number of the order of reading, 1 and 2 included; 0 exactly for what the grammar derives
pub record Checks (rule : Reader) (L : Lang) (w : List ℕ) (n : ℕ) : Type 0 where
  pub number : n ≡ checked rule w
  pub grammar : (n ≡ 0) ↔ Accepted L w

-- a check answers with n and the place p: both are the order of reading's, 1 and 2 included; the place lies within the text, and is its
-- end where the text is accepted
pub record Stops (rule : Reader) (w : List ℕ) (n p : ℕ) : Type 0 where
  pub number : n ≡ checked rule w
  pub place : p ≡ checked_at rule w
  pub within : p ≤ length w
  pub whole : n ≡ 0 → p ≡ length w

-- a yes-or-no call answers with n and yes: n is 1 or 2, which come with no, or 0
pub record Tells (L : Lang) (w : List ℕ) (n : ℕ) (yes : Bool) : Type 0 where
  pub number : n ≡ checked nothing w
  pub answer : (yes ≡ true) ↔ Accepted L w

module _ (D : Dialect) where
  -- the division of a text that is answered with n: accepted is what has no subset or a division, never both; and any two divisions
  -- are the same list, after the same '[' and before the same ']'
  pub record Divides (w : List ℕ) (n : ℕ) : Type 0 where
    pub parted : (n ≡ 0) ↔ Accepted (λ t. Front D t ⊎ Division D t) w
    pub not_both : Front D w → Division D w → ⊥
    pub only_one : (a b : Division D w) → (a.entries ≡ b.entries) × (a.opening ≡ b.opening) × (a.closing ≡ b.closing)

  -- check_doctype answers with n: as any check, and with the division of what it accepts
  pub record ChecksDoctype (w : List ℕ) (n : ℕ) : Type 0 where
    pub number : n ≡ checked (check_doctype D) w
    pub grammar : (n ≡ 0) ↔ Accepted (doctypedecl D) w
    pub division : Divides w n

  -- a DOCTYPE's text, between '<!DOCTYPE' and its '>', that demand 3 speaks of: it has no subset, or a division whose entries meet the
  -- premise. (By `parted` an accepted text has no subset or a division, and a text that has is accepted, if it is not too long.)
  pub data Covered (t : List ℕ) : Type 0 where
    no_subset : Front D t → Covered t
    has_subset : (d : Division D t) → T (premise D bare t false d.entries) → Covered t

  -- what the scan must say of the front part of it that a cut leaves
  abbrev pub expected : {t : List ℕ} → Covered t → ℕ → Scan
  expected (no_subset f) cut = not_opened
  expected (has_subset d p) cut = promised d.opening d.closing cut

  -- demand 3: what the scan says of w, wherever w is the front part of such a text t, cut between two characters or whole
  abbrev pub Cuts : List ℕ → (Scan → Type 0) → Type 0
  Cuts w Says = (t : List ℕ) (cut : ℕ) → w ≡ take cut t → Accepted Text w → (c : Covered t) → Says (expected c cut)

-- What the code says of the encoding that is named. Assumes nothing: these are definitions.
use Rattle.std.specs.Prelude.{◌≡◌, Option, Some, None, List, ℕ, ◌-◌, ◌≤◌, length, take, drop}
use Rattle.spec.specs.Grammar.Encodings.{Encoding, unnamed, named}
use Rattle.spec.specs.Grammar.Languages.{ascii}
use Rattle.spec.specs.Reading.Readers.{before}
use Rattle.source.specs.declared.Span.{Span}

-- none, or the text between two places of x
unfoldable pub told : List ℕ → Option Span → Encoding
told x None = unnamed
told x (Some n) = named n.start (take (n.end - n.start) (drop n.start x))

-- the text of the declaration that x begins with: what stands between its "<?" and its "?>"
abbrev pub declared_text : List ℕ → List ℕ
declared_text x = take (before (ascii "?>") (drop 2 x)) (drop 2 x)

-- it ends at r
pub record Declared (x : List ℕ) (r : ℕ) : Type 0 where
  pub within : r ≤ length x
  pub text : drop 2 (take r x) ≡ declared_text x

-- where a name begins, and how long it is
abbrev pub start_of : Option Span → ℕ
start_of None = 0
start_of (Some n) = n.start

abbrev pub size_of : Option Span → ℕ
size_of None = 0
size_of (Some n) = n.end - n.start

-- r says the encoding e, within the text t
pub record Names (t : List ℕ) (e : Encoding) (r : Option Span) : Type 0 where
  pub says : told t r ≡ e
  pub lies : size_of r ≤ length t - start_of r

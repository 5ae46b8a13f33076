-- Each refusal has a number of its own, so that a promise about the number fixes the refusal. Assumes nothing.
use mathlib.Core.Path.{◌≡◌, refl, sym, ap, ◌∙◌}
use mathlib.Core.List.{List, [], ◌∷◌}
use Prim.Native.Nat.{ℕ, ◌-◌}
use lib.ListN.{get_or}
use Rattle.spec.specs.Reading.Refusals.{number}
use Rattle.error.specs.Read.{reason}
use Rattle.error.specs.declared.refusal.Refusal.{Refusal}
use Rattle.error.specs.declared.refusal.Refusal.TheVariants.{TooLong, NotUtf8, NoSpace, BadName, HasColon, NoLiteral, Unterminated, Unexpected, Trailing, BadPubid, ReservedTarget, DoubleHyphen, BadConnector, LessThan, BadReference, IllegalReference, BadValue, IllegalChar, SectionEnd, TooDeep, OutOfOrder}

-- the refusals in the order of their numbers, and the refusal of a number; what is no number of one does not count
in_order : List Refusal
in_order = TooLong ∷ NotUtf8 ∷ NoSpace ∷ BadName ∷ HasColon ∷ NoLiteral ∷ Unterminated ∷ Unexpected ∷ Trailing ∷ BadPubid ∷ ReservedTarget ∷ DoubleHyphen ∷ BadConnector ∷ LessThan ∷ BadReference ∷ IllegalReference ∷ BadValue ∷ IllegalChar ∷ SectionEnd ∷ TooDeep ∷ OutOfOrder ∷ []

numbered : ℕ → Refusal
numbered n = get_or in_order (n - 1) TooLong

numbered_is : (r : Refusal) → numbered (number (reason r)) ≡ r
unfolding numbered in_order
numbered_is TooLong = refl
numbered_is NotUtf8 = refl
numbered_is NoSpace = refl
numbered_is BadName = refl
numbered_is HasColon = refl
numbered_is NoLiteral = refl
numbered_is Unterminated = refl
numbered_is Unexpected = refl
numbered_is Trailing = refl
numbered_is BadPubid = refl
numbered_is ReservedTarget = refl
numbered_is DoubleHyphen = refl
numbered_is BadConnector = refl
numbered_is LessThan = refl
numbered_is BadReference = refl
numbered_is IllegalReference = refl
numbered_is BadValue = refl
numbered_is IllegalChar = refl
numbered_is SectionEnd = refl
numbered_is TooDeep = refl
numbered_is OutOfOrder = refl

pub number_inj : (r q : Refusal) → number (reason r) ≡ number (reason q) → r ≡ q
number_inj r q e = sym (numbered_is r) ∙ ap numbered e ∙ numbered_is q

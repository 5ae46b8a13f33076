-- `chars::digits::read_digits` meets its contract. The invariant: the digits from `at` on end where those from i on do, and v stands for those before i.
-- Assumes nothing.
use Rattle.chars.proofs.DigitRuns.{DigitsLeft}
use Rattle.chars.proofs.digits.read_digits.Given as goal

abbrev pub invariant-loop-i : goal.invariant-loop-i
invariant-loop-i g l = DigitsLeft g.B.Base.BASE (g.B.Class.class l.base) l.s l.at l.i l.value

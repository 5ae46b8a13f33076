-- A character reference in the code: its end, or what is wrong with it. Assumes nothing.
use Rattle.std.specs.Prelude.{ℕ, Result, Ok, Err}
use Rattle.error.specs.Read.{Said, passed, refused, reason}
use Rattle.error.specs.declared.refusal.Refusal.{Refusal}

-- what each case says at the place where the reference begins: a bad one is refused there
unfoldable pub reference_said : Result ℕ Refusal → ℕ → Said
reference_said (Ok e) at = passed e
reference_said (Err r) at = refused (reason r) at

-- The exit of a `?`: r is what was answered, b where `?` goes on or leaves, and q what is handed up where it leaves. What a law says of the
-- fault that was met holds of what is handed up. Assumes nothing.
use mathlib.Core.Path.{◌≡◌}
use Rattle.std.specs.Prelude.{Err, IsErrAnd}
use Rattle.std.specs.Result.{result_from_control_flow}
use Rattle.std.proofs.Common.{Break}
use Rattle.std.proofs.lemmas.Result.{err_from_is_err_and}
use Rattle.error.specs.Read.{Said, Answer, said}

pub handed_up : (r q : Answer) (b : _) (f : _) (W : Said) → b ≡ Break f → r ≡ result_from_control_flow b → IsErrAnd q (λ y. y ≡ f.0) → said (Err f.0) ≡ W → said q ≡ W
handed_up r q b f W g h e a = let p = err_from_is_err_and q e in rw (p.1, p.2) a

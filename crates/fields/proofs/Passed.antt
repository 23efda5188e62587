-- What `?` passes on is the refusal that came. Assumes nothing.
use mathlib.Core.Path.{◌≡◌, ap}
use Rattle.std.specs.Prelude.{Result, Ok, Err}
use Rattle.std.specs.Result.{IsErrAnd}
use Rattle.definitions.specs.declared.refusal.Refusal.{Refusal}

pub passed : {T : Type 0} (r : Result T Refusal) (e : Refusal) → IsErrAnd r (λ x. x ≡ e) → r ≡ Err e
passed (Ok x) e h = absurd h
passed (Err d) e h = ap Err h

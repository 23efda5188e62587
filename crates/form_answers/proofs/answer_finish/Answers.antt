-- `form_answers::answer_finish` meets its contract. Assumes nothing.
use native.Mathlib.Omega.{arith}
use mathlib.Core.List.{[], ◌∷◌}
use Rattle.definitions.specs.Program.{finished}
use Rattle.definitions.specs.Refusals.{number_of}
use Rattle.form_answers.proofs.Replying.{answered_one, answered_refused, was_done, was_refused}
use Rattle.form_answers.proofs.answer_finish.Goals as goal

pub returns-in-Ok : goal.returns-in-Ok
returns-in-Ok c =
    let k = c.in-Ok.ensures in
    answered_one finished (was_done (finished ∷ []) k.answer) (omega arith) c.put_finished.ensures k.memory

pub returns-in-Err : goal.returns-in-Err
returns-in-Err c =
    let k = c.in-Err.ensures in
    answered_refused (number_of c.in-Err.refusal) (was_refused c.in-Err.refusal (finished ∷ []) k.answer) c.put_refused.ensures k.memory

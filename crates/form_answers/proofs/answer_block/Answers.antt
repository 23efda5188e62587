-- `form_answers::answer_block` meets its contract. Assumes nothing.
use native.Mathlib.Omega.{arith}
use mathlib.Core.List.{[], ◌∷◌}
use Rattle.definitions.specs.Program.{taken}
use Rattle.definitions.specs.Refusals.{number_of}
use Rattle.form_answers.proofs.Replying.{answered_one, answered_refused, was_done, was_refused}
use Rattle.form_answers.proofs.answer_block.Goals as goal

pub returns-in-Ok : goal.returns-in-Ok
returns-in-Ok c =
    let k = c.in-Ok.ensures in
    answered_one taken (was_done (taken ∷ []) k.answer) (omega arith) c.put_taken.ensures k.memory

pub returns-in-Err : goal.returns-in-Err
returns-in-Err c =
    let k = c.in-Err.ensures in
    answered_refused (number_of c.in-Err.refusal) (was_refused c.in-Err.refusal (taken ∷ []) k.answer) c.put_refused.ensures k.memory

-- `memory_header::open` meets its contract: whether the memory has room for the capacity decides. Assumes nothing.
use mathlib.Core.Path.{ap, ◌∙◌}
use Rattle.memory_header.specs.Opening.{fresh_memory}
use Rattle.memory_header.proofs.Opening.{open_refused, open_taken}
use Rattle.memory_header.proofs.open.Goals as goal

pub returns-in_default-clause-answer : goal.returns-in_default-clause-answer
returns-in_default-clause-answer c = (open_refused c.args.mem.now _ c.in_default.ensures).0

pub returns-in_default-clause-memory : goal.returns-in_default-clause-memory
returns-in_default-clause-memory c = (open_refused c.args.mem.now _ c.in_default.ensures).1

pub returns-clause-answer : goal.returns-clause-answer
returns-clause-answer c = (open_taken c.args.mem.now _ c.in-Some.ensures.1).0

pub returns-clause-memory : goal.returns-clause-memory
returns-clause-memory c =
    let m = c.args.mem.now in
    let e = c.in-Some.ensures.0 in
    (rw c.number.ensures at c.put_header.ensures) ∙ ap (fresh_memory m) e ∙ (open_taken m _ c.in-Some.ensures.1).1

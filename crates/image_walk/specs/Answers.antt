-- What the answers of the code mean. Assumes nothing.
use Rattle.std.specs.Prelude.{ℕ, Some, None, Option as Answer}
use Rattle.std.proofs.Math.Option.{Option, none, some}
use Rattle.image_format.specs.Held.{Entry}
use Rattle.image_walk.specs.declared.Entry.{Entry as EntryRead}

-- where a child stands
abbrev pub child_of_answer : Answer ℕ → Option ℕ
child_of_answer (Some at) = some at
child_of_answer None = none

-- what a place of a table holds
abbrev pub entry_of_answer : Answer EntryRead → Option Entry
entry_of_answer (Some e) = some (record { byte = e.byte; node = e.node })
entry_of_answer None = none

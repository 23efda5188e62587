-- What the answers of the code mean, and what its functions ask of each other. Assumes nothing.
use Rattle.std.specs.Prelude.{ℕ, Option, None, Some, Result, Ok, Err}
use Rattle.definitions.specs.declared.refusal.Refusal.{Refusal}
use Rattle.definitions.specs.Refusals.{number_of}
use Rattle.kinds.specs.Kinds.{kind_number}
use Rattle.image_format.specs.Reading.{ListRead, past, cut, HeadRead, head, no_head, Table, TableRead, table, no_table, Slot, offset, skip, Turn, child, gap, none_due, wrong, Step, done, fault, Layout, right, refused}
use Rattle.fields.specs.declared.Counts.{Counts}
use Rattle.fields.specs.declared.Past.{Past}
use Rattle.fields.specs.declared.ListEnd.{ListEnd}
use Rattle.fields.specs.declared.Head.{Head}
use Rattle.fields.specs.declared.children.Children.{Children}
use Rattle.fields.specs.declared.Due.{Due}
use Rattle.fields.specs.declared.Due.TheVariants as due

-- the layout is right, with so many nodes and entries; or the image is refused, with document 01's number
abbrev pub layout_of : Result Counts Refusal → Layout
layout_of (Ok t) = right t.nodes t.entries
layout_of (Err r) = refused (number_of r)

-- a node or the children of one: read up to an index, or refused
abbrev pub step_of : Result Past Refusal → Step
step_of (Ok p) = done p.at 1 p.nodes p.entries
step_of (Err r) = fault (number_of r)

-- a list: where it ends and its entries, or cut short
abbrev pub list_of : Result ListEnd Refusal → ListRead
list_of (Ok l) = past l.at l.entries
list_of (Err r) = cut

abbrev pub head_of : Result Head Refusal → HeadRead
head_of (Ok h) = head (kind_number h.kind) h.at h.entries
head_of (Err r) = no_head (number_of r)

abbrev pub table_in : Children → Table
table_in c = record { kind = c.kind; base = c.base; count = c.count; start = c.start; turns = c.turns }

abbrev pub table_of : Result Children Refusal → TableRead
table_of (Ok c) = table (table_in c)
table_of (Err r) = no_table (number_of r)

abbrev pub slot_of : Option ℕ → Slot
slot_of (Some off) = offset off
slot_of None = skip

abbrev pub due_of : Due → Turn
due_of due.Child = child
due_of due.Gap = gap
due_of due.Nothing = none_due

abbrev pub turn_of : Result Due Refusal → Turn
turn_of (Ok d) = due_of d
turn_of (Err r) = wrong (number_of r)

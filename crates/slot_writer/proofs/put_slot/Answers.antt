-- `slot_writer::put_slot` meets its contract. Assumes nothing.
use Prim.Native.Nat.{ℕ, ◌-◌}
use mathlib.Core.Path.{◌∙◌, ap}
use mathlib.Core.List.{List}
use lib.ListN.{set}
use Rattle.words.proofs.Parts.{set_le64_sets}
use Rattle.slot_writer.proofs.put_slot.Goals as goal

pub returns : goal.returns
returns c = ap (λ (x : List ℕ). set x c.args.at c.args.flag) (c.put64.ensures ∙ set_le64_sets c.args.mem.now c.args.to (c.args.at - 64))

-- `image_walk::child_in` meets its contract: kind 1 by the slot of the byte, kinds 2 and 3 along the entries. Assumes nothing.
use Rattle.std.proofs.Common.{rules, ◌<◌, arith, ◌≡◌, subst, ap, ◌∙◌, Some, None, Option, option_map, refl}
use Rattle.image_walk.specs.Answers.{child_of_answer, entry_of_answer}
use Rattle.image_walk.specs.Bounds.{TableHere}
use Rattle.image_walk.specs.declared.Entry.{Entry}
use Rattle.image_walk.proofs.Entries.{node_of, dense_child}
use Rattle.image_walk.proofs.child_in.Goals as goal

-- the node of an entry that is there
mapped : (o : Option Entry) → child_of_answer (option_map (λ e. e.node) o) ≡ node_of (entry_of_answer o)
mapped None = refl
mapped (Some e) = refl

pub dense_slot-requires : goal.dense_slot-requires
dense_slot-requires c = (subst (TableHere c.args.s.now c.args.table.at) c.if-table-eq-DENSE_ENTRIES.true c.requires, omega arith)

pub returns-then-table-eq-DENSE_ENTRIES : goal.returns-then-table-eq-DENSE_ENTRIES
returns-then-table-eq-DENSE_ENTRIES c =
    let a = c.args in
    let b : a.byte < 256 = omega arith in
    let m : c.map.result ≡ option_map (λ e. e.node) c.dense_slot.result = search rules in
    rw c.if-table-eq-DENSE_ENTRIES.true (ap child_of_answer m ∙ mapped c.dense_slot.result ∙ ap node_of c.dense_slot.ensures ∙ dense_child a.s.now a.table.at a.byte b)

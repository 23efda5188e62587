-- `location_lists::step_over` meets its contract: stepping over the key in what is left of the lists gives what it gives in all. Assumes nothing.
use Rattle.std.proofs.Common.{◌∙◌, sym, arith}
use Rattle.std.proofs.lemmas.List.{set-get_or}
use Rattle.location.specs.Plain.{plain}
use Rattle.location_lists.proofs.Walk.{next_ended, next_other, stepping_over, stepping_past}
use Rattle.location_lists.proofs.step_over.Goals as goal
use Rattle.location_lists.proofs.step_over.Goals.{then-list+then-is_at, else-list, else-list-via-then-list+else-is_at, else-list-via-else-list}

pub loop-list-preserved : goal.loop-list-preserved
loop-list-preserved c =
    let a = c.args in
    let o = c.loop-list in
    let key = plain a.key in
    let past = stepping_past a.s.now key a.lists.now o.lists o.met o.list-index o.invariant c.loop-list-test.true in
    elim c.if-list.branch [
      | then-list+then-is_at w ↦
          rw (w.lists-is, w.met-is) (stepping_over a.s.now key a.lists.now o.lists o.met o.list-index o.invariant c.loop-list-test.true w.if-list.true (sym w.is_at.ensures ∙ w.if-is_at.true))
      | else-list w ↦
          rw (w.lists-is, w.met-is)
          elim w.else-list.branch [
            | else-list-via-then-list+else-is_at v ↦ rw (v.lists-is, set-get_or) (past (next_other _ _ _ (sym v.is_at.ensures ∙ v.if-is_at.false)))
            | else-list-via-else-list v ↦ rw (v.lists-is, set-get_or) (past (next_ended _ _ _ (omega (arith, v.if-list.false))))
          ]
    ]

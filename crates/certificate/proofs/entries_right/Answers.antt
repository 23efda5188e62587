-- `certificate::entries_right` meets its contract: the entries before i pass. Assumes nothing.
use native.Mathlib.Omega.{arith}
use mathlib.Core.Path.{sym, ◌∙◌}
use Rattle.certificate.specs.Entries.{entry_right}
use Rattle.certificate.proofs.All.{all_start, all_next, all_fails}
use Rattle.certificate.proofs.entries_right.Goals as goal

pub loop-i-init : goal.loop-i-init
loop-i-init c = let a = c.args in all_start (entry_right a.mem.now a.base a.pieces)

pub returns-then-not-entry_right : goal.returns-then-not-entry_right
returns-then-not-entry_right c =
    let a = c.args in
    sym (all_fails (entry_right a.mem.now a.base a.pieces) a.n c.loop-i.i (omega arith) (sym c.entry_right.ensures ∙ c.if-not-entry_right.true))

pub loop-i-preserved : goal.loop-i-preserved
loop-i-preserved c =
    let a = c.args in
    all_next (entry_right a.mem.now a.base a.pieces) c.loop-i.i c.loop-i.invariant (sym c.entry_right.ensures ∙ c.if-not-entry_right.false)

-- `ordering::shift` meets its contract: the entries from number k on are moved, those before it are as they were. Assumes nothing.
use Rattle.std.proofs.Common.{rules, ℕ, ◌<◌, ◌-◌, ◌∙◌, get_or, arith}
use Rattle.ordering.proofs.Writes.{moved_turn}
use Rattle.ordering.proofs.shift.Goals as goal

pub loop-k-preserved : goal.loop-k-preserved
loop-k-preserved c =
    let a = c.args in
    let inv = c.loop-k.invariant in
    let k = c.loop-k.k in
    let bytes : (j : ℕ) → get_or a.mem.now j 0 < 256 = λ j. search rules in (
      omega arith,
      c.put_entry.auto.mem ∙ inv.1,
      moved_turn a.mem.now bytes a.base (k - 1) k a.upto a.by (omega arith) (omega arith) c.requires.1 c.loop-k.mem c.put_entry.new.mem c.get64-number.result c.get64-end.result inv.2 c.get64-number.ensures c.get64-end.ensures c.put_entry.ensures,
    )

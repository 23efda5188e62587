-- `single_writer::put_singles` meets its contract: what is written below the nodes so far completes the whole. Assumes nothing.
use Prim.Native.Nat.{ℕ, ◌+◌, ◌-◌}
use mathlib.Core.Path.{◌≡◌}
use mathlib.Core.List.{List}
use lib.ListN.{length}
use Rattle.list_writer.specs.declared.End.{End}
use Rattle.single_writer.specs.Nodes.{SpanAsked, SpanWritten}
use Rattle.single_writer.proofs.put_singles.Given as goal

abbrev pub invariant-loop-mem : goal.invariant-loop-mem
invariant-loop-mem l =
    SpanAsked l.mem l.work l.i (l.i + 1) l.k l.end (16 - l.k) × ((s : List ℕ) (r : End) → SpanWritten l.mem s l.work l.i (l.i + 1) l.k l.end (16 - l.k) r → SpanWritten l.initial.mem s l.work l.i (l.i + 1) l.d l.initial.end (16 - l.d) r) × (length l.mem ≡ length l.initial.mem)

abbrev pub decreases-loop-mem : goal.decreases-loop-mem
decreases-loop-mem l = 16 - l.k

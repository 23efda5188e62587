-- `finished_memory::put_finished` meets its contract. Assumes nothing.
use mathlib.Core.Path.{ap, ◌∙◌}
use Prim.Native.Nat.{ℕ, ◌+◌, ◌-◌}
use mathlib.Core.List.{List}
use lib.ListN.{replicate}
use lib.Seq.{sets}
use Rattle.memory_header.specs.Layout.{header_bytes}
use Rattle.memory_header.specs.Answers.{header_of}
use Rattle.finished_memory.proofs.put_finished.Goals as goal

pub returns : goal.returns
returns c =
    let a = c.args in
    let h = header_of a.h in
    let zeros = ap (λ (x : ℕ). sets a.mem.now (64 + h.payload) (replicate (x - (64 + h.payload)) 0)) c.needed-end.ensures in
    c.put_header.ensures ∙ ap (λ (x : List ℕ). sets x 0 (header_bytes h)) (c.clear.ensures ∙ zeros)

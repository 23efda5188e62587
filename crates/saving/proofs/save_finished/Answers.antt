-- `saving::save_finished` meets its contract: the image that stands in the memory is that of the trie. Assumes nothing.
use native.Mathlib.Omega.{arith}
use mathlib.Core.Path.{ap}
use Rattle.memory_header.specs.Answers.{header_of}
use Rattle.saving.specs.Saving.{Saving}
use Rattle.saving.proofs.Laws.{cut_is, too_short, saved}
use Rattle.saving.proofs.save_finished.Goals as goal

pub returns-then-out-n : goal.returns-then-out-n
returns-then-out-n c =
    let a = c.args in
    let e = too_short a.mem.now _ a.out.now _ _ c.requires.1 (cut_is a.mem.now (header_of a.h) (λ j. omega (arith, c.type_inv.mem j)) (omega arith) c.requires.0) c.if-out-n.true in
    record { answer = ap (λ (f : Saving). f.refusal) e; size = tt; buffer = ap (λ (f : Saving). f.buffer) e }

pub returns : goal.returns
returns c =
    let a = c.args in
    let r = c.copy in
    let e = saved a.mem.now _ a.out.now _ _ c.requires.1 (cut_is a.mem.now (header_of a.h) (λ j. omega (arith, c.type_inv.mem j)) (omega arith) c.requires.0) c.if-out-n.false r.new.to r.ensures in
    record { answer = ap (λ (f : Saving). f.refusal) e; size = ap (λ (f : Saving). f.size) e; buffer = ap (λ (f : Saving). f.buffer) e }

-- `memory_header::put_numbers` meets its contract: the eight numbers, written one after the other, are the bytes of the header. Assumes nothing.
use Rattle.memory_header.specs.Layout.{header_from}
use Rattle.memory_header.proofs.HeaderBytes.{put_in_turn}
use Rattle.memory_header.proofs.put_numbers.Goals as goal

pub returns : goal.returns
returns c =
    let a = c.args in
    let m = a.mem.now in
    let w₁ = c.put64 in
    let w₂ = c.put64-2 in
    let w₃ = c.put64-3 in
    let w₄ = c.put64-4 in
    let w₅ = c.put64-5 in
    let w₆ = c.put64-6 in
    let w₇ = c.put64-7 in
    let w₈ = c.put64-8 in
    let f = put_in_turn (header_from a.numbers) m w₁.new.s w₂.new.s w₃.new.s w₄.new.s w₅.new.s w₆.new.s w₇.new.s w₈.new.s in
    f w₁.ensures w₂.ensures w₃.ensures w₄.ensures w₅.ensures w₆.ensures w₇.ensures w₈.ensures

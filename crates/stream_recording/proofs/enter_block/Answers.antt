-- `stream_recording::enter_block` meets its contract: the verdict says whether the stream goes on. Assumes nothing.
use Rattle.std.proofs.Common.{refl, sym, ◌∙◌}
use Rattle.definitions.specs.Blocks.{Block}
use Rattle.location.specs.Plain.{plain}
use Rattle.memory_header.specs.Answers.{header_of}
use Rattle.recording.proofs.Entering.{count_few, counted_short}
use Rattle.stream_recording.proofs.enter_block.Goals as goal

pub filled_after-requires : goal.filled_after-requires
filled_after-requires c =
    let a = c.args in
    let b : Block = record { bytes = a.b.data.now; at = plain c.new-l.result } in
    ((λ k. counted_short a.mem.now (header_of a.p.header) (header_of c.in_ok-header.header) c.number-kind.result b (sym c.in_ok-header.ensures.verdict) k), count_few _ _ c.requires.0 a.p.filled c.requires.1)

pub returns-clause-filled : goal.returns-clause-filled
returns-clause-filled c = c.filled_after.ensures ∙ sym (c.in_ok-header.ensures.filled (header_of c.in_ok-header.header) refl)

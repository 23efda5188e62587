-- `string_index::record_stream` meets its contract: what the memory holds decides. Assumes nothing.
use Rattle.std.proofs.Common.{ap}
use Rattle.std.proofs.lemmas.Result.{err_from_is_err_and}
use Rattle.stream_recording.specs.Stream.{StreamDone}
use Rattle.stream_recording.proofs.Streaming.{stream_as}
use Rattle.string_index.proofs.record_stream.Goals as goal

pub returns-in_err-h : goal.returns-in_err-h
returns-in_err-h c =
    let a = c.args in
    let e = stream_as a.mem.now a.stream.now _ c.in_err-h.ensures.holds in
    let p = err_from_is_err_and c.from_residual.result c.from_residual.ensures.1 in
    record {
      answer = rw (p.1, p.2, c.in_err-h.ensures.told) (ap (λ (d : StreamDone). d.refusal) e);
      taken = rw (p.1, p.2) (ap (λ (d : StreamDone). d.taken) e);
      memory = ap (λ (d : StreamDone). d.memory) e;
    }

pub returns-in-Finished : goal.returns-in-Finished
returns-in-Finished c =
    let w = rw c.in-Finished.is at c.in_ok-h.ensures in
    let a = c.args in
    let e = stream_as a.mem.now a.stream.now _ w.holds in
    record { answer = rw c.from.ensures (ap (λ (d : StreamDone). d.refusal) e); taken = rw c.from.ensures (ap (λ (d : StreamDone). d.taken) e); memory = ap (λ (d : StreamDone). d.memory) e }

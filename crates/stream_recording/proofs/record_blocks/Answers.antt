-- `stream_recording::record_blocks` meets its contract: what is left to be recorded, recorded, is always the same. Assumes nothing.
use Rattle.std.proofs.Common.{ℕ, ◌≡◌, ◌<◌, ap, refl, ◌∙◌, List, length, get_or, arith}
use Rattle.definitions.specs.BlockStream.{read_block}
use Rattle.memory_header.specs.declared.Header as H
use Rattle.memory_header.specs.Answers.{header_of}
use Rattle.memory_header.specs.Layout.{with_header}
use Rattle.index_memory.specs.Index.{opened, read_index}
use Rattle.index_memory.specs.Log.{log_in}
use Rattle.recording.proofs.Entering.{header_room}
use Rattle.recording.proofs.Outcome.{log_asked, standing, pending}
use Rattle.stream_recording.specs.declared.Progress as C
use Rattle.stream_recording.specs.Stream.{StreamDone, record_stream}
use Rattle.stream_recording.specs.Progress.{halted, next_progress, entered_next}
use Rattle.stream_recording.specs.Answers.{progress_of}
use Rattle.stream_recording.proofs.Streaming.{Going, stream_as, going_start, going_on, fewer_left, going_end}
use Rattle.stream_recording.proofs.record_blocks.Goals as goal

pub filled-filled-requires : goal.filled-filled-requires
filled-filled-requires c = log_asked _ _ c.requires.0 c.requires.1

pub loop-next-init : goal.loop-next-init
loop-next-init c =
    let m = c.args.mem.now in
    let bytes : (k : ℕ) → get_or m k 0 < 256 = λ j. grind arith in
    (going_start _ _ _ (pending m _ c.requires.0 c.requires.1 bytes) (standing m _ c.requires.0 c.requires.1 bytes), c.filled-filled.ensures)

pub loop-next-smaller : goal.loop-next-smaller
loop-next-smaller c =
    let n = c.in-Ok-Some in
    let e = rw n.field-0-is at n.ensures.progress in
    let p = progress_of c.loop-next.p in
    let q = progress_of n.next in
    fewer_left _ c.args.mem.now _ _ p q refl e (going_on _ _ (λ j. grind arith) _ p c.loop-next.invariant.0 refl _ q e c.record_next.ensures.memory c.record_next.auto.mem)

pub loop-next-preserved : goal.loop-next-preserved
loop-next-preserved c =
    let n = c.in-Ok-Some in
    let e = rw n.field-0-is at n.ensures.progress in
    let r = c.record_next in
    (going_on _ _ (λ j. grind arith) _ _ c.loop-next.invariant.0 refl _ _ e r.ensures.memory r.auto.mem, rw n.field-0-is at n.ensures.filled)

-- the stream ended, or a block was refused with a number: what was asked of all of it
ended : (s m₀ : List ℕ) → ((k : ℕ) → get_or s k 0 < 256) → (m : List ℕ) (p : C.Progress) → Going s m₀ m (progress_of p) → (n : ℕ) (m' : List ℕ)
    → halted (progress_of p) n ≡ next_progress m (progress_of p) (read_block s p.at) → m' ≡ entered_next m (header_of p.header) (read_block s p.at) → length m' ≡ length m
    → (h : H.Header) → read_index m₀ ≡ opened (header_of h).capacity (log_in m₀ h.payload 64) → record { taken = p.taken; refusal = n; memory = with_header m' (header_of p.header) } ≡ record_stream m₀ s
ended s m₀ bytes m p g n m' e f l h q =
    going_end s m₀ m' (halted (progress_of p) n) (going_on s m₀ bytes m (progress_of p) g refl m' (halted (progress_of p) n) e f l) refl ∙ stream_as m₀ s _ q

pub close-requires : goal.close-requires
close-requires c = omega (arith, header_room _ _ c.loop-next.invariant.0.pending, c.record_next.auto.mem)

pub returns-in-Ok-None : goal.returns-in-Ok-None
returns-in-Ok-None c =
    let r = c.record_next in
    let e = rw c.in-Ok-None.field-0-is at c.in-Ok-None.ensures.progress in
    let d = ended _ c.args.mem.now (λ j. grind arith) _ c.loop-next.p c.loop-next.invariant.0 0 r.new.mem e r.ensures.memory r.auto.mem c.args.h c.requires.1 in
    let w = c.close.ensures in
    record { number = w.number ∙ ap (λ (x : StreamDone). x.refusal) d; taken = w.taken ∙ ap (λ (x : StreamDone). x.taken) d; memory = w.memory ∙ ap (λ (x : StreamDone). x.memory) d }

pub close-requires-in-Err : goal.close-requires-in-Err
close-requires-in-Err c = omega (arith, header_room _ _ c.loop-next.invariant.0.pending, c.record_next.auto.mem)

pub returns-in-Err : goal.returns-in-Err
returns-in-Err c =
    let r = c.record_next in
    let d = ended _ c.args.mem.now (λ j. grind arith) _ c.loop-next.p c.loop-next.invariant.0 _ r.new.mem c.in-Err.ensures.progress r.ensures.memory r.auto.mem c.args.h c.requires.1 in
    let w = c.close-in-Err.ensures in
    record { number = w.number ∙ ap (λ (x : StreamDone). x.refusal) d; taken = w.taken ∙ ap (λ (x : StreamDone). x.taken) d; memory = w.memory ∙ ap (λ (x : StreamDone). x.memory) d }

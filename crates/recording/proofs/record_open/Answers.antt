-- `recording::record_open` meets its contract: the block is entered, and the header put. Assumes nothing.
use Rattle.std.proofs.Common.{arith}
use Rattle.std.proofs.lemmas.Result.{err_from_is_err_and}
use Rattle.definitions.specs.Blocks.{Block}
use Rattle.definitions.specs.Refusals.{number_of}
use Rattle.location.specs.Plain.{plain}
use Rattle.memory_header.specs.Answers.{header_of}
use Rattle.recording.proofs.Entering.{header_room}
use Rattle.recording.proofs.Outcome.{log_asked, pending, taken_by, refused_by}
use Rattle.recording.proofs.record_open.Goals as goal

pub filled-count-requires : goal.filled-count-requires
filled-count-requires c = log_asked _ _ c.requires.0 c.requires.1

pub enter-requires : goal.enter-requires
enter-requires c = (pending _ _ c.requires.0 c.requires.1 (λ j. grind arith), c.filled-count.ensures)

pub put_header-requires : goal.put_header-requires
put_header-requires c =
    let p = pending _ _ c.requires.0 c.requires.1 (λ j. grind arith) in
    omega (arith, header_room _ _ p, c.enter.auto.mem)

pub returns-in_err-counted : goal.returns-in_err-counted
returns-in_err-counted c =
    let b : Block = record { bytes = c.args.«data».now; at = plain c.args.l } in
    let r = c.in_err-counted in
    let w = refused_by _ _ c.requires.0 c.requires.1 (λ j. grind arith) _ b (number_of r.field-0.0) c.enter.new.mem (r.ensures.verdict, r.ensures.memory) in
    let p = err_from_is_err_and c.from_residual.result c.from_residual.ensures.1 in
    record { answer = rw (p.1, p.2) w.0; memory = w.1 }

pub returns : goal.returns
returns c =
    let b : Block = record { bytes = c.args.«data».now; at = plain c.args.l } in
    let r = c.in_ok-counted in
    let w = taken_by _ _ c.requires.0 c.requires.1 (λ j. grind arith) _ b (header_of r.counted) c.enter.new.mem c.put_header.new.mem (r.ensures.verdict, r.ensures.memory) c.put_header.ensures in
    record { answer = w.0; memory = w.1 }

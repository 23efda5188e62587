-- `recording::put_pieces` meets its contract: what is left to be written, written, is always the same. Assumes nothing.
use Rattle.std.proofs.Common.{◌≡◌, ◌+◌, ◌-◌, subst, arith}
use Rattle.definitions.specs.Blocks.{Block}
use Rattle.location.specs.Plain.{plain}
use Rattle.recording.proofs.Recording.{Writing, writing_start, writing_turn, writing_end}
use Rattle.recording.proofs.put_pieces.Goals as goal

pub loop-done-init : goal.loop-done-init
loop-done-init c =
    let b : Block = record { bytes = c.args.«data».now; at = plain c.args.l } in
    writing_start b c.args.from c.args.mem.now _ (omega (arith, c.piece_count-count.ensures)) c.requires.2

pub loop-done-preserved : goal.loop-done-preserved
loop-done-preserved c =
    let b : Block = record { bytes = c.args.«data».now; at = plain c.args.l } in
    let left = c.piece_count-count.result - c.loop-done.done in
    let e : left - 1 ≡ c.piece_count-count.result - (c.loop-done.done + 1) = omega arith in
    subst (Writing b c.args.from c.args.mem.now c.put_part.new.mem (c.loop-done.done + 1)) e
    (writing_turn b c.args.from c.args.mem.now c.loop-done.invariant (omega arith) c.put_part.new.mem c.put_part.ensures)

pub returns : goal.returns
returns c =
    let b : Block = record { bytes = c.args.«data».now; at = plain c.args.l } in
    writing_end b c.args.from c.args.mem.now c.loop-done.invariant (omega arith)

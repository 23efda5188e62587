-- `recording::enter` meets its contract: by the block's kind, and by what judging it gives. Assumes nothing.
use Rattle.std.proofs.Common.{◌≡◌, ap, sym, ◌∙◌, arith}
use Rattle.definitions.specs.Blocks.{Block}
use Rattle.definitions.specs.SpaceKinds.{kind_number}
use Rattle.location.specs.Plain.{plain}
use Rattle.location.specs.Fits.{Fits}
use Rattle.memory_header.specs.Answers.{header_of}
use Rattle.judging.specs.Judged.{counted}
use Rattle.recording.proofs.Entering.{Enters, kind_memory, tally_within, pending_stored, fitting, filled_told}
use Rattle.recording.proofs.enter.Goals as goal

pub judge-requires : goal.judge-requires
judge-requires c =
    let t = tally_within _ _ c.requires.0 in
    (t.0, t.1, t.2, pending_stored _ _ c.requires.0 c.args.count c.requires.1)

pub append-requires : goal.append-requires
append-requires c =
    let b : Block = record { bytes = c.args.«data».now; at = plain c.args.l } in
    let r = c.in_ok-counted-in-Ok-Memory in
    fitting _ _ c.requires.0 b c.args.count c.requires.1 (header_of r.counted) r.ensures

pub returns-in_ok-counted-in-Ok-Memory-clause-filled : goal.returns-in_ok-counted-in-Ok-Memory-clause-filled
returns-in_ok-counted-in-Ok-Memory-clause-filled c =
    let a = c.args in
    let b : Block = record { bytes = a.«data».now; at = plain a.l } in
    let t : Fits (plain a.l) = record { address = grind arith; created = grind arith; destroyed = grind arith } in
    let h' = header_of c.in_ok-counted-in-Ok-Memory.counted in
    let one : a.kind ≡ 1 = sym c.in-Ok-Memory.ensures ∙ ap kind_number c.in-Ok-Memory.field-0-is in
    let k = kind_memory a.mem.now (header_of a.h) a.kind b (omega (arith, one)) one (counted h') c.in_ok-counted-in-Ok-Memory.ensures in
    let w : Enters a.mem.now (header_of a.h) a.kind b (counted h') c.append.new.mem = (k.0, c.append.ensures ∙ k.1) in
    filled_told a.mem.now (header_of a.h) a.kind b c.requires.0 t a.count c.requires.1 _ _ w

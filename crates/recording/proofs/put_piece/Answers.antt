-- `recording::put_piece` meets its contract: the four parts, written one after the other, are the bytes of the piece. Assumes nothing.
use Rattle.definitions.specs.Blocks.{Piece}
use Rattle.location.specs.Plain.{plain}
use Rattle.recording.proofs.Recording.{put_in_turn}
use Rattle.recording.proofs.put_piece.Goals as goal

pub returns : goal.returns
returns c =
    let a = c.args in
    let w₁ = c.put64 in
    let w₂ = c.copy in
    let w₃ = c.clear in
    let w₄ = c.put_location in
    let p : Piece = record { bytes = a.piece.now; at = plain a.l } in
    let f = put_in_turn a.mem.now w₁.new.s w₂.new.to w₃.new.s w₄.new.s a.at p in
    f c.requires.1 w₁.ensures w₂.ensures w₃.ensures w₄.ensures

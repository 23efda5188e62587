-- `saving::load_right` meets its contract: the image is put behind the header, within what the capacity needs. Assumes nothing.
use native.Mathlib.Omega.{arith}
use mathlib.Core.Path.{ap, ◌∙◌}
use lib.ListN.{length}
use lib.Seq.{length-sets}
use Rattle.memory_header.specs.Opening.{Done}
use Rattle.memory_header.specs.Answers.{header_of}
use Rattle.finished_memory.proofs.Holds.{room_of}
use Rattle.saving.proofs.Laws.{load_as, nodes_over, entries_over, room, closable, loaded}
use Rattle.saving.proofs.load_right.Goals as goal

pub returns-then-h-t : goal.returns-then-h-t
returns-then-h-t c =
    let a = c.args in
    let e = nodes_over (header_of a.h).capacity a.mem.now a.s.now a.t.nodes a.t.entries c.if-h-t.true ∙ load_as a.mem.now a.s.now _ _ c.requires.0 c.requires.1 in
    record { answer = ap (λ (d : Done). d.refusal) e; memory = ap (λ (d : Done). d.memory) e }

pub returns-then-h-t-2 : goal.returns-then-h-t-2
returns-then-h-t-2 c =
    let a = c.args in
    let e = entries_over (header_of a.h).capacity a.mem.now a.s.now a.t.nodes a.t.entries c.if-h-t.false c.if-h-t-2.true ∙ load_as a.mem.now a.s.now _ _ c.requires.0 c.requires.1 in
    record { answer = ap (λ (d : Done). d.refusal) e; memory = ap (λ (d : Done). d.memory) e }

pub copy-requires : goal.copy-requires
copy-requires c =
    let a = c.args in (
      omega arith,
      room (header_of a.h).capacity a.mem.now a.s.now a.t.nodes a.t.entries (room_of a.mem.now _ c.requires.0) (λ j. grind arith) (omega arith) c.requires.1 c.if-h-t.false c.if-h-t-2.false,
    )

pub put_finished-requires : goal.put_finished-requires
put_finished-requires c =
    let k = c.closed-closed in
    let a = c.args in
    closable (header_of a.h).capacity a.mem.now a.s.now a.t.nodes a.t.entries (room_of a.mem.now _ c.requires.0) (λ j. grind arith) (grind arith) c.requires.1 c.if-h-t.false c.if-h-t-2.false
    (header_of k.result) (ap header_of k.ensures) _ (ap length c.copy.ensures ∙ simp length-sets)

pub returns : goal.returns
returns c =
    let w = c.put_finished in
    let k = c.closed-closed in
    let a = c.args in
    let e =
    loaded (header_of a.h).capacity a.mem.now a.s.now a.t.nodes a.t.entries (room_of a.mem.now _ c.requires.0) (λ j. grind arith) (grind arith) c.requires.1 c.if-h-t.false c.if-h-t-2.false
    (header_of k.result) (ap header_of k.ensures) c.copy.new.to w.new.mem c.copy.ensures w.ensures
    ∙ load_as a.mem.now a.s.now _ _ c.requires.0 c.requires.1 in
    record { answer = ap (λ (d : Done). d.refusal) e; memory = ap (λ (d : Done). d.memory) e }

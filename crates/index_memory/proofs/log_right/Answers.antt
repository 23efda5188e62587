-- `index_memory::log_right` meets its contract: what is left of the log, with the charges so far, always decides the same. Assumes nothing.
use Rattle.std.proofs.Common.{ℕ, ◌≡◌, ◌+◌, ◌-◌, ◌*◌, ◌∙◌, subst, arith}
use borrow.Author.Tests.{ne_eqb}
use Rattle.memory_header.specs.Answers.{header_of}
use Rattle.index_memory.proofs.LogWalk.{Walking, walk_nodes, walk_entries, walk_start, walk_refused, walk_turn}
use Rattle.index_memory.proofs.log_right.Goals as goal

pub loop-k-init : goal.loop-k-init
loop-k-init c =
    let h = header_of c.args.h in
    let e : h.payload ≡ h.payload - 0 = omega arith in
    subst (Walking c.args.mem.now h 1 0 64) e (walk_start c.args.mem.now h c.requires.0 c.requires.1)

pub returns-then-not-piece_sound : goal.returns-then-not-piece_sound
returns-then-not-piece_sound c =
    walk_refused c.args.mem.now (header_of c.args.h) c.loop-k.invariant (omega arith) c.piece_sound.result c.piece_sound.ensures c.if-not-piece_sound.true

pub loop-k-preserved : goal.loop-k-preserved
loop-k-preserved c =
    let w = c.loop-k.invariant in
    let s = c.piece_sound in
    let n = c.get64-m in
    let x = c.piece_nodes-nodes in
    let y = c.entry_charge-entries in
    let k = c.loop-k.k in
    let turn = walk_turn c.args.mem.now (header_of c.args.h) w (omega arith) s.result s.ensures c.if-not-piece_sound.false in
    let p : 64 + 48 * k + 48 ≡ 64 + 48 * (k + 1) = omega arith in
    let q : c.args.h.payload - k - 1 ≡ c.args.h.payload - (k + 1) = omega arith in
    subst (λ (at : ℕ). Walking c.args.mem.now (header_of c.args.h) (c.loop-k.nodes + x.result) (c.loop-k.entries + y.result) at (c.args.h.payload - (k + 1))) p
    (subst (Walking c.args.mem.now (header_of c.args.h) (c.loop-k.nodes + x.result) (c.loop-k.entries + y.result) (64 + 48 * k + 48)) q
    (turn n.result n.ensures x.result y.result x.ensures y.ensures))

pub returns-then-h-nodes : goal.returns-then-h-nodes
returns-then-h-nodes c = walk_entries c.args.mem.now (header_of c.args.h) c.loop-k.invariant (omega arith) c.if-h-nodes.true

pub returns-else-h-nodes : goal.returns-else-h-nodes
returns-else-h-nodes c = ne_eqb _ _ c.if-h-nodes.false ∙ walk_nodes c.args.mem.now (header_of c.args.h) c.loop-k.invariant (omega arith) c.if-h-nodes.false

-- `ordering::enter_pieces` meets its contract: after each new piece the certificate in memory has room for those to come. Assumes nothing.
use native.Mathlib.Omega.{arith}
use borrow.Author.Rules.{rules}
use Rattle.memory_header.specs.Answers.{header_of}
use Rattle.ordering.proofs.Moving.{moving_start, moving_end}
use Rattle.ordering.proofs.Turns.{turn, turn_within, turn_lined, turn_low, turn_held, turn_on}
use Rattle.ordering.proofs.enter_pieces.Goals as goal

pub loop-j-init : goal.loop-j-init
loop-j-init c =
    let a = c.args in
    moving_start a.mem.now (λ j. search rules) (header_of a.h) a.count a.new c.requires

pub invariant_of-line : goal.invariant_of-line
invariant_of-line c =
    let t = turn (λ j. search rules) c.requires c.certificate_at-base.ensures c.loop-j.invariant c.loop-j-test.true in
    record { within = turn_within t }

pub invariant_of-first_from : goal.invariant_of-first_from
invariant_of-first_from c =
    let t = turn (λ j. search rules) c.requires c.certificate_at-base.ensures c.loop-j.invariant c.loop-j-test.true in
    record { lined = turn_lined t }

pub shift-requires : goal.shift-requires
shift-requires c =
    let t = turn (λ j. search rules) c.requires c.certificate_at-base.ensures c.loop-j.invariant c.loop-j-test.true in
    (turn_low t c.location_at-l.ensures c.first_from-k.ensures, omega (arith, t.entering.room, t.there, t.moving.old, t.moving.long))

pub overflow_add-place : goal.overflow_add-place
overflow_add-place c =
    let t = turn (λ j. search rules) c.requires c.certificate_at-base.ensures c.loop-j.invariant c.loop-j-test.true in
    let held = turn_held t c.location_at-l.ensures c.first_from-k.ensures in
    omega (arith, held, c.well_formed.0)

pub overflow_mul-place : goal.overflow_mul-place
overflow_mul-place c =
    let t = turn (λ j. search rules) c.requires c.certificate_at-base.ensures c.loop-j.invariant c.loop-j-test.true in
    let held = turn_held t c.location_at-l.ensures c.first_from-k.ensures in
    omega (arith, held, c.well_formed.0)

pub overflow_add-place-in-loop-j : goal.overflow_add-place-in-loop-j
overflow_add-place-in-loop-j c =
    let t = turn (λ j. search rules) c.requires c.certificate_at-base.ensures c.loop-j.invariant c.loop-j-test.true in
    let held = turn_held t c.location_at-l.ensures c.first_from-k.ensures in
    omega (arith, held, c.well_formed.0)

pub put_entry-requires : goal.put_entry-requires
put_entry-requires c =
    let t = turn (λ j. search rules) c.requires c.certificate_at-base.ensures c.loop-j.invariant c.loop-j-test.true in
    let held = turn_held t c.location_at-l.ensures c.first_from-k.ensures in
    omega (arith, held, t.moving.long, t.more, c.shift.auto.mem)

pub loop-j-preserved : goal.loop-j-preserved
loop-j-preserved c =
    let t = turn (λ j. search rules) c.requires c.certificate_at-base.ensures c.loop-j.invariant c.loop-j-test.true in
    turn_on t c.location_at-l.ensures c.first_from-k.ensures c.shift.ensures c.put_entry.ensures

pub returns : goal.returns
returns c =
    let a = c.args in
    moving_end a.mem.now (λ j. search rules) (header_of a.h) a.count a.new c.requires c.loop-j.mem c.loop-j.upto c.loop-j.j c.loop-j.invariant (omega (arith, c.loop-j.invariant.few))

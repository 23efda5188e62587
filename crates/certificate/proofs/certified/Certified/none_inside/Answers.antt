-- `certificate::Certified::none_inside` meets its contract: inside the pieces of the entries before i none lives. Assumes nothing.
use native.Mathlib.Omega.{arith}
use mathlib.Core.Path.{sym, subst, ◌∙◌}
use mathlib.Core.Bool.{Bool, not}
use Rattle.definitions.proofs.Tests.{negated}
use Rattle.lined_locations.specs.Line.{location_of}
use Rattle.certificate.specs.Entries.{piece_end, lives_inside}
use Rattle.certificate.specs.Groups.{Apart}
use Rattle.certificate.proofs.All.{all_start, all_next}
use Rattle.certificate.proofs.Groups.{none_alone, none_on, none_met}
use Rattle.certificate.proofs.certified.Certified.none_inside.Goals as goal

pub loop-i-init : goal.loop-i-init
loop-i-init c =
    let v = c.args.self.entries.line in
    (omega arith, all_start (λ k. not (lives_inside (location_of v) (piece_end v) v.count k)))

pub returns-then-not-group_apart : goal.returns-then-not-group_apart
returns-then-not-group_apart c =
    let s = c.args.self.entries in
    let v = s.line in
    let e = c.group_end-e.result in
    none_met v.count (location_of v) s.lined (piece_end v) c.loop-i.i e c.group_end-e.ensures
    (subst (λ (o : Bool). Apart o (location_of v) (piece_end v) c.loop-i.i e e v.count) c.if-not-group_apart.true c.group_apart.ensures)

pub loop-i-preserved-then-next_inside : goal.loop-i-preserved-then-next_inside
loop-i-preserved-then-next_inside c =
    let s = c.args.self.entries in
    let v = s.line in
    let e = c.group_end-e.result in (
      c.group_end-e.ensures.high,
      none_on v.count (location_of v) s.lined (piece_end v) c.loop-i.i e c.group_end-e.ensures c.loop-i.invariant.1
          (subst (λ (o : Bool). Apart o (location_of v) (piece_end v) c.loop-i.i e e v.count) c.if-not-group_apart.false c.group_apart.ensures),
    )

pub loop-i-preserved : goal.loop-i-preserved
loop-i-preserved c =
    let s = c.args.self.entries in
    let v = s.line in (
      omega (arith, c.loop-i-test.true),
      all_next (λ k. not (lives_inside (location_of v) (piece_end v) v.count k)) c.loop-i.i c.loop-i.invariant.1
          (negated (none_alone v.count (location_of v) s.lined (piece_end v) c.loop-i.i c.loop-i-test.true (sym c.next_inside.ensures ∙ c.if-next_inside.false))),
    )

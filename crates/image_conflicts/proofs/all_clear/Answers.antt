-- `image_conflicts::all_clear` meets its contract: one chunk after another. Assumes nothing.
use native.Mathlib.Omega.{arith}
use mathlib.Core.Path.{sym, ap, ◌∙◌}
use Rattle.definitions.specs.Location.{Location}
use Rattle.location_lists.specs.Lists.{held}
use Rattle.location.specs.Plain.{plain}
use Rattle.lined_locations.specs.Line.{location_of}
use Rattle.image_conflicts.proofs.Inside.{short_clear}
use Rattle.image_conflicts.proofs.Chunks.{clear_end, clear_not, clear_on, ending_at}
use Rattle.image_conflicts.proofs.all_clear.Goals as goal

pub returns-then-m-lt2 : goal.returns-then-m-lt2
returns-then-m-lt2 c =
    let a = c.args in
    sym (short_clear a.v.line.count (location_of a.v.line) a.m a.v.lined c.if-m-lt2.true (held a.v.line.bytes.now a.list))

pub is_clear-requires : goal.is_clear-requires
is_clear-requires c =
    let a = c.args in
    let p = c.requires in
    let j = c.loop-j.j in
    let e = ending_at (location_of a.v.line) a.v.line.count a.m a.v.line.bytes.now a.list.at a.list.count p.1 j c.loop-j-test.true in
    (omega arith, omega (arith, e, ap (λ (l : Location). l.address) c.location_at-x.ensures))

pub returns-then-not-is_clear : goal.returns-then-not-is_clear
returns-then-not-is_clear c =
    let a = c.args in
    let l = c.loop-j in
    let r = c.is_clear in
    let x = c.location_at-x in
    sym (clear_not (location_of a.v.line) a.v.line.count a.m a.v.line.bytes.now a.list.at a.list.count l.j c.loop-j-test.true (plain x.result) x.ensures r.result r.ensures c.if-not-is_clear.true) ∙ l.invariant

pub loop-j-preserved : goal.loop-j-preserved
loop-j-preserved c =
    let a = c.args in
    let l = c.loop-j in
    let r = c.is_clear in
    let x = c.location_at-x in
    clear_on (location_of a.v.line) a.v.line.count a.m a.v.line.bytes.now a.list.at a.list.count l.j c.loop-j-test.true (plain x.result) x.ensures r.result r.ensures c.if-not-is_clear.false ∙ l.invariant

pub returns : goal.returns
returns c =
    let a = c.args in
    let l = c.loop-j in
    sym (clear_end (location_of a.v.line) a.v.line.count a.m a.v.line.bytes.now a.list.at a.list.count l.j c.loop-j-test.false) ∙ l.invariant

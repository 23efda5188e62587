-- `certificate::Certified::pair_apart` meets its contract: the entries before j have been walked through. Assumes nothing.
use Prim.Native.Nat.{ℕ}
use native.Mathlib.Omega.{arith}
use mathlib.Core.Path.{ap}
use borrow.Author.Tests.{leb-true, leb-false}
use Rattle.definitions.specs.Location.{Location}
use Rattle.lined_locations.specs.Line.{location_of}
use Rattle.certificate.specs.Entries.{piece_end}
use Rattle.certificate.proofs.Groups.{walk_short, walk_on, walk_met}
use Rattle.certificate.proofs.certified.Certified.pair_apart.Goals as goal

abbrev address-of : Location → ℕ
address-of l = l.address

pub returns-then-lives_on : goal.returns-then-lives_on
returns-then-lives_on c =
    let a = c.args in
    let s = a.self.entries in
    let at = c.loop-j in
    walk_met s.line.count (location_of s.line) s.lined (piece_end s.line) a.i a.e a.g a.h c.requires.0 c.requires.1 at.j at.q at.invariant (omega arith)
    c.location-x.ensures c.created_from-q.ensures (omega (arith, leb-false, ap address-of c.location-b.ensures, c.piece_end-end.ensures)) c.lives_on.ensures c.if-lives_on.true

pub loop-j-preserved : goal.loop-j-preserved
loop-j-preserved c =
    let a = c.args in
    let s = a.self.entries in
    let at = c.loop-j in
    walk_on s.line.count (location_of s.line) s.lined (piece_end s.line) a.i a.e a.g a.h c.requires.0 c.requires.1 at.j at.q at.invariant (omega arith)
    c.location-x.ensures c.created_from-q.ensures c.lives_on.ensures c.if-lives_on.false

pub loop-j-preserved-then-end-b : goal.loop-j-preserved-then-end-b
loop-j-preserved-then-end-b c =
    let a = c.args in
    let s = a.self.entries in
    let at = c.loop-j in
    walk_short s.line.count (location_of s.line) s.lined (piece_end s.line) a.i a.e a.g a.h c.requires.0 c.requires.1 at.j at.q at.invariant (omega arith)
    (omega (arith, leb-true, ap address-of c.location-b.ensures, c.piece_end-end.ensures))

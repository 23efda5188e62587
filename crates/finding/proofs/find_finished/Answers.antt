-- `finding::find_finished` meets its contract: the image passed the test, so what is found is that by its pieces. Assumes nothing.
use native.Mathlib.Omega.{arith}
use mathlib.Core.Path.{refl}
use borrow.Author.Rules.{rules}
use borrow.Author.Tests.{lt-ltb}
use Rattle.memory_header.specs.Answers.{header_of}
use Rattle.finding.proofs.FindCall.{none_front, unchanged}
use Rattle.finding.proofs.Calling.{searchable, answered_part}
use Rattle.finding.proofs.find_finished.Goals as goal

pub returns-then-q-gt-QUERY_LIMIT : goal.returns-then-q-gt-QUERY_LIMIT
returns-then-q-gt-QUERY_LIMIT c =
    let long = c.if-q-gt-QUERY_LIMIT.true in
    record {
      found = rw (lt-ltb 256 _ long) refl;
      rows = rw (lt-ltb 256 _ long) (none_front _);
      scratch = unchanged _ _;
    }

pub search_image-requires : goal.search_image-requires
search_image-requires c =
    let a = c.args in
    let w = searchable a.mem.now (header_of a.h) (λ j. omega (arith, c.type_inv.mem j)) (omega arith) c.requires in
    (w.0, w.1, omega (arith, c.if-q-gt-QUERY_LIMIT.false))

pub returns : goal.returns
returns c =
    let a = c.args in
    let w = answered_part a.mem.now (header_of a.h) (λ j. omega (arith, c.type_inv.mem j)) (omega arith) c.requires a.q.now a.scratch.now _ _ (omega (arith, c.if-q-gt-QUERY_LIMIT.false)) (search rules) (c.search_image.ensures.found, c.search_image.ensures.rows) in
    record { found = w.0; rows = w.1.0; scratch = w.1.1 }

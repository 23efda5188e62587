-- `test_and_search` searches an image that passed the test. Assumes nothing.
use native.Mathlib.Omega.{arith}
use Rattle.bench_parts.proofs.Queries.{right_image}
use Rattle.bench_parts.proofs.test_and_search.Goals as goal

pub search_right-requires : goal.search_right-requires
search_right-requires c = right_image c.args.img.now (λ j. omega (arith, c.type_inv.img j)) (omega arith) c.in_ok-check.ensures

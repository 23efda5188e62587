-- `search_right` meets its contract. Assumes nothing.
use native.Mathlib.Omega.{arith}
use borrow.Author.Rules.{rules}
use lib.ListN.{length}
use Rattle.image_format.specs.Held.{trie_in}
use Rattle.bench_parts.proofs.Queries.{scratch_free}
use Rattle.bench_parts.proofs.search_right.Goals as goal

pub returns-in_err-rows-clause-scratch : goal.returns-in_err-rows-clause-scratch
returns-in_err-rows-clause-scratch c =
    let a = c.args in
    scratch_free (trie_in a.img.now) a.queries.now a.size (length a.scratch.now) a.room c.query_size-n.result _ _ c.query_size-n.ensures (omega arith) (search rules)

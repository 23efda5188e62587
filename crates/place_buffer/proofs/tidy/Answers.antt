-- `place_buffer::tidy` meets its contract: the records that are left are the set of places. Assumes nothing.
use native.Mathlib.Omega.{arith}
use Rattle.place_buffer.proofs.Scratch.{tidied, tidied_le}
use Rattle.place_buffer.proofs.tidy.Goals as goal

pub overflow_add-result : goal.overflow_add-result
overflow_add-result c =
    let made = tidied _ _ _ _ _ _ (λ j. omega (arith, c.slice_known-1.given j)) (λ j. omega (arith, c.slice_known-2-1.given j)) c.requires.0 c.requires.1 c.sort.ensures c.drop_repeats-kept.ensures.bytes c.drop_repeats-kept.ensures.count in
    omega (arith, tidied_le made c.requires.0)

pub returns : goal.returns
returns c = tidied _ _ _ _ _ _ (λ j. omega (arith, c.slice_known-1.given j)) (λ j. omega (arith, c.slice_known-2-1.given j)) c.requires.0 c.requires.1 c.sort.ensures c.drop_repeats-kept.ensures.bytes c.drop_repeats-kept.ensures.count

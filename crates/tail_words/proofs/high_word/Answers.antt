-- `tail_words::high_word` meets its contract: after k bytes it has the number of k bytes. Assumes nothing.
use Prim.Native.Nat.{ℕ, ◌<◌}
use native.Mathlib.Omega.{arith}
use mathlib.Core.Path.{refl, sym, subst}
use Rattle.tails.specs.Tails.{high}
use Rattle.tail_words.proofs.High.{high_room, high_turn}
use Rattle.tail_words.proofs.high_word.Goals as goal

pub loop-k-init : goal.loop-k-init
unfolding high
loop-k-init c = refl

pub overflow_mul-x : goal.overflow_mul-x
overflow_mul-x c = omega (arith, high_room c.loop-k.k c.args.bytes.now c.loop-k.x (λ k. omega (arith, c.type_inv.bytes k)) c.loop-k-test.true c.loop-k.invariant)

pub overflow_add-x : goal.overflow_add-x
overflow_add-x c =
    let b : c.padded.result < 256 = subst (λ (x : ℕ). x < 256) (sym c.padded.ensures) (c.type_inv.bytes _).fits in
    omega (arith, high_room c.loop-k.k c.args.bytes.now c.loop-k.x (λ k. omega (arith, c.type_inv.bytes k)) c.loop-k-test.true c.loop-k.invariant)

pub loop-k-preserved : goal.loop-k-preserved
loop-k-preserved c = high_turn c.loop-k.k c.args.bytes.now c.loop-k.x c.padded.result c.loop-k.invariant c.padded.ensures

-- `fronts::look_ahead` meets its contract: it reads ahead only where the fronts stand from the start on. Assumes nothing.
use Prim.Native.Nat.{ℕ, ◌*◌}
use native.Mathlib.Omega.{arith}
use mathlib.Core.Path.{◌≡◌, refl, subst}
use Rattle.fronts.specs.Fronts.{HasFronts}
use Rattle.fronts.proofs.Fronts.{has_part}
use Rattle.fronts.proofs.look_ahead.Goals as goal

pub read_ahead-lists-requires : goal.read_ahead-lists-requires
read_ahead-lists-requires c =
    let a = c.args in
    let z : a.child.depth * 256 ≡ 0 = omega (arith, c.if-child-eq0.true) in
    has_part a.s.now a.fronts.now 0 a.count a.count refl (omega (arith, c.requires.is.few)) (subst (λ (p : ℕ). HasFronts a.s.now a.fronts.now p a.count) z c.requires)

-- Two locations that live together. Assumes nothing.
use Prim.Native.Nat.{◌<◌}
use mathlib.Core.Path.{◌≡◌}
use mathlib.Core.Bool.{true, false}
use mathlib.Core.Logic.{◌↔◌}
use lib.Dec.{ltb}
use borrow.Author.Tests.{ltb-true, lt-ltb}
use Rattle.definitions.specs.Location.{Location, meets}
use Rattle.definitions.proofs.Tests.{both, and_true, is_false, not_both}

pub record Together (l m : Location) : Type 0 where
  pub left : l.created < m.destroyed
  pub right : m.created < l.destroyed

pub meets_is : (l m : Location) → meets l m ≡ true ↔ Together l m
meets_is l m = (to, λ t. and_true (lt-ltb l.created m.destroyed t.left) (lt-ltb m.created l.destroyed t.right))
  where
    to : meets l m ≡ true → Together l m
    to e =
        let b : (ltb l.created m.destroyed ≡ true) × (ltb m.created l.destroyed ≡ true) = both (ltb l.created m.destroyed) (ltb m.created l.destroyed) e in
        record { left = ltb-true l.created m.destroyed b.0; right = ltb-true m.created l.destroyed b.1 }

pub meets_not : (l m : Location) → (Together l m → ⊥) → meets l m ≡ false
meets_not l m f = is_false (meets l m) (λ e. f ((meets_is l m).0 e))

pub not_meets : (l m : Location) → meets l m ≡ false → Together l m → ⊥
not_meets l m e t = not_both e ((meets_is l m).1 t)

-- Pieces free of conflicts, by number. Assumes nothing.
use Prim.Native.Nat.{ℕ, zero, suc, ◌<◌}
use native.Mathlib.Nat.{le_of_suc-le-suc, not-suc-le-zero}
use native.Mathlib.Omega.{arith}
use mathlib.Core.Path.{◌≡◌, sym, subst}
use mathlib.Core.Bool.{true, false}
use mathlib.Core.Logic.{◌↔◌}
use mathlib.Core.List.Memᴰ.{head as here}
use mathlib.Core.List.Memᴰ.{tail as later}
use mathlib.Core.List.{List, [], ◌∷◌, Memᴰ as Mem}
use lib.ListN.{length}
use Rattle.definitions.specs.Blocks.{Piece}
use Rattle.definitions.specs.Conflicts.{conflicting, free}
use Rattle.definitions.proofs.Free.{Free, free_is}
use Rattle.conflicts.specs.Order.{nothing, nth}
use Rattle.conflicts.specs.Promises.{Numbered}
use Rattle.conflicts.proofs.Numbers.{at_member}

-- no two of a list conflict exactly if no two numbers of it do
pub free_numbers : (ps : List Piece) → free ps ≡ true ↔ Numbered (length ps) (nth ps)
free_numbers ps = ((λ e. to ps ((free_is ps).0 e)), λ g. (free_is ps).1 (fro ps g))
  where
    to : (ps : List Piece) → Free ps → Numbered (length ps) (nth ps)
    to [] g i j h k = absurd (not-suc-le-zero k)
    to (p ∷ ps) g i zero h k = absurd (not-suc-le-zero h)
    to (p ∷ ps) g zero (suc j) h k = g.0 (nth ps j) (at_member ps nothing j (le_of_suc-le-suc k))
    to (p ∷ ps) g (suc i) (suc j) h k = to ps g.1 i j (le_of_suc-le-suc h) (le_of_suc-le-suc k)

    with_each : (p : Piece) (ps : List Piece) → ((j : ℕ) → j < length ps → conflicting p (nth ps j) ≡ false) → (r : Piece) → Mem r ps → conflicting p r ≡ false
    with_each p [] g r x'' = elim x'' [ ]
    with_each p (x ∷ ps) g r (here e) = subst (λ (y : Piece). conflicting p y ≡ false) (sym e) (g 0 (omega arith))
    with_each p (x ∷ ps) g r (later m) = with_each p ps (λ j h. g (suc j) (omega arith)) r m

    fro : (ps : List Piece) → Numbered (length ps) (nth ps) → Free ps
    fro [] g = tt
    fro (p ∷ ps) g = (with_each p ps (λ j h. g 0 (suc j) (omega arith) (omega arith)), fro ps (λ i j h k. g (suc i) (suc j) (omega arith) (omega arith)))

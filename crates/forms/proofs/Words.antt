-- Whether a line begins with a word, and whether it is one. Assumes nothing.
use Prim.Native.Nat.{ℕ}
use mathlib.Core.Path.{◌≡◌, refl, sym}
use mathlib.Core.Bool.{Bool, true, false, cond, ◌&&◌}
use mathlib.Core.List.{List, [], ◌∷◌}
use lib.ListN.{length, take}
use lib.Dec.{eqb}
use lib.Pointwise.{pointwise}
use borrow.Author.Tests.{eq-eqb, eqb-true}
use Rattle.numerals.specs.Numerals.{starts}

pub starts_is : (w l : List ℕ) → pointwise eqb w (take (length w) l) ≡ starts w l
unfolding starts
starts_is [] l = refl
starts_is (w ∷ ws) [] = refl
starts_is (w ∷ ws) (b ∷ bs) = go (eqb w b) (eqb b w) refl refl (starts_is ws bs)
  where
    go : (o₁ o₂ : Bool) → eqb w b ≡ o₁ → eqb b w ≡ o₂ → pointwise eqb ws (take (length ws) bs) ≡ starts ws bs
        → (o₁ && pointwise eqb ws (take (length ws) bs)) ≡ cond o₂ (starts ws bs) false
    go true true e f r = r
    go true false e f r = absurd (let z = eq-eqb b w (sym (eqb-true w b e)) in cc)
    go false true e f r = absurd (let z = eq-eqb w b (sym (eqb-true b w f)) in cc)
    go false false e f r = refl

-- Pieces free of conflicts: by members, and of two lists one behind the other. Assumes nothing.
use mathlib.Core.Path.{◌≡◌, refl, sym, subst}
use mathlib.Core.Bool.{true, false, not}
use mathlib.Core.Logic.{◌⊎◌, inl, inr, ◌↔◌}
use mathlib.Core.List.Memᴰ.{append_cases}
use mathlib.Core.List.Memᴰ.{append_left}
use mathlib.Core.List.Memᴰ.{append_right}
use mathlib.Core.List.Memᴰ.{head as here}
use mathlib.Core.List.Memᴰ.{not-nil}
use mathlib.Core.List.Memᴰ.{tail as later}
use mathlib.Core.List.{List, [], ◌∷◌, ◌++◌, Memᴰ as Mem}
use borrow.Author.Tests.{not-true}
use Rattle.definitions.specs.Blocks.{Piece}
use Rattle.definitions.specs.Conflicts.{conflicting, conflicts_with, clash, free}
use Rattle.definitions.proofs.Tests.{both, and_true, either, neither, or_left, or_right, is_false, not_both, negated}

-- the first conflicts with no later one, by position
abbrev pub Free : List Piece → Type 0
Free [] = Unit {0}
Free (p ∷ ps) = ((r : Piece) → Mem r ps → conflicting p r ≡ false) × Free ps

-- a member that p conflicts with
pub record Met (p : Piece) (rs : List Piece) : Type 0 where
  pub piece : Piece
  pub listed : Mem piece rs
  pub is : conflicting p piece ≡ true

pub with_one : (p : Piece) (rs : List Piece) → conflicts_with p rs ≡ true → Met p rs
with_one p [] e = absurd (not_both refl e)
with_one p (r ∷ rs) e = go (with_one p rs) (either (conflicting p r) (conflicts_with p rs) e)
  where
    on : Met p rs → Met p (r ∷ rs)
    on m = record { piece = m.piece; listed = later m.listed; is = m.is }

    go : (conflicts_with p rs ≡ true → Met p rs) → (conflicting p r ≡ true) ⊎ (conflicts_with p rs ≡ true) → Met p (r ∷ rs)
    go ih (inl h) = record { piece = r; listed = here refl; is = h }
    go ih (inr h) = on (ih h)

pub one_with : (p x : Piece) (rs : List Piece) → Mem x rs → conflicting p x ≡ true → conflicts_with p rs ≡ true
one_with p x [] x3 h = elim x3 [ ]
one_with p x (r ∷ rs) (here e) h = or_left (conflicts_with p rs) (subst (λ (y : Piece). conflicting p y ≡ true) e h)
one_with p x (r ∷ rs) (later m) h = or_right (conflicting p r) (one_with p x rs m h)

pub with_none : (p : Piece) (rs : List Piece) → conflicts_with p rs ≡ false ↔ ((r : Piece) → Mem r rs → conflicting p r ≡ false)
with_none p rs = (
  (λ e r m. is_false (conflicting p r) (λ h. not_both e (one_with p r rs m h))),
  λ g. is_false (conflicts_with p rs) (λ e. let m : Met p rs = with_one p rs e in not_both (g m.piece m.listed) m.is),
)

pub clash_none : (ps rs : List Piece) → clash ps rs ≡ false ↔ ((p r : Piece) → Mem p ps → Mem r rs → conflicting p r ≡ false)
clash_none [] rs = ((λ e p r m k. absurd (not-nil m)), λ g. refl)
clash_none (p ∷ ps) rs = (to (clash_none ps rs).0, λ g. fro ((with_none p rs).1 (λ r k. g p r (here refl) k)) ((clash_none ps rs).1 (λ x r m k. g x r (later m) k)))
  where
    to : (clash ps rs ≡ false → (x r : Piece) → Mem x ps → Mem r rs → conflicting x r ≡ false) → clash (p ∷ ps) rs ≡ false → (x r : Piece) → Mem x (p ∷ ps) → Mem r rs → conflicting x r ≡ false
    to ih e x r (here q) k = subst (λ (y : Piece). conflicting y r ≡ false) (sym q) ((with_none p rs).0 (neither (conflicts_with p rs) (clash ps rs) e).0 r k)
    to ih e x r (later m) k = ih (neither (conflicts_with p rs) (clash ps rs) e).1 x r m k

    fro : conflicts_with p rs ≡ false → clash ps rs ≡ false → clash (p ∷ ps) rs ≡ false
    fro h k = rw (h, k)

pub free_is : (ps : List Piece) → free ps ≡ true ↔ Free ps
free_is [] = ((λ e. tt), λ g. refl)
free_is (p ∷ ps) = (to (free_is ps).0, λ g. and_true (negated ((with_none p ps).1 g.0)) ((free_is ps).1 g.1))
  where
    to : (free ps ≡ true → Free ps) → free (p ∷ ps) ≡ true → Free (p ∷ ps)
    to ih e =
        let b : (not (conflicts_with p ps) ≡ true) × (free ps ≡ true) = both (not (conflicts_with p ps)) (free ps) e in
        ((with_none p ps).0 (not-true (conflicts_with p ps) b.0), ih b.1)

-- of two lists: each is, and nobody of the first conflicts with one of the second
pub record Both (ps rs : List Piece) : Type 0 where
  pub first : Free ps
  pub second : Free rs
  pub between : (p r : Piece) → Mem p ps → Mem r rs → conflicting p r ≡ false

pub free_append : (ps rs : List Piece) → Both ps rs → Free (ps ++ rs)
free_append [] rs b = b.second
free_append (p ∷ ps) rs b = ((λ r m. go r (append_cases ps m)), free_append ps rs (record { first = b.first.1; second = b.second; between = λ x r m k. b.between x r (later m) k }))
  where
    go : (r : Piece) → Mem r ps ⊎ Mem r rs → conflicting p r ≡ false
    go r (inl m) = b.first.0 r m
    go r (inr m) = b.between p r (here refl) m

pub append_free : (ps rs : List Piece) → Free (ps ++ rs) → Both ps rs
append_free [] rs g = record { first = tt; second = g; between = λ p r m k. absurd (not-nil m) }
append_free (p ∷ ps) rs g = go (append_free ps rs g.1)
  where
    between : Both ps rs → (x r : Piece) → Mem x (p ∷ ps) → Mem r rs → conflicting x r ≡ false
    between b x r (here e) k = subst (λ (y : Piece). conflicting y r ≡ false) (sym e) (g.0 r (append_right ps k))
    between b x r (later m) k = b.between x r m k

    go : Both ps rs → Both (p ∷ ps) rs
    go b = record { first = ((λ r m. g.0 r (append_left rs m)), b.first); second = b.second; between = between b }

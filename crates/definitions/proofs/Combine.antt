-- One pass over sorted places with lives that at most touch: the longest runs of what they cover. Assumes nothing.
use Prim.Native.Nat.{ℕ, ◌≤◌, ◌<◌}
use native.Mathlib.Omega.{arith}
use mathlib.Core.Path.{◌≡◌, refl, sym, ◌∙◌, subst}
use mathlib.Core.Bool.{Bool, true, false, cond}
use mathlib.Core.Logic.{◌⊎◌, inl, inr}
use mathlib.Core.List.Memᴰ.{cases_cons as split}
use mathlib.Core.List.Memᴰ.{head as here}
use mathlib.Core.List.Memᴰ.{not-nil}
use mathlib.Core.List.Memᴰ.{tail as later}
use mathlib.Core.List.{List, [], ◌∷◌, Memᴰ as Mem}
use Rattle.std.proofs.lemmas.Bool.{cases_lt}
use Rattle.definitions.specs.Location.{Location, Lives}
use Rattle.definitions.specs.Rows.{goes_on, lengthened, combined, Before}
use Rattle.definitions.proofs.Views.{GoesOn, goes}

-- ── a place at (a, t) ──

-- a place or a row of a list at address a, alive at tick t
pub record Here (ls : List Location) (a t : ℕ) : Type 0 where
  pub place : Location
  pub listed : Mem place ls
  pub there : place.address ≡ a
  pub lives : Lives place t

pub record At (l : Location) (a t : ℕ) : Type 0 where
  pub there : l.address ≡ a
  pub lives : Lives l t

pub here_head : {l : Location} {ls : List Location} {a t : ℕ} → At l a t → Here (l ∷ ls) a t
here_head {l} h = record { place = l; listed = here refl; there = h.there; lives = h.lives }

pub here_tail : {l : Location} {ls : List Location} {a t : ℕ} → Here ls a t → Here (l ∷ ls) a t
here_tail h = record { place = h.place; listed = later h.listed; there = h.there; lives = h.lives }

pub here_cases : {l : Location} {ls : List Location} {a t : ℕ} → Here (l ∷ ls) a t → At l a t ⊎ Here ls a t
here_cases {l} {ls} {a} {t} h = go (split h.listed)
  where
    go : (h.place ≡ l) ⊎ Mem h.place ls → At l a t ⊎ Here ls a t
    go (inl e) = inl (subst (λ (x : Location). At x a t) e (record { there = h.there; lives = h.lives }))
    go (inr k) = inr (record { place = h.place; listed = k; there = h.there; lives = h.lives })

-- ── the order of the places, and of the rows ──

pub record Near (l m : Location) : Type 0 where
  pub address_le : l.address ≤ m.address
  pub touch : l.address ≡ m.address → l.destroyed ≤ m.created

abbrev pub Spread : (Location → Location → Type 0) → List Location → Type 0
Spread R [] = Unit {0}
Spread R (l ∷ ls) = (l.created < l.destroyed) × ((m : Location) → Mem m ls → R l m) × Spread R ls

record Follows (l r : Location) : Type 0 where
  address_le : l.address ≤ r.address
  created_le : l.address ≡ r.address → l.created ≤ r.created

long : (l m : Location) (ms : List Location) → GoesOn true l m → Spread Near (l ∷ m ∷ ms) → Spread Near (lengthened l m ∷ ms)
long l m ms g s = (some, next, s.2.2)
  where
    some : l.created < m.destroyed
    some = omega (arith, s.0, s.2.0, g.1)

    next : (x : Location) → Mem x ms → Near (lengthened l m) x
    next x h =
        let n : Near m x = s.2.1 x h in
        record { address_le = omega (arith, g.0, n.address_le); touch = λ e. n.touch (sym g.0 ∙ e) }

follows : (l : Location) (ms : List Location) → Spread Near (l ∷ ms) → (r : Location) → Mem r (combined l ms) → Follows l r
follows l [] s r h = go (split h)
  where
    go : (r ≡ l) ⊎ Mem r [] → Follows l r
    go (inl e) = subst (Follows l) (sym e) (record { address_le = omega arith; created_le = λ _. omega arith })
    go (inr k) = absurd (not-nil k)
follows l (m ∷ ms) s r h = go (goes_on l m) (goes l m) (follows m ms s.2 r) (λ n. follows (lengthened l m) ms n r) h
  where
    far : Follows m r → Follows l r
    far f =
        let n : Near l m = s.1 m (here refl) in
        record {
          address_le = omega (arith, f.address_le, n.address_le);
          created_le = λ e.
              let p : l.address ≡ m.address = omega (arith, f.address_le, n.address_le) in
              omega (arith, s.0, n.touch p, f.created_le (sym p ∙ e));
        }

    stop : (Mem r (combined m ms) → Follows m r) → (r ≡ l) ⊎ Mem r (combined m ms) → Follows l r
    stop ih (inl e) = subst (Follows l) (sym e) (record { address_le = omega arith; created_le = λ _. omega arith })
    stop ih (inr k) = far (ih k)

    go : (o : Bool) → GoesOn o l m → (Mem r (combined m ms) → Follows m r) → (Spread Near (lengthened l m ∷ ms) → Mem r (combined (lengthened l m) ms) → Follows (lengthened l m) r) → Mem r (cond o (combined (lengthened l m) ms) (l ∷ combined m ms)) → Follows l r
    go true g ih₁ ih₂ h = let f = ih₂ (long l m ms g s) h in record { address_le = f.address_le; created_le = f.created_le }
    go false g ih₁ ih₂ h = stop ih₁ (split h)

pub combined_spread : (l : Location) (ms : List Location) → Spread Near (l ∷ ms) → Spread Before (combined l ms)
combined_spread l [] s = (s.0, (λ x h. absurd (not-nil h)), tt)
combined_spread l (m ∷ ms) s = go (goes_on l m) (goes l m) (combined_spread m ms s.2) (combined_spread (lengthened l m) ms)
  where
    next : GoesOn false l m → (r : Location) → Mem r (combined m ms) → Before l r
    next g r h =
        let f : Follows m r = follows m ms s.2 r h in
        let n : Near l m = s.1 m (here refl) in
        record {
          address_le = omega (arith, f.address_le, n.address_le);
          gap = λ e.
              let p : l.address ≡ m.address = omega (arith, f.address_le, n.address_le) in
              let q : ¬ (l.destroyed ≡ m.created) = g p in
              omega (arith, n.touch p, f.created_le (sym p ∙ e));
        }

    go : (o : Bool) → GoesOn o l m → Spread Before (combined m ms) → (Spread Near (lengthened l m ∷ ms) → Spread Before (combined (lengthened l m) ms)) → Spread Before (cond o (combined (lengthened l m) ms) (l ∷ combined m ms))
    go true g ih₁ ih₂ = ih₂ (long l m ms g s)
    go false g ih₁ ih₂ = (s.0, next g, ih₁)

-- ── the rows cover what the places cover ──

pub combined_here : {a t : ℕ} (l : Location) (ms : List Location) → Here (combined l ms) a t → Here (l ∷ ms) a t
combined_here l [] h = h
combined_here {a} {t} l (m ∷ ms) h = go (goes_on l m) (goes l m) (combined_here m ms) (combined_here (lengthened l m) ms) h
  where
    stop : (Here (combined m ms) a t → Here (m ∷ ms) a t) → At l a t ⊎ Here (combined m ms) a t → Here (l ∷ m ∷ ms) a t
    stop ih (inl x) = here_head x
    stop ih (inr k) = here_tail (ih k)

    which : GoesOn true l m → At (lengthened l m) a t → (t < l.destroyed) ⊎ (l.destroyed ≤ t) → Here (l ∷ m ∷ ms) a t
    which g x (inl k) = here_head (record { there = x.there; lives = record { from = x.lives.from; till = k } })
    which g x (inr k) = here_tail (here_head (record { there = omega (arith, x.there, g.0); lives = record { from = omega (arith, g.1); till = x.lives.till } }))

    on : GoesOn true l m → At (lengthened l m) a t ⊎ Here ms a t → Here (l ∷ m ∷ ms) a t
    on g (inl x) = which g x (cases_lt t l.destroyed)
    on g (inr k) = here_tail (here_tail k)

    go : (o : Bool) → GoesOn o l m → (Here (combined m ms) a t → Here (m ∷ ms) a t) → (Here (combined (lengthened l m) ms) a t → Here (lengthened l m ∷ ms) a t) → Here (cond o (combined (lengthened l m) ms) (l ∷ combined m ms)) a t → Here (l ∷ m ∷ ms) a t
    go true g ih₁ ih₂ h = on g (here_cases (ih₂ h))
    go false g ih₁ ih₂ h = stop ih₁ (here_cases h)

pub here_combined : {a t : ℕ} (l : Location) (ms : List Location) → Spread Near (l ∷ ms) → Here (l ∷ ms) a t → Here (combined l ms) a t
here_combined l [] s h = h
here_combined {a} {t} l (m ∷ ms) s h = go (goes_on l m) (goes l m) (here_combined m ms s.2) (here_combined (lengthened l m) ms) (here_cases h)
  where
    second : GoesOn true l m → At m a t ⊎ Here ms a t → Here (lengthened l m ∷ ms) a t
    second g (inl x) = here_head (record { there = g.0 ∙ x.there; lives = record { from = omega (arith, s.0, g.1, x.lives.from); till = x.lives.till } })
    second g (inr k) = here_tail k

    on : GoesOn true l m → At l a t ⊎ Here (m ∷ ms) a t → Here (lengthened l m ∷ ms) a t
    on g (inl x) = here_head (record { there = x.there; lives = record { from = x.lives.from; till = omega (arith, s.2.0, g.1, x.lives.till) } })
    on g (inr k) = second g (here_cases k)

    stop : (Here (m ∷ ms) a t → Here (combined m ms) a t) → At l a t ⊎ Here (m ∷ ms) a t → Here (l ∷ combined m ms) a t
    stop ih (inl x) = here_head x
    stop ih (inr k) = here_tail (ih k)

    go : (o : Bool) → GoesOn o l m → (Here (m ∷ ms) a t → Here (combined m ms) a t) → (Spread Near (lengthened l m ∷ ms) → Here (lengthened l m ∷ ms) a t → Here (combined (lengthened l m) ms) a t) → At l a t ⊎ Here (m ∷ ms) a t → Here (cond o (combined (lengthened l m) ms) (l ∷ combined m ms)) a t
    go true g ih₁ ih₂ h = ih₂ (long l m ms g s) (on g h)
    go false g ih₁ ih₂ h = stop ih₁ h

-- The members of a list of rows with gaps between them are the longest runs of what the list covers. Assumes nothing.
use Prim.Native.Nat.{ℕ, suc, pred, ◌≤◌, ◌<◌}
use native.Mathlib.Omega.{arith}
use mathlib.Core.Path.{◌≡◌, refl, sym, ap, ◌∙◌, subst}
use mathlib.Core.Logic.{◌⊎◌, inl, inr}
use mathlib.Core.List.Memᴰ.{cast}
use mathlib.Core.List.Memᴰ.{head as here}
use mathlib.Core.List.Memᴰ.{tail as later}
use mathlib.Core.List.{List, [], ◌∷◌, Memᴰ as Mem}
use Rattle.definitions.specs.Location.{Location, Sorted, Less}
use Rattle.definitions.specs.Blocks.{Piece}
use Rattle.definitions.specs.Rows.{Before}
use Rattle.definitions.specs.Runs.{Stands, LongestRun}
use Rattle.definitions.proofs.Order.{location_path}
use Rattle.definitions.proofs.Combine.{Here, Spread}

pub spread_some : (R : Location → Location → Type 0) (ls : List Location) → Spread R ls → {x : Location} → Mem x ls → x.created < x.destroyed
spread_some R [] s x4 = elim x4 [ ]
spread_some R (l ∷ ls) s (here e) = subst (λ (y : Location). y.created < y.destroyed) (sym e) s.0
spread_some R (l ∷ ls) s (later h) = spread_some R ls s.2 h

pub spread_sorted : (R : Location → Location → Type 0) (ls : List Location) → Spread R ls → Sorted R ls
spread_sorted R [] s = tt
spread_sorted R (l ∷ ls) s = (s.1, spread_sorted R ls s.2)

-- of two members one is before the other, or they are the same
pub spread_cases : (R : Location → Location → Type 0) (ls : List Location) → Spread R ls → {x y : Location} → Mem x ls → Mem y ls → (x ≡ y) ⊎ (R x y ⊎ R y x)
spread_cases R [] s {x = x} {y = y} x5 _ = elim x5 [ ]
spread_cases R (l ∷ ls) s (here e) (here f) = inl (e ∙ sym f)
spread_cases R (l ∷ ls) s {x} {y} (here e) (later k) = inr (inl (subst (λ (z : Location). R z y) (sym e) (s.1 y k)))
spread_cases R (l ∷ ls) s {x} {y} (later h) (here f) = inr (inr (subst (λ (z : Location). R z x) (sym f) (s.1 x h)))
spread_cases R (l ∷ ls) s (later h) (later k) = spread_cases R ls s.2 h k

pub before_less : (ls : List Location) → Spread Before ls → Sorted Less ls
before_less [] s = tt
before_less (l ∷ ls) s = (next, before_less ls s.2)
  where
    next : (m : Location) → Mem m ls → Less l m
    next m h =
        let b : Before l m = s.1 m h in
        record { by_address = b.address_le; by_created = λ e. omega (arith, s.0, b.gap e); by_destroyed = λ e c. omega (arith, s.0, b.gap e) }

module _ (rs : List Location) (s : Spread Before rs) where
  ends : (r : Location) → Mem r rs → ¬ Here rs r.address r.destroyed
  ends r h k = go (spread_cases Before rs s h k.listed)
    where
      go : (r ≡ k.place) ⊎ (Before r k.place ⊎ Before k.place r) → ⊥
      go (inl e) = omega (arith, ap (λ (x : Location). x.destroyed) e, k.lives.till)
      go (inr (inl b)) = omega (arith, b.gap (sym k.there), k.lives.from)
      go (inr (inr b)) = omega (arith, b.gap k.there, k.lives.till, spread_some Before rs s h)

  begins : (r : Location) → Mem r rs → (t : ℕ) → suc t ≡ r.created → ¬ Here rs r.address t
  begins r h t e k = go (spread_cases Before rs s h k.listed)
    where
      go : (r ≡ k.place) ⊎ (Before r k.place ⊎ Before k.place r) → ⊥
      go (inl f) = omega (arith, ap (λ (x : Location). x.created) f, k.lives.from)
      go (inr (inl b)) = omega (arith, b.gap (sym k.there), k.lives.from, spread_some Before rs s h)
      go (inr (inr b)) = omega (arith, b.gap k.there, k.lives.till)

  module _ (ps : List Piece) (q : List ℕ) (to : (a t : ℕ) → Stands ps q a t → Here rs a t) (fro : (a t : ℕ) → Here rs a t → Stands ps q a t) where
    pub row_is_run : (r : Location) → Mem r rs → LongestRun ps q r
    row_is_run r h = record {
      some = spread_some Before rs s h;
      all = λ t l. fro r.address t (record { place = r; listed = h; there = refl; lives = l });
      ends = λ k. ends r h (to r.address r.destroyed k);
      begins = λ t e k. begins r h t e (to r.address t k);
    }

    -- the row that covers the run's first tick is the run
    whole : (r : Location) → LongestRun ps q r → (x : Here rs r.address r.created) → r ≡ x.place
    whole r k x = location_path (sym x.there) (omega (arith, no_earlier, x.lives.from)) (omega (arith, no_shorter, no_longer))
      where
        at : (t : ℕ) → x.place.created ≤ t → t < x.place.destroyed → Stands ps q r.address t
        at t h i = fro r.address t (record { place = x.place; listed = x.listed; there = x.there; lives = record { from = h; till = i } })

        no_earlier : ¬ (x.place.created < r.created)
        no_earlier h = k.begins (pred r.created) (omega arith) (at (pred r.created) (omega arith) (omega (arith, x.lives.till)))

        no_shorter : ¬ (x.place.destroyed < r.destroyed)
        no_shorter h = ends x.place x.listed (subst (λ (a : ℕ). Here rs a x.place.destroyed) (sym x.there) (to r.address x.place.destroyed (k.all x.place.destroyed (record { from = omega (arith, x.lives.till); till = h }))))

        no_longer : ¬ (r.destroyed < x.place.destroyed)
        no_longer h = k.ends (at r.destroyed (omega (arith, x.lives.from, k.some)) h)

    pub run_is_row : (r : Location) → LongestRun ps q r → Mem r rs
    run_is_row r k =
        let x : Here rs r.address r.created = to r.address r.created (k.all r.created (record { from = omega arith; till = k.some })) in
        cast (whole r k x) x.listed

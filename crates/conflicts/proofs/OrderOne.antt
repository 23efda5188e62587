-- As many numbers of pieces with a byte, in line, are the order. Assumes nothing.
use Prim.Native.Nat.{ℕ, zero, suc, ◌+◌, ◌-◌, ◌≤◌, ◌<◌}
use native.Mathlib.Omega.{arith}
use mathlib.Core.Path.{◌≡◌, sym, ap, ◌∙◌}
use mathlib.Core.Logic.{◌⊎◌, inl, inr}
use mathlib.Core.List.{List}
use lib.ListN.{length}
use Rattle.std.proofs.lemmas.Bool.{cases_lt}
use Rattle.definitions.specs.Location.{Location}
use Rattle.definitions.specs.Blocks.{Piece}
use Rattle.conflicts.specs.Lined.{Ahead, Lined}
use Rattle.conflicts.specs.Order.{Entry, ordered, nth, entry}
use Rattle.conflicts.specs.Promises.{filled, OrderedOne}
use Rattle.conflicts.proofs.Numbers.{Choice, Chosen, choose}
use Rattle.conflicts.proofs.Order.{Precedes, ordered_count, ordered_ascending}
use Rattle.conflicts.proofs.OrderFree.{Placed, placed}

-- ── n numbers below n that grow are 0 to n - 1 ──

grows_from : (n : ℕ) (f : ℕ → ℕ) → ((i j : ℕ) → i < j → j < n → f i < f j) → (i : ℕ) → i < n → i ≤ f i
grows_from n f g zero h = omega arith
grows_from n f g (suc i) h = omega (arith, g i (suc i) (omega arith) h, grows_from n f g i (omega arith))

-- d more follow
grows_upto : (n : ℕ) (f : ℕ → ℕ) → ((i j : ℕ) → i < j → j < n → f i < f j) → ((i : ℕ) → i < n → f i < n) → (d i : ℕ) → i + d < n → f i + d < n
grows_upto n f g b zero i h = omega (arith, b i (omega arith))
grows_upto n f g b (suc d) i h = omega (arith, g i (suc i) (omega arith) (omega arith), grows_upto n f g b d (suc i) (omega arith))

grows_is : (n : ℕ) (f : ℕ → ℕ) → ((i j : ℕ) → i < j → j < n → f i < f j) → ((i : ℕ) → i < n → f i < n) → (i : ℕ) → i < n → f i ≡ i
grows_is n f g b i h = omega (arith, grows_from n f g i h, grows_upto n f g b (n - suc i) i (omega arith))

-- ── the order ──

module _ (ps : List Piece) (num : ℕ → ℕ) (inside : (i : ℕ) → i < filled ps → num i < length ps) (some : (i : ℕ) → i < filled ps → 0 < length (nth ps (num i)).bytes) (s : Lined (filled ps) (λ i. (nth ps (num i)).at)) where
  -- a place in the order for number i
  record Stood (i x : ℕ) : Type 0 where
    below : x < length (ordered ps)
    is : entry (ordered ps) x ≡ record { number = num i; piece = nth ps (num i) }

  stood : Chosen Stood (filled ps)
  stood = choose Stood (filled ps) (λ i h. go i (placed ps (num i) (inside i h) (some i h)))
    where
      go : (i : ℕ) → Placed ps (num i) → Choice Stood i
      go i w = record { number = w.index; right = record { below = w.inside; is = w.is } }

  abbrev at : ℕ → ℕ
  at i = stood.pick i

  -- the location there
  same : (i : ℕ) → i < filled ps → (entry (ordered ps) (at i)).piece.at ≡ (nth ps (num i)).at
  same i h = ap (λ (e : Entry). e.piece.at) (stood.right i h).is

  -- numbers in line stand one behind the other
  grows : (i j : ℕ) → i < j → j < filled ps → at i < at j
  grows i j h k = go (cases_lt (at i) (at j))
    where
      l : Location
      l = (nth ps (num i)).at

      m : Location
      m = (nth ps (num j)).at

      level : l ≡ m → ⊥
      level e = omega (arith, (s.ahead i j h k).by_life (ap (λ (x : Location). x.address) e), ap (λ (x : Location). x.created) e, s.alive i (omega arith))

      behind : Precedes (entry (ordered ps) (at j)) (entry (ordered ps) (at i)) → ⊥
      behind w =
          let p : (entry (ordered ps) (at i)).piece.at ≡ l = same i (omega arith) in
          let q : (entry (ordered ps) (at j)).piece.at ≡ m = same j k in
          let pa : (entry (ordered ps) (at i)).piece.at.address ≡ l.address = ap (λ (x : Location). x.address) p in
          let qa : (entry (ordered ps) (at j)).piece.at.address ≡ m.address = ap (λ (x : Location). x.address) q in
          let pc : (entry (ordered ps) (at i)).piece.at.created ≡ l.created = ap (λ (x : Location). x.created) p in
          let qc : (entry (ordered ps) (at j)).piece.at.created ≡ m.created = ap (λ (x : Location). x.created) q in
          let v : Ahead l m = s.ahead i j h k in
          let e : l.address ≡ m.address = omega (arith, v.by_address, w.by_address) in
          omega (arith, v.by_life e, w.by_created (omega arith), s.alive i (omega arith))

      turned : (at j < at i) ⊎ (at i ≤ at j) → at j ≤ at i → ⊥
      turned (inr o) p = let z : at i ≡ at j = omega arith in level (sym (same i (omega arith)) ∙ ap (λ (x : ℕ). (entry (ordered ps) x).piece.at) z ∙ same j k)
      turned (inl o) p = behind (ordered_ascending ps (at j) (at i) o (stood.right i (omega arith)).below)

      go : (at i < at j) ⊎ (at j ≤ at i) → at i < at j
      go (inl o) = o
      go (inr o) = absurd (turned (cases_lt (at j) (at i)) o)

  one : (i : ℕ) → i < filled ps → (entry (ordered ps) i).number ≡ num i
  one i h =
      let e : at i ≡ i = grows_is (filled ps) at grows (λ j k. omega (arith, (stood.right j k).below, ordered_count ps)) i h in
      ap (λ (x : ℕ). (entry (ordered ps) x).number) (sym e) ∙ ap (λ (x : Entry). x.number) (stood.right i h).is

pub ordered_one : OrderedOne
ordered_one ps num inside some s = one ps num inside some s

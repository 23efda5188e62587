-- The first row of places in bytes: how many places it has, what it is, and which rows are left. Assumes nothing.
use Prim.Native.Nat.{ℕ, zero, suc, ◌+◌, ◌-◌, ◌*◌, ◌≤◌, ◌<◌}
use native.Mathlib.Nat.{not-suc-le-zero}
use native.Mathlib.Omega.{arith}
use mathlib.Core.Path.{◌≡◌, refl, ap, subst, ◌∙◌}
use mathlib.Core.Bool.{Bool, true, false, cond}
use mathlib.Core.List.{List, [], ◌∷◌}
use Rattle.words.specs.Words.{le64}
use Rattle.definitions.specs.Location.{Location, location_at, locations_in}
use Rattle.definitions.specs.Rows.{goes_on, lengthened, combined, combine_split_times}
use Rattle.row_buffer.specs.RowPlaces.{row_at, ended, going_on, row_size}

module _ (s : List ℕ) where
  -- the first of n places, and those behind it
  pub locations_step : (n p : ℕ) → 0 < n → locations_in s n p ≡ location_at s p ∷ locations_in s (n - 1) (p + 24)
  unfolding locations_in
  locations_step zero p h = absurd (not-suc-le-zero h)
  locations_step (suc n) p h =
      let e : suc n - 1 ≡ n = omega arith in
      rw e

  pub locations_none : (n p : ℕ) → n ≡ 0 → locations_in s n p ≡ []
  unfolding locations_in
  locations_none n p e = rw e

  going_le : (n p : ℕ) (l : Location) → going_on l (locations_in s n p) ≤ n
  unfolding locations_in going_on
  going_le zero p l = omega arith
  going_le (suc n) p l = go (goes_on l (location_at s p)) (going_le n (p + 24) (lengthened l (location_at s p)))
    where
      go : (o : Bool) → going_on (lengthened l (location_at s p)) (locations_in s n (p + 24)) ≤ n
          → cond o (suc (going_on (lengthened l (location_at s p)) (locations_in s n (p + 24)))) 0 ≤ suc n
      go true h = omega arith
      go false h = omega arith

  -- the end of the row of l and the g places from byte p on
  end_at : Location → ℕ → ℕ → ℕ
  end_at l p zero = l.destroyed
  end_at l p (suc g) = le64 s (p + g * 24 + 16)

  -- a row that so far ends with the place at byte p
  end_next : (l : Location) (p : ℕ) → l.destroyed ≡ le64 s (p + 16) → (g : ℕ) → end_at l (p + 24) g ≡ le64 s (p + g * 24 + 16)
  unfolding end_at
  end_next l p e zero =
      let f : p + 0 * 24 + 16 ≡ p + 16 = omega arith in
      rw f e
  end_next l p e (suc g) =
      let f : p + 24 + g * 24 + 16 ≡ p + suc g * 24 + 16 = omega arith in
      rw f

  long : Location → ℕ → Location
  long l d = record { address = l.address; created = l.created; destroyed = d }

  combined_at : (n p : ℕ) (l : Location) (g : ℕ) → g ≡ going_on l (locations_in s n p)
      → combined l (locations_in s n p) ≡ long l (end_at l p g) ∷ combine_split_times (locations_in s (n - g) (p + g * 24))
  unfolding locations_in going_on end_at long
  combined_at zero p l g e =
      let z : g ≡ 0 = e in
      rw z
  combined_at (suc n) p l g e = go (goes_on l m) e (combined_at n (p + 24) (lengthened l m))
    where
      m : Location
      m = location_at s p

      ms : List Location
      ms = locations_in s n (p + 24)

      go : (o : Bool) → g ≡ cond o (suc (going_on (lengthened l m) ms)) 0
          → ((g : ℕ) → g ≡ going_on (lengthened l m) ms → combined (lengthened l m) ms ≡ long l (end_at (lengthened l m) (p + 24) g) ∷ combine_split_times (locations_in s (n - g) (p + 24 + g * 24)))
          → cond o (combined (lengthened l m) ms) (l ∷ combined m ms) ≡ long l (end_at l p g) ∷ combine_split_times (locations_in s (suc n - g) (p + g * 24))
      go true e ih =
          let h : ℕ = going_on (lengthened l m) ms in
          let a : suc n - suc h ≡ n - h = omega arith in
          let b : p + 24 + h * 24 ≡ p + suc h * 24 = omega arith in
          ih h refl ∙ rw (e, end_next (lengthened l m) p refl h, a, b) refl
      go false e ih =
          let a : p + 0 * 24 ≡ p = omega arith in
          let b : suc n - 0 ≡ suc n = omega arith in
          rw (e, a, b)

  -- k of the n places from byte p on are of the first row
  module _ (n p k : ℕ) (some : 0 < n) (e : k ≡ row_size (locations_in s n p)) where
    l : Location
    l = location_at s p

    more : ℕ
    more = going_on (location_at s p) (locations_in s (n - 1) (p + 24))

    size : k ≡ suc more
    unfolding row_size more
    size = rw (locations_step n p some) at e

    pub row_some : 1 ≤ k
    row_some = omega (arith, size)

    pub row_within : k ≤ n
    unfolding more
    row_within = omega (arith, size, going_le (n - 1) (p + 24) (location_at s p))

    pub rows_first : combine_split_times (locations_in s n p)
        ≡ row_at s p (p + (k - 1) * 24) ∷ combine_split_times (locations_in s (n - k) (p + k * 24))
    unfolding l more long
    rows_first =
        let a : n - 1 - more ≡ n - k = omega (arith, size) in
        let b : p + 24 + more * 24 ≡ p + k * 24 = omega (arith, size) in
        let d : more ≡ k - 1 = omega (arith, size) in
        let f : end_at l (p + 24) more ≡ le64 s (p + (k - 1) * 24 + 16) = end_next l p refl more ∙ ap (λ (g : ℕ). le64 s (p + g * 24 + 16)) d in
        ap combine_split_times (locations_step n p some) ∙ combined_at (n - 1) (p + 24) l more refl ∙ rw (a, b, f) refl

-- ── the loop of `row_end`: u of the n places are of the row, which so far ends at `end` ──

pub record Going (s : List ℕ) (n at end u : ℕ) : Type 0 where
  pub from : 1 ≤ u
  pub upto : u ≤ n
  pub size : row_size (locations_in s n at)
      ≡ u + going_on (record { address = le64 s at; created = le64 s (at + 8); destroyed = end }) (locations_in s (n - u) (at + u * 24))

pub going_start : (s : List ℕ) (n at end : ℕ) → 0 < n → end ≡ le64 s (at + 16) → Going s n at end 1
unfolding row_size
going_start s n at end h e =
    let a : at + 1 * 24 ≡ at + 24 = omega arith in
    record { from = omega arith; upto = h; size = rw (locations_step s n at h, a, e) (omega arith) }

module _ {s : List ℕ} {n at end u : ℕ} (g : Going s n at end u) where
  -- all of them are
  pub going_done : n ≤ u → u ≡ row_size (locations_in s n at)
  unfolding going_on
  going_done h =
      let z : n - u ≡ 0 = omega arith in
      let f = rw (locations_none s (n - u) (at + u * 24) z) at g.size in
      omega arith

  module _ (h : u < n) (address : ℕ) (same : address ≡ le64 s at) where
    row : Location
    row = record { address = le64 s at; created = le64 s (at + 8); destroyed = end }

    next : Location
    next = location_at s (at + u * 24)

    behind : List Location
    behind = locations_in s (n - (u + 1)) (at + (u + 1) * 24)

    split : locations_in s (n - u) (at + u * 24) ≡ next ∷ behind
    unfolding next behind
    split =
        let a : n - u - 1 ≡ n - (u + 1) = omega arith in
        let b : at + u * 24 + 24 ≡ at + (u + 1) * 24 = omega arith in
        locations_step s (n - u) (at + u * 24) (omega arith) ∙ rw (a, b) refl

    tested : {o : Bool} → goes_on (ended address end) (location_at s (at + u * 24)) ≡ o → goes_on row next ≡ o
    unfolding row next
    tested {o} t = subst (λ (a : ℕ). goes_on (ended a end) (location_at s (at + u * 24)) ≡ o) same t

    -- the next one is not
    pub going_stop : goes_on (ended address end) (location_at s (at + u * 24)) ≡ false → u ≡ row_size (locations_in s n at)
    unfolding going_on row
    going_stop t =
        let f : row_size (locations_in s n at) ≡ u + 0 = g.size ∙ rw split (rw (tested t) refl) in
        omega arith

    -- the next one is, and ends at `end'`
    pub going_again : (end' : ℕ) → goes_on (ended address end) (location_at s (at + u * 24)) ≡ true → end' ≡ le64 s (at + u * 24 + 16) → Going s n at end' (u + 1)
    unfolding going_on row next behind
    going_again end' t e = record {
      from = omega arith;
      upto = omega arith;
      size = g.size ∙ rw split (rw (tested t, ← e) (omega arith));
    }

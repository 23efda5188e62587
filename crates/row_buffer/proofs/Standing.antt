-- Rows written to the front of the bytes that their places stand in: they fit there, and are read back. Assumes nothing.
use Prim.Native.Nat.{ℕ, zero, suc, ◌+◌, ◌*◌, ◌≤◌, ◌<◌}
use native.Mathlib.Omega.{arith}
use mathlib.Core.Path.{◌≡◌, refl, ap, ◌∙◌}
use mathlib.Core.Bool.{Bool, true, false, cond}
use mathlib.Core.Logic.{inl}
use mathlib.Core.List.{List, [], ◌∷◌, ◌++◌}
use lib.ListN.{length, get_or}
use lib.Seq.{sets, length-sets}
use Rattle.words.proofs.Parts.{sets_append}
use Rattle.definitions.specs.Location.{Location, location_at, location_bytes, locations_in, locations_bytes}
use Rattle.definitions.specs.Rows.{goes_on, lengthened, combined, combine_split_times}
use Rattle.location.specs.Fits.{Fits}
use Rattle.location.proofs.Bytes.{length_location, location_other, location_written, location_fits}
use Rattle.definitions.proofs.Locations.{length_locations}

-- ── locations that fit ──

-- 24 bytes hold each of them
AllFit : List Location → Type 0
AllFit [] = Unit {0}
AllFit (l ∷ ls) = Fits l × AllFit ls

read_fit : (n : ℕ) (s : List ℕ) (at : ℕ) → ((k : ℕ) → get_or s k 0 < 256) → AllFit (locations_in s n at)
unfolding AllFit locations_in
read_fit zero s at b = tt
read_fit (suc n) s at b = (location_fits s at b, read_fit n s (at + 24) b)

combined_fit : (ls : List Location) (l : Location) → Fits l → AllFit ls → AllFit (combined l ls)
unfolding AllFit
combined_fit [] l f fs = (f, tt)
combined_fit (m ∷ ms) l f fs = go (goes_on l m) (combined_fit ms (lengthened l m) (record { address = f.address; created = f.created; destroyed = fs.0.destroyed }) fs.1) (combined_fit ms m fs.0 fs.1)
  where
    go : (o : Bool) → AllFit (combined (lengthened l m) ms) → AllFit (combined m ms) → AllFit (cond o (combined (lengthened l m) ms) (l ∷ combined m ms))
    go true on anew = on
    go false on anew = (f, anew)

rows_all_fit : (ls : List Location) → AllFit ls → AllFit (combine_split_times ls)
unfolding AllFit
rows_all_fit [] fs = tt
rows_all_fit (l ∷ ls) fs = combined_fit ls l fs.0 fs.1

-- ── there are no more rows than places ──

combined_few : (ls : List Location) (l : Location) → length (combined l ls) ≤ suc (length ls)
combined_few [] l = omega arith
combined_few (m ∷ ms) l = go (goes_on l m) (combined_few ms (lengthened l m)) (combined_few ms m)
  where
    go : (o : Bool) → length (combined (lengthened l m) ms) ≤ suc (length ms) → length (combined m ms) ≤ suc (length ms)
        → length (cond o (combined (lengthened l m) ms) (l ∷ combined m ms)) ≤ suc (suc (length ms))
    go true on anew = omega arith
    go false on anew = omega arith

rows_few : (ls : List Location) → length (combine_split_times ls) ≤ length ls
rows_few [] = omega arith
rows_few (l ∷ ls) = combined_few ls l

-- ── written, and read back ──

stand : (ls : List Location) (s : List ℕ) (at : ℕ) → AllFit ls → at + length ls * 24 ≤ length s → locations_in (sets s at (locations_bytes ls)) (length ls) at ≡ ls
unfolding AllFit locations_in locations_bytes
stand [] s at f h = refl
stand (l ∷ ls) s at f h =
    let s₁ : List ℕ = sets s at (location_bytes l) in
    let len : length s₁ ≡ length s = length-sets s at (location_bytes l) in
    let e : sets s at (location_bytes l ++ locations_bytes ls) ≡ sets s₁ (at + 24) (locations_bytes ls) =
    sets_append s at (location_bytes l) (locations_bytes ls) ∙ ap (λ (i : ℕ). sets s₁ (at + i) (locations_bytes ls)) (length_location l) in
    let first : location_at (sets s₁ (at + 24) (locations_bytes ls)) at ≡ l = location_other (locations_bytes ls) s₁ (at + 24) at (inl (omega arith)) ∙ location_written s at l f.0 (omega arith) in
    let rest = stand ls s₁ (at + 24) f.1 (omega arith) in
    let both : location_at (sets s₁ (at + 24) (locations_bytes ls)) at ∷ locations_in (sets s₁ (at + 24) (locations_bytes ls)) (length ls) (at + 24) ≡ l ∷ ls = rw (first, rest) refl in
    ap (λ (t : List ℕ). locations_in t (suc (length ls)) at) e ∙ both

module _ (s : List ℕ) (n at : ℕ) (h : at + n * 24 ≤ length s) where
  -- the rows have room at the front
  pub rows_fit : length (combine_split_times (locations_in s n at)) * 24 ≤ length s
  rows_fit = omega (arith, rows_few (locations_in s n at), length_locations n s at)

  -- once they are written there, they are read back
  pub rows_stand : ((k : ℕ) → get_or s k 0 < 256)
      → locations_in (sets s 0 (locations_bytes (combine_split_times (locations_in s n at)))) (length (combine_split_times (locations_in s n at))) 0 ≡ combine_split_times (locations_in s n at)
  rows_stand b = stand (combine_split_times (locations_in s n at)) s 0 (rows_all_fit (locations_in s n at) (read_fit n s at b)) (omega (arith, rows_fit))

  -- and the length stays
  pub rows_kept : length (sets s 0 (locations_bytes (combine_split_times (locations_in s n at)))) ≡ length s
  rows_kept = length-sets s 0 (locations_bytes (combine_split_times (locations_in s n at)))

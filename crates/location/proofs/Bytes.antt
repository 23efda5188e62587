-- Locations in bytes: what is written is read back, what lies elsewhere is as it was, and a location is 24 bytes. Assumes nothing.
use Prim.Native.Nat.{ℕ, ◌+◌, ◌≤◌, ◌<◌}
use native.Mathlib.Omega.{arith}
use mathlib.Core.Path.{◌≡◌, ◌∙◌}
use mathlib.Core.Logic.{◌⊎◌, inl, inr}
use mathlib.Core.List.{List, ◌++◌}
use lib.ListN.{length, get_or, length-append}
use lib.Seq.{sets}
use Rattle.words.specs.Words.{set_le64, bytes64}
use Rattle.words.proofs.Laws.{length_set_le64, le64_set_le64, le64_set_le64_other, le64_lt}
use Rattle.words.proofs.Parts.{sets_append, length_bytes64, set_le64_sets, le64_sets_other}
use Rattle.definitions.proofs.Order.{location_path}
use Rattle.definitions.specs.Location.{Location, location_at, location_bytes}
use Rattle.location.specs.Fits.{Fits}

-- a location is 24 bytes
pub length_location : (l : Location) → length (location_bytes l) ≡ 24
length_location l =
    simp length-append (omega (arith, length_bytes64 l.address, length_bytes64 l.created, length_bytes64 l.destroyed))

-- the three numbers written one after the other
pub put_numbers : (xs : List ℕ) (at : ℕ) (l : Location)
    → set_le64 (set_le64 (set_le64 xs at l.address) (at + 8) l.created) (at + 16) l.destroyed ≡ sets xs at (location_bytes l)
put_numbers xs at l =
    let a : List ℕ = bytes64 l.address in
    let b : List ℕ = bytes64 l.created in
    let c : List ℕ = bytes64 l.destroyed in
    simp set_le64_sets (rw (sets_append xs at (a ++ b) c, sets_append xs at a b, length-append a b, length_bytes64 l.address, length_bytes64 l.created))

-- the same, by what each write says of the list before it
pub put_in_turn : (xs ys zs ws : List ℕ) (at : ℕ) (l : Location)
    → ys ≡ set_le64 xs at l.address → zs ≡ set_le64 ys (at + 8) l.created → ws ≡ set_le64 zs (at + 16) l.destroyed
    → ws ≡ sets xs at (location_bytes l)
put_in_turn xs ys zs ws at l p q r = cc (put_numbers xs at l)

-- a list written elsewhere leaves a location as it was
pub location_other : (ys xs : List ℕ) (at p : ℕ) → (p + 24 ≤ at) ⊎ (at + length ys ≤ p) → location_at (sets xs at ys) p ≡ location_at xs p
location_other ys xs at p (inl h) =
    location_path
    (le64_sets_other ys xs at p (inl (omega arith)))
    (le64_sets_other ys xs at (p + 8) (inl (omega arith)))
    (le64_sets_other ys xs at (p + 16) (inl (omega arith)))
location_other ys xs at p (inr h) =
    location_path
    (le64_sets_other ys xs at p (inr (omega arith)))
    (le64_sets_other ys xs at (p + 8) (inr (omega arith)))
    (le64_sets_other ys xs at (p + 16) (inr (omega arith)))

module _ (xs : List ℕ) (at : ℕ) (l : Location) where
  -- what was written is read back
  pub location_written : Fits l → at + 24 ≤ length xs → location_at (sets xs at (location_bytes l)) at ≡ l
  location_written f h =
      let xs₁ : List ℕ = set_le64 xs at l.address in
      let xs₂ : List ℕ = set_le64 xs₁ (at + 8) l.created in
      let n₁ : length xs₁ ≡ length xs = length_set_le64 xs at l.address in
      let n₂ : length xs₂ ≡ length xs₁ = length_set_le64 xs₁ (at + 8) l.created in
      rw (← put_numbers xs at l)
      (location_path
      (le64_set_le64_other xs₂ (at + 16) l.destroyed at (inl (omega arith)) ∙ le64_set_le64_other xs₁ (at + 8) l.created at (inl (omega arith))
      ∙ le64_set_le64 xs at l.address (omega arith) f.address)
      (le64_set_le64_other xs₂ (at + 16) l.destroyed (at + 8) (inl (omega arith)) ∙ le64_set_le64 xs₁ (at + 8) l.created (omega arith) f.created)
      (le64_set_le64 xs₂ (at + 16) l.destroyed (omega arith) f.destroyed))

-- what is read from bytes fits
pub location_fits : (xs : List ℕ) (at : ℕ) → ((k : ℕ) → get_or xs k 0 < 256) → Fits (location_at xs at)
location_fits xs at b = record { address = le64_lt xs at b; created = le64_lt xs (at + 8) b; destroyed = le64_lt xs (at + 16) b }

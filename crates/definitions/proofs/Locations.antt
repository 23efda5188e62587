-- Locations in bytes: how many there are, one list behind another, one more, and each by its index. Assumes nothing.
use Prim.Native.Nat.{ℕ, zero, suc, ◌+◌, ◌*◌, ◌<◌}
use native.Mathlib.Nat.{not-suc-le-zero}
use native.Mathlib.Omega.{arith}
use mathlib.Core.Path.{◌≡◌, refl, ap, ◌∙◌}
use mathlib.Core.List.{List, [], ◌∷◌, ◌++◌}
use lib.ListN.{length, get_or}
use Rattle.definitions.specs.Location.{Location, location_at, locations_in}

pub length_locations : (n : ℕ) (s : List ℕ) (at : ℕ) → length (locations_in s n at) ≡ n
unfolding locations_in
length_locations zero s at = refl
length_locations (suc n) s at = ap suc (length_locations n s (at + 24))

pub locations_append : (n m : ℕ) (s : List ℕ) (at : ℕ) → locations_in s (n + m) at ≡ locations_in s n at ++ locations_in s m (at + n * 24)
unfolding locations_in
locations_append zero m s at =
    let e : 0 + m ≡ m = omega arith in
    let f : at + 0 * 24 ≡ at = omega arith in
    rw (e, f)
locations_append (suc n) m s at =
    let e : suc n + m ≡ suc (n + m) = omega arith in
    let f : at + 24 + n * 24 ≡ at + suc n * 24 = omega arith in
    let r = locations_append n m s (at + 24) in
    rw (e, r, f)

pub locations_snoc : (n : ℕ) (s : List ℕ) (at : ℕ) → locations_in s (n + 1) at ≡ locations_in s n at ++ (location_at s (at + n * 24) ∷ [])
unfolding locations_in
locations_snoc n s at = locations_append n 1 s at

pub get_or_locations : (n : ℕ) (s : List ℕ) (at i : ℕ) (d : Location) → i < n → get_or (locations_in s n at) i d ≡ location_at s (at + i * 24)
unfolding locations_in
get_or_locations zero s at i d h = absurd (not-suc-le-zero h)
get_or_locations (suc n) s at zero d h =
    let e : at + 0 * 24 ≡ at = omega arith in
    rw e
get_or_locations (suc n) s at (suc i) d h =
    let e : at + 24 + i * 24 ≡ at + suc i * 24 = omega arith in
    get_or_locations n s (at + 24) i d (omega arith) ∙ ap (location_at s) e

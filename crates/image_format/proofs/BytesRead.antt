-- The bytes of a number, of a list that was read stand where they were read. Assumes nothing.
use Prim.Native.Nat.{◌%◌, ◌*◌, ◌+◌, ◌/◌, suc, zero, ℕ}
use native.Mathlib.Omega.{arith}
use mathlib.Core.List.{List, ◌++◌}
use mathlib.Core.Path.{◌≡◌, sym}
use lib.ListN.{get_or, length, length-append}
use Rattle.definitions.specs.Location.{locations_in, locations_bytes}
use Rattle.definitions.proofs.Locations.{length_locations}
use Rattle.words.proofs.Parts.{length_bytes64}
use Rattle.words.specs.Words.{bytes64, bytes_n, le64, le_n}
use Rattle.words.specs.Holding.{Holds}
use Rattle.words.proofs.Holding.{holds_append}
use Rattle.image_format.specs.Image.{list_bytes}
use Rattle.image_format.specs.Savable.{AllBytes}

-- the bytes of a number that was read stand there
holds_num : (k : ℕ) (s : List ℕ) (at : ℕ) → AllBytes s → Holds s at (bytes_n k (le_n k s at))
unfolding Holds bytes_n le_n
holds_num zero s at a = tt
holds_num (suc k) s at a =
    let n = le_n k s (at + 1) in
    let r : (get_or s at 0 + 256 * n) % 256 ≡ get_or s at 0 = omega (arith, a at) in
    let q : (get_or s at 0 + 256 * n) / 256 ≡ n = omega (arith, a at) in
    (sym r, rw q (holds_num k s (at + 1) a))

pub holds_read : (s : List ℕ) (at : ℕ) → AllBytes s → Holds s at (bytes64 (le64 s at))
unfolding bytes64 le64
holds_read s at a = holds_num 8 s at a

pub locs_read : (s : List ℕ) (n at : ℕ) → AllBytes s → Holds s at (locations_bytes (locations_in s n at))
unfolding Holds locations_bytes locations_in
locs_read s zero at a = tt
locs_read s (suc n) at a =
    let x = bytes64 (le64 s at) in
    let y = bytes64 (le64 s (at + 8)) in
    let z = bytes64 (le64 s (at + 16)) in
    let xy : length (x ++ y) ≡ 16 = simp (length-append, length_bytes64) in
    let len : length (x ++ y ++ z) ≡ 24 = simp (length-append, length_bytes64) in
    holds_append s at 24 (x ++ y ++ z) (locations_bytes (locations_in s n (at + 24))) len
    (holds_append s at 16 (x ++ y) z xy
    (holds_append s at 8 x y (length_bytes64 (le64 s at)) (holds_read s at a) (holds_read s (at + 8) a)) (holds_read s (at + 16) a))
    (locs_read s n (at + 24) a)

pub list_read : (s : List ℕ) (x : ℕ) → AllBytes s → Holds s x (list_bytes (locations_in s (le64 s x) (x + 8)))
unfolding list_bytes
list_read s x a =
    rw (length_locations (le64 s x) s (x + 8))
    (holds_append s x 8 (bytes64 (le64 s x)) (locations_bytes (locations_in s (le64 s x) (x + 8))) (length_bytes64 (le64 s x)) (holds_read s x a) (locs_read s (le64 s x) (x + 8) a))

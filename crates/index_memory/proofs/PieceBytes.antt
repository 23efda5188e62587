-- A piece in bytes: it takes 48, what is written is read back, what lies elsewhere is as it was. Assumes nothing.
use Prim.Native.Nat.{ℕ, ◌+◌, ◌-◌, ◌≤◌, ◌<◌}
use native.Mathlib.Omega.{arith}
use mathlib.Core.Path.{◌≡◌, sym, ap, ◌∙◌}
use mathlib.Core.Logic.{inl}
use mathlib.Core.List.{List, ◌++◌}
use lib.ListN.{length, get_or, take, drop, replicate, length-append, length-replicate}
use lib.Seq.{sets, length-sets}
use Rattle.words.specs.Words.{le64, set_le64, bytes64}
use Rattle.words.proofs.Laws.{le64_ext, le64_set_le64, length_set_le64}
use Rattle.words.proofs.Parts.{sets_append, length_bytes64, set_le64_sets, le64_sets_other, take_sets}
use Rattle.definitions.specs.Location.{location_at, location_bytes}
use Rattle.definitions.specs.Blocks.{Piece}
use Rattle.location.specs.Fits.{Fits}
use Rattle.location.proofs.Bytes.{location_written}
use Rattle.index_memory.specs.Log.{piece_in, piece_bytes}
use Rattle.memory_header.proofs.Numbers.{part_ext, part_other}

-- a piece with the same bytes at the same place
pub piece_path : {p q : Piece} → p.bytes ≡ q.bytes → p.at.address ≡ q.at.address → p.at.created ≡ q.at.created
    → p.at.destroyed ≡ q.at.destroyed → p ≡ q
piece_path e a c d = λ i. record { bytes = e i; at = record { address = a i; created = c i; destroyed = d i } }

-- what 48 bytes can hold
pub record PieceFits (p : Piece) : Type 0 where
  pub small : length p.bytes ≤ 16
  pub place : Fits p.at

pub length_piece : (p : Piece) → length p.bytes ≤ 16 → length (piece_bytes p) ≡ 48
unfolding piece_bytes
length_piece p h = simp (length-append, length_bytes64, length-replicate) (omega arith)

-- the four parts written one after the other
pub piece_parts : (xs : List ℕ) (at : ℕ) (p : Piece) → length p.bytes ≤ 16
    → sets (sets (sets (set_le64 xs at (length p.bytes)) (at + 8) p.bytes) (at + 8 + length p.bytes) (replicate (16 - length p.bytes) 0)) (at + 24) (location_bytes p.at)
    ≡ sets xs at (piece_bytes p)
unfolding piece_bytes
piece_parts xs at p h =
    let n : ℕ = length p.bytes in
    let a : List ℕ = bytes64 n in
    let z : List ℕ = replicate (16 - n) 0 in
    let l : List ℕ = location_bytes p.at in
    let e : at + 8 + n + (16 - n) ≡ at + 24 = omega arith in
    rw (
      set_le64_sets xs at n,
      sets_append xs at a (p.bytes ++ (z ++ l)),
      length_bytes64 n,
      sets_append (sets xs at a) (at + 8) p.bytes (z ++ l),
      sets_append (sets (sets xs at a) (at + 8) p.bytes) (at + 8 + n) z l,
      length-replicate {A = ℕ} (16 - n) 0,
      e,
    )

module _ (xs : List ℕ) (at : ℕ) (p : Piece) (f : PieceFits p) (h : at + 48 ≤ length xs) where
  -- its length is read back
  pub size_written : le64 (sets xs at (piece_bytes p)) at ≡ length p.bytes
  size_written =
      let n : ℕ = length p.bytes in
      let z : List ℕ = replicate (16 - n) 0 in
      let l : List ℕ = location_bytes p.at in
      let xs₁ : List ℕ = set_le64 xs at n in
      let xs₂ : List ℕ = sets xs₁ (at + 8) p.bytes in
      let xs₃ : List ℕ = sets xs₂ (at + 8 + n) z in
      rw (← piece_parts xs at p f.small)
      (le64_sets_other l xs₃ (at + 24) at (inl (omega arith)) ∙ le64_sets_other z xs₂ (at + 8 + n) at (inl (omega arith))
      ∙ le64_sets_other p.bytes xs₁ (at + 8) at (inl (omega arith)) ∙ le64_set_le64 xs at n (omega arith) (omega (arith, f.small)))

  -- and so is all of it
  pub piece_written : piece_in (sets xs at (piece_bytes p)) at ≡ p
  piece_written =
      let n : ℕ = length p.bytes in
      let z : List ℕ = replicate (16 - n) 0 in
      let l : List ℕ = location_bytes p.at in
      let xs₁ : List ℕ = set_le64 xs at n in
      let xs₂ : List ℕ = sets xs₁ (at + 8) p.bytes in
      let xs₃ : List ℕ = sets xs₂ (at + 8 + n) z in
      let xs₄ : List ℕ = sets xs₃ (at + 24) l in
      let n₁ : length xs₁ ≡ length xs = length_set_le64 xs at n in
      let n₂ : length xs₂ ≡ length xs₁ = length-sets xs₁ (at + 8) p.bytes in
      let n₃ : length xs₃ ≡ length xs₂ = length-sets xs₂ (at + 8 + n) z in
      let all : xs₄ ≡ sets xs at (piece_bytes p) = piece_parts xs at p f.small in
      let size : le64 xs₄ at ≡ n = ap (λ (ys : List ℕ). le64 ys at) all ∙ size_written in
      let body : take n (drop (at + 8) xs₄) ≡ p.bytes =
      part_other n (at + 8) l xs₃ (at + 24) (inl (omega (arith, f.small))) ∙ part_other n (at + 8) z xs₂ (at + 8 + n) (inl (omega arith))
      ∙ take_sets p.bytes xs₁ (at + 8) (omega (arith, f.small)) in
      let place : location_at xs₄ (at + 24) ≡ p.at = location_written xs₃ (at + 24) p.at f.place (omega arith) in
      let whole : take (le64 xs₄ at) (drop (at + 8) xs₄) ≡ p.bytes = ap (λ (k : ℕ). take k (drop (at + 8) xs₄)) size ∙ body in
      ap (λ (ys : List ℕ). piece_in ys at) (sym all) ∙ (λ i. record { bytes = whole i; at = place i })

-- a piece of at most 16 bytes lies in its 48
pub piece_ext : (xs ys : List ℕ) (p : ℕ) → length xs ≡ length ys → le64 xs p ≤ 16 → ((k : ℕ) → p ≤ k → k < p + 48 → get_or xs k 0 ≡ get_or ys k 0)
    → piece_in xs p ≡ piece_in ys p
piece_ext xs ys p len s f =
    let n : le64 xs p ≡ le64 ys p = le64_ext xs ys p (λ k a b. f k (omega arith) (omega arith)) in
    let body : take (le64 xs p) (drop (p + 8) xs) ≡ take (le64 xs p) (drop (p + 8) ys) =
    part_ext (le64 xs p) (p + 8) xs ys len (λ k a b. f k (omega arith) (omega arith)) in
    piece_path
    (body ∙ ap (λ (k : ℕ). take k (drop (p + 8) ys)) n)
    (le64_ext xs ys (p + 24) (λ k a b. f k (omega arith) (omega arith)))
    (le64_ext xs ys (p + 24 + 8) (λ k a b. f k (omega arith) (omega arith)))
    (le64_ext xs ys (p + 24 + 16) (λ k a b. f k (omega arith) (omega arith)))

-- The first rows replaced one after the other, as `put_rows` does it: there are as many as before, and in the end the first n are those of the bytes. Assumes nothing.
use Prim.Native.Nat.{ℕ, zero, suc, ◌+◌, ◌*◌, ◌≤◌}
use native.Mathlib.Omega.{arith}
use mathlib.Core.Path.{◌≡◌, refl, sym, ap, ◌∙◌}
use mathlib.Core.List.{List, [], ◌∷◌, ◌++◌}
use lib.ListN.{length, set, drop, length-set}
use lib.Seq.{drop-cons, append_snoc, set_at}
use Rattle.definitions.specs.Location.{location_at, locations_in}
use Rattle.rows.specs.declared.Row.{Row}
use Rattle.definitions.proofs.Locations.{length_locations}
use Rattle.rows.specs.Rows.{row_of, rows_of, rows_over}
use Rattle.rows.proofs.Rows.{length_rows}

-- row i of those at the front of bytes
abbrev pub row_in : List ℕ → ℕ → Row
row_in s i = row_of (location_at s (i * 24))

-- the first n rows replaced
abbrev pub copied : List Row → List ℕ → ℕ → List Row
copied rows s zero = rows
copied rows s (suc n) = set (copied rows s n) n (row_in s n)

pub length_copied : (rows : List Row) (s : List ℕ) (n : ℕ) → length (copied rows s n) ≡ length rows
length_copied rows s zero = refl
length_copied rows s (suc n) = length-set (copied rows s n) n (row_in s n) ∙ length_copied rows s n

module _ (s : List ℕ) where
  -- one row more
  rows_more : (n at : ℕ) → rows_of (locations_in s (suc n) at) ≡ rows_of (locations_in s n at) ++ (row_of (location_at s (at + n * 24)) ∷ [])
  unfolding rows_of locations_in
  rows_more zero at =
      let e : at + 0 * 24 ≡ at = omega arith in
      rw e
  rows_more (suc n) at =
      let e : at + 24 + n * 24 ≡ at + suc n * 24 = omega arith in
      ap (λ (rs : List Row). row_of (location_at s at) ∷ rs) (rows_more n (at + 24) ∙ rw e refl)

  first_copied : (rows : List Row) (n : ℕ) → n ≤ length rows → copied rows s n ≡ rows_of (locations_in s n 0) ++ drop n rows
  unfolding rows_of locations_in
  first_copied rows zero h = refl
  first_copied rows (suc n) h =
      let first : List Row = rows_of (locations_in s n 0) in
      let y : Row = row_in s n in
      let e : 0 + n * 24 ≡ n * 24 = omega arith in
      ap (λ (l : List Row). set l n y) (first_copied rows n (omega arith) ∙ ap (λ (l : List Row). first ++ l) (drop-cons rows n y (omega arith)))
      ∙ set_at first _ (drop (suc n) rows) y n (length_rows (locations_in s n 0) ∙ length_locations n s 0)
      ∙ sym (append_snoc first y (drop (suc n) rows))
      ∙ ap (λ (l : List Row). l ++ drop (suc n) rows) (sym (rows_more n 0 ∙ ap (λ (p : ℕ). first ++ (row_of (location_at s p) ∷ [])) e))

  pub copied_is : (rows : List Row) (n : ℕ) → n ≤ length rows → copied rows s n ≡ rows_over (locations_in s n 0) rows
  copied_is rows n h = first_copied rows n h ∙ ap (λ (k : ℕ). rows_of (locations_in s n 0) ++ drop k rows) (sym (length_locations n s 0))

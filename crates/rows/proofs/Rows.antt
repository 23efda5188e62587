-- Locations as rows: as many, and they fix every location. Assumes nothing.
use Prim.Native.Nat.{ℕ, suc}
use native.Mathlib.Omega.{arith}
use mathlib.Core.Path.{◌≡◌, refl, ap}
use mathlib.Core.List.{List, [], ◌∷◌}
use lib.ListN.{length, take, drop}
use lib.Seq.{take_at}
use Rattle.definitions.specs.Location.{Location}
use Rattle.rows.specs.declared.Row.{Row}
use Rattle.rows.specs.Rows.{row_of, rows_of, rows_over}

pub length_rows : (ls : List Location) → length (rows_of ls) ≡ length ls
unfolding rows_of
length_rows [] = refl
length_rows (l ∷ ls) = ap suc (length_rows ls)

-- the same rows are those of the same locations
pub rows_fix : (ls ms : List Location) → rows_of ls ≡ rows_of ms → ls ≡ ms
unfolding rows_of
rows_fix [] [] e = refl
rows_fix [] (m ∷ ms) e =
    let z : ◌≡◌ {A = ℕ} 0 1 = cc in
    absurd (omega arith)
rows_fix (l ∷ ls) [] e =
    let z : ◌≡◌ {A = ℕ} 0 1 = cc in
    absurd (omega arith)
rows_fix (l ∷ ls) (m ∷ ms) e =
    let r : row_of l ≡ row_of m = cc in
    let t : rows_of ls ≡ rows_of ms = cc in
    let ih = rows_fix ls ms t in
    λ i. record { address = (r i).address; created = (r i).created_at; destroyed = (r i).destroyed_at } ∷ ih i

-- the first of lent rows are those handed over in them
pub first_over : (ls : List Location) (lent : List Row) → take (length ls) (rows_over ls lent) ≡ rows_of ls
first_over ls lent = take_at (rows_of ls) (drop (length ls) lent) (length ls) (length_rows ls)

-- The loop of `combine_split_times`, one row at a time: the rows so far and those of the places left are all. Assumes nothing.
use Prim.Native.Nat.{ℕ, ◌+◌, ◌-◌, ◌*◌, ◌≤◌, ◌<◌}
use native.Mathlib.Omega.{arith}
use mathlib.Core.Path.{◌≡◌, refl, sym, ap, ◌∙◌}
use mathlib.Core.Logic.{inr}
use mathlib.Core.List.{List}
use lib.ListN.{length, get_or}
use lib.Seq.{sets, length-sets}
use Rattle.words.proofs.Laws.{le64_ext}
use Rattle.words.proofs.Parts.{sets_append, get_or_sets_out}
use Rattle.definitions.specs.Location.{Location, location_bytes, locations_in, locations_bytes}
use Rattle.definitions.specs.Rows.{combine_split_times}
use Rattle.definitions.proofs.Order.{location_path}
use Rattle.location.proofs.Bytes.{length_location}
use Rattle.place_buffer.proofs.Scratch.{locations_ext}
use Rattle.row_buffer.specs.RowPlaces.{row_at, row_size}
use Rattle.row_buffer.proofs.Rows.{locations_none, row_some, row_within, rows_first}

-- the rows of n places from byte p on
abbrev pub rows_in : List ℕ → ℕ → ℕ → List Location
rows_in s n p = combine_split_times (locations_in s n p)

-- `count` rows stand at the front, and `left` places from byte p on are left; their rows, written behind those, make all of them written
pub record Writing (s₀ s : List ℕ) (n at p left count : ℕ) : Type 0 where
  pub there : p + left * 24 ≡ at + n * 24
  pub few : count + left ≤ n
  pub total : count + length (rows_in s₀ left p) ≡ length (rows_in s₀ n at)
  pub same_length : length s ≡ length s₀
  pub behind : (j : ℕ) → p ≤ j → get_or s j 0 ≡ get_or s₀ j 0
  pub rest : sets s (count * 24) (locations_bytes (rows_in s₀ left p)) ≡ sets s₀ 0 (locations_bytes (rows_in s₀ n at))

pub writing_start : (s : List ℕ) (n at : ℕ) → Writing s s n at at n 0
writing_start s n at = record { there = refl; few = omega arith; total = omega arith; same_length = refl; behind = λ j h. refl; rest = refl }

module _ {s₀ s : List ℕ} {n at p left count : ℕ} (w : Writing s₀ s n at p left count) where
  pub counted : left ≤ 0 → count ≡ length (rows_in s₀ n at)
  counted h =
      let z : left ≡ 0 = omega arith in
      let t = rw (locations_none s₀ left p z) at w.total in
      omega arith

  pub written : left ≤ 0 → s ≡ sets s₀ 0 (locations_bytes (rows_in s₀ n at))
  unfolding locations_bytes
  written h =
      let z : left ≡ 0 = omega arith in
      rw (locations_none s₀ left p z) at w.rest

  -- the places left are as they were
  left_same : locations_in s left p ≡ locations_in s₀ left p
  left_same = locations_ext left s s₀ p (λ j a b. w.behind j a)

  module _ (k : ℕ) (h : 0 < left) (e : k ≡ row_size (locations_in s left p)) where
    size_same : k ≡ row_size (locations_in s₀ left p)
    size_same = e ∙ ap row_size left_same

    -- the row's places are there, and it is one of all
    pub writing_fits : (1 ≤ k) × (k ≤ left) × (count + 1 ≤ length (rows_in s₀ n at))
    writing_fits =
        let f = size_same in
        (row_some s₀ left p k h f, row_within s₀ left p k h f, omega (arith, w.total, ap length (rows_first s₀ left p k h f)))

    row_same : row_at s p (p + (k - 1) * 24) ≡ row_at s₀ p (p + (k - 1) * 24)
    row_same =
        location_path
        (le64_ext s s₀ p (λ j a b. w.behind j a))
        (le64_ext s s₀ (p + 8) (λ j a b. w.behind j (omega arith)))
        (le64_ext s s₀ (p + (k - 1) * 24 + 16) (λ j a b. w.behind j (omega arith)))

    module _ (s' : List ℕ) (ew : s' ≡ sets s (count * 24) (location_bytes (row_at s p (p + (k - 1) * 24)))) where
      row : Location
      row = row_at s₀ p (p + (k - 1) * 24)

      one_more : s' ≡ sets s (count * 24) (location_bytes row)
      unfolding row
      one_more = ew ∙ ap (λ (l : Location). sets s (count * 24) (location_bytes l)) row_same

      -- it is written before the places left
      behind_turn : (j : ℕ) → p + k * 24 ≤ j → get_or s' j 0 ≡ get_or s₀ j 0
      behind_turn j a =
          let f = writing_fits in
          let out : count * 24 + length (location_bytes row) ≤ j = omega (arith, length_location row, w.there, w.few) in
          ap (λ (x : List ℕ). get_or x j 0) one_more ∙ get_or_sets_out (location_bytes row) s (count * 24) j (inr out) ∙ w.behind j (omega arith)

      rest_turn : sets s' ((count + 1) * 24) (locations_bytes (rows_in s₀ (left - k) (p + k * 24))) ≡ sets s₀ 0 (locations_bytes (rows_in s₀ n at))
      unfolding locations_bytes row
      rest_turn =
          let ls : List Location = rows_in s₀ (left - k) (p + k * 24) in
          let i : (count + 1) * 24 ≡ count * 24 + length (location_bytes row) = omega (arith, length_location row) in
          rw (one_more, i)
          (sym (sets_append s (count * 24) (location_bytes row) (locations_bytes ls))
          ∙ ap (λ (x : List Location). sets s (count * 24) (locations_bytes x)) (sym (rows_first s₀ left p k h size_same))
          ∙ w.rest)

      pub writing_turn : Writing s₀ s' n at (p + k * 24) (left - k) (count + 1)
      writing_turn =
          let f = writing_fits in
          record {
            there = omega (arith, w.there, f.1);
            few = omega (arith, w.few, f.0, f.1);
            total = omega (arith, w.total, ap length (rows_first s₀ left p k h size_same));
            same_length = ap length one_more ∙ length-sets s (count * 24) (location_bytes row) ∙ w.same_length;
            behind = behind_turn;
            rest = rest_turn;
          }

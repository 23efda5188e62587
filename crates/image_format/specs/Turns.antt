-- The turns of a table: where it lies, and which of them judge nothing. Assumes nothing.
use Rattle.std.specs.Prelude.{ℕ, ◌+◌, ◌*◌, ◌≤◌, ◌<◌, ◌≡◌, List}
use Rattle.image_format.specs.Reading.{Table, skip, slot_at}

-- a table that lies within n bytes
pub record Within (n : ℕ) (t : Table) : Type 0 where
  pub entries : t.base + t.count * 9 ≤ n
  pub offsets : t.kind ≡ 1 → t.base + 2048 ≤ n
  pub few : t.kind ≡ 3 → t.turns ≤ t.count
  pub bytes : t.kind ≡ 2 → t.turns ≡ 256
  pub turns : t.turns ≤ 256
  pub start : t.start ≤ n

-- the turns from i on and before r judge nothing
pub record Skips (s : List ℕ) (t : Table) (i r : ℕ) : Type 0 where
  pub from : i ≤ r
  pub last : r < t.turns
  pub none : (k : ℕ) → i ≤ k → k < r → skip ≡ slot_at s t k

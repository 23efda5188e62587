-- Entries in line: by address, and at one address each ends before the next is created. Assumes nothing.
use Rattle.std.specs.Prelude.{ℕ, zero, suc, ◌≤◌, ◌<◌, ◌≡◌, Bool, true, false, ◌&&◌, ◌||◌, cond, ltb, leb, eqb}
use Rattle.definitions.specs.Location.{Location, meets}

-- entries are functions of their number, so that one definition serves lists and locations in memory

-- l is at a lesser address than m, or at the same one and has ended when m is created
abbrev pub is_ahead : Location → Location → Bool
is_ahead l m = ltb l.address m.address || (eqb l.address m.address && leb l.destroyed m.created)

-- each of the first k entries is ahead of the next
unfoldable pub in_line : (ℕ → Location) → ℕ → Bool
in_line at zero = true
in_line at (suc k) = in_line at k && is_ahead (at k) (at (suc k))

-- l comes before address b and tick c
abbrev pub earlier : Location → ℕ → ℕ → Bool
earlier l b c = ltb l.address b || (eqb l.address b && ltb l.created c)

-- the first of k entries from i on that does not come before address b and tick c
unfoldable pub first_from : (ℕ → Location) → (k i b c : ℕ) → ℕ
first_from at zero i b c = i
first_from at (suc k) i b c = cond (earlier (at i) b c) (first_from at k (suc i) b c) i

-- one of k entries from i on is at an address below `end` and lives together with x
unfoldable pub lives_among : (ℕ → Location) → (k i : ℕ) → Location → (end : ℕ) → Bool
lives_among at zero i x end = false
lives_among at (suc k) i x end = (ltb (at i).address end && meets x (at i)) || lives_among at k (suc i) x end

-- ── the same as facts ──

pub record Ahead (l m : Location) : Type 0 where
  pub by_address : l.address ≤ m.address
  pub by_life : l.address ≡ m.address → l.destroyed ≤ m.created

-- n entries, each alive and ahead of all behind it
pub record Lined (n : ℕ) (at : ℕ → Location) : Type 0 where
  pub ahead : (i j : ℕ) → i < j → j < n → Ahead (at i) (at j)
  pub alive : (i : ℕ) → i < n → (at i).created < (at i).destroyed

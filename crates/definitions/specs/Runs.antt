-- Document 01, "Rows": what blocks hold, where a query stands, its longest runs; consistent recordings. Assumes nothing.
use Rattle.std.specs.Prelude.{ℕ, suc, ◌+◌, ◌≤◌, ◌<◌, ◌≡◌, ◌↔◌, length, get_or}
use mathlib.Core.List.{List, [], ◌∷◌, Memᴰ}
use Rattle.definitions.specs.Location.{Location, Lives, Sorted}
use Rattle.definitions.specs.Blocks.{Block, pieces_of}
use Rattle.definitions.specs.Rows.{rows, Before}

-- byte b is held at address a and tick t: a block has b at a and lives at t
pub record Holds (bs : List Block) (b a t : ℕ) : Type 0 where
  pub block : Block
  pub listed : Memᴰ block bs
  pub offset : ℕ
  pub inside : offset < length block.bytes
  pub is : get_or block.bytes offset 0 ≡ b
  pub there : block.at.address + offset ≡ a
  pub lives : Lives block.at t

-- a query stands at a and t if, for each i below its length, its byte i is held at a + i and t
abbrev pub Stands : List Block → List ℕ → ℕ → ℕ → Type 0
Stands bs q a t = (i : ℕ) → i < length q → Holds bs (get_or q i 0) (a + i) t

-- (a, c, d) with c < d where it stands at a at every tick from c to d - 1, but not at d, and not at c - 1 if c > 0
pub record LongestRun (bs : List Block) (q : List ℕ) (r : Location) : Type 0 where
  pub some : r.created < r.destroyed
  pub all : (t : ℕ) → Lives r t → Stands bs q r.address t
  pub ends : ¬ Stands bs q r.address r.destroyed
  pub begins : (t : ℕ) → suc t ≡ r.created → ¬ Stands bs q r.address t

-- the rows of a query are exactly its longest runs, each once, by address and then first tick
pub record RowsAreRuns (bs : List Block) (q : List ℕ) : Type 0 where
  pub exactly : (r : Location) → Memᴰ r (rows (pieces_of bs) q) ↔ LongestRun bs q r
  pub in_order : Sorted Before (rows (pieces_of bs) q)

-- ── consistent ──

-- a block has a byte at address a and lives at tick t
pub record Covers (b : Block) (a t : ℕ) : Type 0 where
  pub low : b.at.address ≤ a
  pub high : a < b.at.address + length b.bytes
  pub lives : Lives b.at t

-- two blocks share no byte address and live tick
abbrev pub Apart : Block → Block → Type 0
Apart b b' = (a t : ℕ) → Covers b a t → Covers b' a t → ⊥

-- no two of the blocks share a byte address and a live tick
abbrev pub Consistent : List Block → Type 0
Consistent [] = Unit {0}
Consistent (b ∷ bs) = ((b' : Block) → Memᴰ b' bs → Apart b b') × Consistent bs

-- created_at < destroyed_at, for every block
abbrev pub Alive : List Block → Type 0
Alive bs = (b : Block) → Memᴰ b bs → b.at.created < b.at.destroyed

-- ── two recordings ──

-- a query that users can ask: 0 to 256 bytes
pub record Query (q : List ℕ) : Type 0 where
  pub short : length q ≤ 256
  pub bytes : (b : ℕ) → Memᴰ b q → b < 256

-- the rows are the same, in the same order, for all queries of 0 to 256 bytes
abbrev pub SameRows : List Block → List Block → Type 0
SameRows bs bs' = (q : List ℕ) → Query q → rows (pieces_of bs) q ≡ rows (pieces_of bs') q

-- at every address and tick both hold the same byte or both hold none
abbrev pub SameHeld : List Block → List Block → Type 0
SameHeld bs bs' = (b a t : ℕ) → b < 256 → Holds bs b a t ↔ Holds bs' b a t

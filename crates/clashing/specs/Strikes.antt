-- Which entries of a certificate a block strikes. Assumes nothing.
use Rattle.std.specs.Prelude.{ℕ, zero, suc, ◌≤◌, ◌<◌, ◌≡◌, Bool, false, ◌&&◌, ◌||◌, List, length, ltb}
use Rattle.definitions.specs.Location.{Location, meets}
use Rattle.definitions.specs.Blocks.{Block}
use Rattle.definitions.specs.Conflicts.{conflicts_with}
use Rattle.memory_header.specs.Layout.{Header}
use Rattle.lined_locations.specs.declared.Line.{Line}
use Rattle.lined_locations.specs.Line.{location_of}
use Rattle.certificate.specs.Entries.{piece_end}
use Rattle.certificate.specs.Stored.{pieces_in}

-- one of k entries from i on lives together with x and goes beyond its address
unfoldable pub strikes : Line → (k i : ℕ) → Location → Bool
strikes v zero i x = false
strikes v (suc k) i x = (meets x (location_of v i) && ltb x.address (piece_end v i)) || strikes v k (suc i) x

-- the entries from g on and below q are at one address, and created before x ends
pub record OneAddress (v : Line) (g q : ℕ) (x : Location) : Type 0 where
  pub low : g ≤ q
  pub high : q ≤ v.count
  pub same : (i j : ℕ) → g ≤ i → i < q → g ≤ j → j < q → (location_of v i).address ≡ (location_of v j).address
  pub before : (i : ℕ) → g ≤ i → i < q → (location_of v i).created < x.destroyed

-- the entries from `from` on and below `upto` are those at lesser addresses than x, the entry behind them is not
pub record Below (v : Line) (from upto : ℕ) (x : Location) : Type 0 where
  pub low : from ≤ upto
  pub high : upto ≤ v.count
  pub below : (i : ℕ) → from ≤ i → i < upto → (location_of v i).address < x.address
  pub behind : (i : ℕ) → upto ≤ i → i < v.count → x.address ≤ (location_of v i).address

-- the answer is whether a block of n bytes at x conflicts with the pieces that h counts
abbrev pub SaysConflict : List ℕ → Header → Location → ℕ → Bool → Type 0
SaysConflict m h x n r = (b : Block) → length b.bytes ≡ n → b.at ≡ x → r ≡ conflicts_with b (pieces_in m h)

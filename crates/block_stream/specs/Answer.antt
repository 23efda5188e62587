-- The code's answers as those of the definitions, and where a block's data stand. Assumes nothing.
use Rattle.std.specs.Prelude.{ℕ, ◌+◌, ◌≡◌, List, take, drop, length, Result, Ok, Err, Option, None, Some}
use Rattle.definitions.specs.Location.{Location}
use Rattle.definitions.specs.Blocks as B
use Rattle.definitions.specs.BlockStream as D
use Rattle.definitions.specs.declared.refusal.Refusal.{Refusal}
use Rattle.definitions.specs.Refusals.{number_of}
use Rattle.definitions.specs.SpaceKinds.{kind_number}
use Rattle.block_stream.specs.declared.Block.{Block}

-- where a block stands, from which tick on and until which
abbrev pub life_of : Block → Location
life_of b = record { address = b.address; created = b.created_at; destroyed = b.destroyed_at }

abbrev pub block_of : Block → B.Block
block_of b = record { bytes = b.data.now; at = life_of b }

abbrev pub read_of : Result (Option Block) Refusal → D.Read
read_of (Ok (Some b)) = D.block (kind_number b.kind) (block_of b) b.next
read_of (Ok None) = D.nothing
read_of (Err r) = D.refused (number_of r)

-- a block's data stand behind its five fields, up to the next block
pub record DataAt (s : List ℕ) (at : ℕ) (b : Block) : Type 0 where
  pub ends : at + 33 + length b.data.now ≡ b.next
  pub part : b.data.now ≡ take (length b.data.now) (drop (at + 33) s)

abbrev pub Starts : List ℕ → ℕ → Result (Option Block) Refusal → Type 0
Starts s at (Ok (Some b)) = DataAt s at b
Starts s at (Ok None) = Unit {0}
Starts s at (Err r) = Unit {0}

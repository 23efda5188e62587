-- The sample of document 01: what the theorem says of its row. Assumes nothing.
use native.Mathlib.Omega.{arith}
use mathlib.Core.Path.{◌≡◌, refl}
use mathlib.Core.List.Memᴰ.{head as here}
use mathlib.Core.List.{List, [], ◌∷◌}
use Rattle.definitions.specs.Location.{location}
use Rattle.definitions.specs.Blocks.{Block, bytes_at}
use Rattle.definitions.specs.Runs.{LongestRun}
use Rattle.definitions.specs.Recording.{Call, record_block, finish, taken}
use Rattle.definitions.specs.Program.{program_capacity}
use Rattle.definitions.proofs.Taken.{recording_rows}

abbrev first : Block
first = bytes_at (0x61 ∷ 0x62 ∷ 0x63 ∷ []) 100 10 50

abbrev second : Block
second = bytes_at (0x64 ∷ 0x65 ∷ []) 103 10 30

abbrev third : Block
third = bytes_at (0x64 ∷ 0x65 ∷ []) 103 30 50

abbrev sample_calls : List Call
sample_calls = record_block 1 first ∷ record_block 1 second ∷ record_block 1 third ∷ finish ∷ []

-- all three are taken
sample_taken : taken program_capacity sample_calls ≡ first ∷ second ∷ third ∷ []
sample_taken = refl

-- its row is a longest run
pub sample_run : LongestRun (taken program_capacity sample_calls) (0x63 ∷ 0x64 ∷ []) (location 102 10 50)
sample_run = ((recording_rows program_capacity sample_calls (0x63 ∷ 0x64 ∷ []) (omega arith)).exactly (location 102 10 50)).0 (here refl)

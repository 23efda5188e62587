-- Blocks that conflict, handed to record, by computation. Assumes nothing.
use Rattle.std.specs.Prelude.{◌≡◌, refl, false, [], ◌∷◌}
use Rattle.std.proofs.Math.Option.{some}
use Rattle.definitions.specs.Blocks.{bytes_at}
use Rattle.definitions.specs.Causes.{conflict, too_many_nodes}
use Rattle.definitions.specs.Calls.{Capacity, Recorded, record_answer}
use Rattle.definitions.specs.Recording.{record_block, taken}
use Rattle.definitions.specs.Program.{program_capacity}

-- the second is turned back, and the first stays
turned_back : taken program_capacity (record_block 1 (bytes_at (0x61 ∷ []) 5 1 3) ∷ record_block 1 (bytes_at (0x62 ∷ []) 5 2 4) ∷ []) ≡ bytes_at (0x61 ∷ []) 5 1 3 ∷ []
turned_back = refl

-- a block that has no room is judged all the same: one node is held by the root, one by the piece
abbrev full : Capacity
full = record { nodes = 2; entries = 2 }

abbrev held : Recorded
held = record { blocks = bytes_at (0x61 ∷ []) 5 1 3 ∷ []; finished = false }

conflict_first : record_answer full held 1 (bytes_at (0x62 ∷ []) 5 2 4) ≡ some conflict
conflict_first = refl

no_room : record_answer full held 1 (bytes_at (0x62 ∷ []) 5 3 4) ≡ some too_many_nodes
no_room = refl

-- What a lent memory holds: nothing that meets the index rule, an open index with its pieces, or a finished one with its trie.
-- Assumes nothing.
use Rattle.std.specs.Prelude.{ℕ, Bool, true, false, ◌&&◌, cond, List, [], length, take, drop, eqb}
use Rattle.words.specs.Holding.{stands}
use Rattle.definitions.specs.Blocks.{Piece, nodes_tallied, entries_tallied}
use Rattle.definitions.specs.Conflicts.{free}
use Rattle.definitions.specs.Calls.{Capacity, Standing, header_size}
use Rattle.conflicts.specs.Order.{certificate}
use Rattle.trie.specs.Trie.{Trie, trie_pieces}
use Rattle.image_format.specs.Reading.{Layout, right, refused}
use Rattle.image_format.specs.Check.{check_image}
use Rattle.image_format.specs.Held.{trie_in}
use Rattle.memory_header.specs.Layout.{Header, work_at, header_at, header_right}
use Rattle.index_memory.specs.Log.{log_in, log_sound}

-- what a memory holds
pub data Index : Type 0 where
  broken : Index
  opened : Capacity → List Piece → Index
  finished : Capacity → Trie → Index

-- as far as checks ask
abbrev pub standing_of : Index → Standing
standing_of broken = record { broken = true; finished = false; capacity = record { nodes = 0; entries = 0 }; pieces = [] }
standing_of (opened c ps) = record { broken = false; finished = false; capacity = c; pieces = ps }
standing_of (finished c t) = record { broken = false; finished = true; capacity = c; pieces = trie_pieces t }

-- the header of an open index with these pieces
abbrev pub open_header : Capacity → List Piece → Header
open_header c ps = record { capacity = c; phase = 0; nodes = nodes_tallied ps; entries = entries_tallied ps; payload = length ps }

-- each piece is sound and the tally is the sum of the charges
abbrev pub log_right : List ℕ → Header → Bool
log_right m h = log_sound m h.payload header_size && (eqb h.nodes (nodes_tallied (log_in m h.payload header_size)) && eqb h.entries (entries_tallied (log_in m h.payload header_size)))

-- the certificate of these pieces stands at the beginning of the room to work in
abbrev pub certified : List ℕ → Capacity → List Piece → Bool
certified m c ps = stands m (work_at c) (certificate ps)

-- no two pieces conflict, and their certificate is there
abbrev pub order_right : List ℕ → Header → Bool
order_right m h = free (log_in m h.payload header_size) && certified m h.capacity (log_in m h.payload header_size)

-- phase 0: the log and its certificate decide
abbrev pub open_index : List ℕ → Header → Index
open_index m h = cond (log_right m h && order_right m h) (opened h.capacity (log_in m h.payload header_size)) broken

-- the image in a finished index's memory
abbrev pub image_part : List ℕ → Header → List ℕ
image_part m h = take h.payload (drop header_size m)

-- the image is right, and the tally is what finish sets
abbrev pub if_right : Layout → Header → List ℕ → Index
if_right (refused n) h s = broken
if_right (right nodes entries) h s = cond (eqb h.nodes nodes && eqb h.entries entries) (finished h.capacity (trie_in s)) broken

-- phase 1: the image decides
abbrev pub finished_index : List ℕ → Header → Index
finished_index m h = if_right (check_image (image_part m h)) h (image_part m h)

-- what a memory holds; one without room for a header breaks the rule
unfoldable pub read_index : List ℕ → Index
read_index m =
    cond (header_right m)
    (cond (eqb (header_at m).phase 0) (open_index m (header_at m)) (finished_index m (header_at m)))
    broken

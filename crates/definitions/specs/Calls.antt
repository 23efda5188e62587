-- Document 01, "One call, from block to row": what each call is refused for, one list of checks for each call. Assumes nothing.
use Rattle.std.specs.Prelude.{ℕ, ◌+◌, ◌*◌, Bool, true, false, not, ◌||◌, cond, List, [], ◌∷◌, ◌++◌, length, ltb, leb, eqb}
use Rattle.std.proofs.Math.Option.{Option, none, some}
use Rattle.definitions.specs.Location.{Location}
use Rattle.definitions.specs.Blocks.{Block, Piece, memory_kind, last_kind, pieces, pieces_of, nodes_tallied, entries_tallied}
use Rattle.definitions.specs.Conflicts.{clash}
use Rattle.definitions.specs.Places.{places_counted}
use Rattle.definitions.specs.Rows.{rows}
use Rattle.definitions.specs.Causes.{Cause, number, capacity_refused, index_rule_broken, record_after_finish, before_finish, data_too_long, no_life, address_too_high, conflict, too_many_nodes, too_many_entries, wrong_number, query_too_long, scratch_too_small, too_many_rows, save_buffer_too_short, cut_short, unknown_kind, image_broken, Check, first_cause}

abbrev pub data_limit : ℕ
data_limit = 4096

abbrev pub query_limit : ℕ
query_limit = 256

abbrev pub capacity_limit : ℕ
capacity_limit = 1048576

-- the largest address and the largest tick
abbrev pub last_number : ℕ
last_number = 18446744073709551615

pub record Capacity : Type 0 where
  pub nodes : ℕ
  pub entries : ℕ

-- ── opening ──

abbrev pub header_size : ℕ
header_size = 64

abbrev pub node_size : ℕ
node_size = 64

abbrev pub entry_size : ℕ
entry_size = 104

-- the bytes of lent memory that a capacity needs
abbrev pub needed : Capacity → ℕ
needed c = header_size + node_size * c.nodes + entry_size * c.entries

abbrev pub out_of_range : ℕ → Bool
out_of_range n = eqb n 0 || ltb capacity_limit n

abbrev pub open_checks : Capacity → ℕ → List Check
open_checks c memory = record { applies = out_of_range c.nodes || (out_of_range c.entries || ltb memory (needed c)); cause = capacity_refused } ∷ []

-- ── the checks of each call on an index ──

-- what a lent memory holds, as far as checks ask: it breaks the index rule, or has a capacity and pieces and is finished or not
pub record Standing : Type 0 where
  pub broken : Bool
  pub finished : Bool
  pub capacity : Capacity
  pub pieces : List Piece

-- every call tests the index rule before all else
abbrev pub index_check : Standing → Check
index_check s = record { applies = s.broken; cause = index_rule_broken }

-- search and save ask for a finished index
abbrev pub finish_check : Standing → Check
finish_check s = record { applies = not s.finished; cause = before_finish }

-- so many nodes and entries against a capacity
abbrev pub capacity_checks : Capacity → ℕ → ℕ → List Check
capacity_checks c nodes entries =
    record { applies = ltb c.nodes nodes; cause = too_many_nodes } ∷
    record { applies = ltb c.entries entries; cause = too_many_entries } ∷ []

-- a Memory block of n bytes at l that clashes with what is held or not, and with which the tally has so many nodes and entries
abbrev pub memory_checks : Capacity → (clashes : Bool) → (nodes entries : ℕ) → (n : ℕ) → Location → List Check
memory_checks c clashes nodes entries n l =
    record { applies = ltb data_limit n; cause = data_too_long } ∷
    record { applies = leb l.destroyed l.created; cause = no_life } ∷
    record { applies = ltb last_number (l.address + n); cause = address_too_high } ∷
    record { applies = clashes; cause = conflict } ∷
    capacity_checks c nodes entries

-- a Memory block behind pieces that are held
abbrev pub block_checks : Capacity → List Piece → Block → List Check
block_checks c ps b = memory_checks c (clash (pieces b) ps) (nodes_tallied (ps ++ pieces b)) (entries_tallied (ps ++ pieces b)) (length b.bytes) b.at

-- what recording asks of an index before any block; a stream is put to it once, an empty one too
abbrev pub stream_checks : Standing → List Check
stream_checks s =
    index_check s ∷
    record { applies = s.finished; cause = record_after_finish } ∷ []

-- a kind over 4 is turned back; a block of kind 0, 2, 3 or 4 is put to nothing behind its kind
abbrev pub kind_checks : ℕ → List Check → List Check
kind_checks kind behind = record { applies = ltb last_kind kind; cause = unknown_kind } ∷ cond (eqb kind memory_kind) behind []

abbrev pub record_checks : Standing → ℕ → Block → List Check
record_checks s kind b = stream_checks s ++ kind_checks kind (block_checks s.capacity s.pieces b)

-- finishing again is not refused
abbrev pub finish_checks : Standing → List Check
finish_checks s = index_check s ∷ []

-- what is asked of a query: scratch has room for so many places, the row buffer for so many rows
abbrev pub query_checks : Standing → List ℕ → (scratch room : ℕ) → List Check
query_checks s q scratch room =
    record { applies = ltb query_limit (length q); cause = query_too_long } ∷
    record { applies = ltb scratch (places_counted s.pieces q); cause = scratch_too_small } ∷
    record { applies = ltb room (length (rows s.pieces q)); cause = too_many_rows } ∷ []

abbrev pub search_checks : Standing → List ℕ → (scratch room : ℕ) → List Check
search_checks s q scratch room =
    index_check s ∷
    finish_check s ∷
    query_checks s q scratch room

-- what is asked before a typed number is looked for; it is right or not
abbrev pub number_checks : Standing → (is_right : Bool) → List Check
number_checks s is_right =
    index_check s ∷
    finish_check s ∷
    record { applies = not is_right; cause = wrong_number } ∷ []

-- the number is the query
abbrev pub search_number_checks : Standing → (is_right : Bool) → List ℕ → (scratch room : ℕ) → List Check
search_number_checks s is_right number scratch room = number_checks s is_right ++ query_checks s number scratch room

-- an image and a save buffer of so many bytes
abbrev pub save_checks : Standing → (image buffer : ℕ) → List Check
save_checks s image buffer =
    index_check s ∷
    finish_check s ∷
    record { applies = ltb buffer image; cause = save_buffer_too_short } ∷ []

-- an image's own refusal has this number, 0 for none: its first faulty field decides between 13, 14 and 15, and 18 is last
abbrev pub fault_check : ℕ → Cause → Check
fault_check fault c = record { applies = eqb fault (number c); cause = c }

-- an image with this fault, or with so many nodes and entries, against a capacity
abbrev pub image_checks : Capacity → (fault nodes entries : ℕ) → List Check
image_checks c fault nodes entries =
    fault_check fault cut_short ∷
    fault_check fault unknown_kind ∷
    fault_check fault image_broken ∷
    fault_check fault conflict ∷
    capacity_checks c nodes entries

abbrev pub load_checks : Standing → (fault nodes entries : ℕ) → List Check
load_checks s fault nodes entries = index_check s ∷ image_checks s.capacity fault nodes entries

-- ── what calls make of a fresh index ──

-- the Memory blocks that were taken, in order, and whether it is finished
pub record Recorded : Type 0 where
  pub blocks : List Block
  pub finished : Bool

abbrev pub fresh : Recorded
fresh = record { blocks = []; finished = false }

-- the checks look at its pieces; it never breaks the index rule
abbrev pub standing : Capacity → Recorded → Standing
standing c s = record { broken = false; finished = s.finished; capacity = c; pieces = pieces_of s.blocks }

-- the blocks with one more
abbrev pub added : Recorded → Block → List Block
added s b = s.blocks ++ (b ∷ [])

-- the answer of record: the cause of the refusal, or none where the block is taken
abbrev pub record_answer : Capacity → Recorded → ℕ → Block → Option Cause
record_answer c s kind b = first_cause (record_checks (standing c s) kind b)

-- a Memory block that is taken is added; all else changes nothing
abbrev pub unless_refused : Option Cause → Recorded → Recorded → Recorded
unless_refused none old new = new
unless_refused (some c) old new = old

abbrev pub recorded : Capacity → Recorded → ℕ → Block → Recorded
recorded c s kind b = unless_refused (record_answer c s kind b) s (cond (eqb kind memory_kind) (record { blocks = added s b; finished = s.finished }) s)

-- finishing again changes nothing
abbrev pub finished_now : Recorded → Recorded
finished_now s = record { blocks = s.blocks; finished = true }

abbrev pub search_answer : Capacity → Recorded → List ℕ → (scratch room : ℕ) → Option Cause
search_answer c s q scratch room = first_cause (search_checks (standing c s) q scratch room)

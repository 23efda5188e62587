-- What a reader may conclude: the order of the checks of each call, and places, rows and recordings. Assumes nothing.
use Rattle.std.specs.Prelude.{ℕ, ◌<◌, ◌≡◌, Bool, true, false, cond, ◌↔◌, length, get_or, take, drop, eqb}
use mathlib.Core.List.{List, [], ◌∷◌, ◌++◌, Memᴰ}
use Rattle.definitions.specs.Location.{Location, Less, Sorted}
use Rattle.definitions.specs.Blocks.{Block, Piece, memory_kind, pieces, pieces_of}
use Rattle.definitions.specs.Places.{T, table}
use Rattle.definitions.specs.Rows.{rows}
use Rattle.definitions.specs.Runs.{RowsAreRuns, Consistent, SameRows, SameHeld}
use Rattle.definitions.specs.Conflicts.{shares, conflicts_with, clash, free, Common}
use Rattle.definitions.specs.Causes.{Cause, wrong_number, scratch_too_small, too_many_rows, scratch_kept, causes, checked, opening, record_call, record_stream_call, finish_call, search_call, search_number_call, save_call, load_call, read_block_call, line_call}
use Rattle.definitions.specs.Calls.{Capacity, Standing, open_checks, stream_checks, record_checks, finish_checks, search_checks, search_number_checks, save_checks, load_checks}
use Rattle.definitions.specs.Recording.{Call, taken, Sound}
use Rattle.definitions.specs.BlockStream.{read_block_checks}
use Rattle.definitions.specs.Program.{line_checks}

-- ── the checks of each call stand in the order of the table ──

-- a block that is not of kind Memory is put to the first three causes of record;
-- in reading a block the fields' order decides between its causes
pub record ChecksInOrder : Type 0 where
  pub opening_order : (c : Capacity) (memory : ℕ) → causes (open_checks c memory) ≡ checked opening
  pub record_order : (s : Standing) (kind : ℕ) (b : Block) → causes (record_checks s kind b) ≡ cond (eqb kind memory_kind) (checked record_call) (take 3 (checked record_call))
  -- a stream's first two causes are record's; each of its blocks is read and then put to what record asks of a block behind its kind
  pub stream_order : (s : Standing) → causes (stream_checks s) ≡ take 2 (checked record_stream_call)
  pub stream_block_order : checked record_stream_call ≡ take 2 (checked record_call) ++ (checked read_block_call ++ drop 3 (checked record_call))
  pub finish_order : (s : Standing) → causes (finish_checks s) ≡ checked finish_call
  pub search_order : (s : Standing) (q : List ℕ) (scratch room : ℕ) → causes (search_checks s q scratch room) ≡ checked search_call
  pub search_number_order : (s : Standing) (is_right : Bool) (number : List ℕ) (scratch room : ℕ) → causes (search_number_checks s is_right number scratch room) ≡ checked search_number_call
  -- a search by a typed number has 19 between 3 and 9, and the plain search's order
  pub number_order : checked search_number_call ≡ take 2 (checked search_call) ++ (wrong_number ∷ drop 2 (checked search_call))
  -- the causes that leave scratch as it was are those up to check 9
  pub scratch_order : checked search_number_call ≡ scratch_kept ++ (scratch_too_small ∷ too_many_rows ∷ [])
  pub save_order : (s : Standing) (image buffer : ℕ) → causes (save_checks s image buffer) ≡ checked save_call
  pub load_order : (s : Standing) (fault nodes entries : ℕ) → causes (load_checks s fault nodes entries) ≡ checked load_call
  pub read_block_order : (s : List ℕ) (at : ℕ) (c : Cause) → Memᴰ c (causes (read_block_checks s at)) → Memᴰ c (checked read_block_call)
  pub line_order : (is-form : Bool) → causes (line_checks is-form) ≡ checked line_call

-- ── places, rows and recordings ──

-- the table that is computed is T: the same places for each i, sorted, each once
abbrev pub TableIsT : Type 0
TableIsT = (ps : List Piece) (q : List ℕ) (i : ℕ) → i < length q → (x : Location) → Memᴰ x (get_or (table ps q) i []) ↔ T ps q i x

abbrev pub TableSorted : Type 0
TableSorted = (ps : List Piece) (q : List ℕ) (i : ℕ) → Sorted Less (get_or (table ps q) i [])

-- the same pieces, whatever their order and however often
pub record SamePieces (ps rs : List Piece) : Type 0 where
  pub to : (p : Piece) → Memᴰ p ps → Memᴰ p rs
  pub fro : (p : Piece) → Memᴰ p rs → Memᴰ p ps

-- rows depend on the set of pieces alone
abbrev pub RowsBySet : Type 0
RowsBySet = (ps ps' : List Piece) → SamePieces ps ps' → (q : List ℕ) → rows ps q ≡ rows ps' q

-- what was taken passed the checks behind refusals 4, 5 and 6
abbrev pub TakenSound : Type 0
TakenSound = (c : Capacity) (ks : List Call) (b : Block) → Memᴰ b (taken c ks) → Sound b

-- what was taken is consistent
abbrev pub TakenConsistent : Type 0
TakenConsistent = (c : Capacity) (ks : List Call) → Consistent (taken c ks)

-- the rows of a recording are exactly the longest runs, each once, in order
abbrev pub RecordingRows : Type 0
RecordingRows = (c : Capacity) (ks : List Call) → (q : List ℕ) → 0 < length q → RowsAreRuns (taken c ks) q

-- two recordings have the same rows exactly when they hold the same bytes
abbrev pub RecordingsSame : Type 0
RecordingsSame = (c c' : Capacity) (ks ks' : List Call) → SameRows (taken c ks) (taken c' ks') ↔ SameHeld (taken c ks) (taken c' ks')

-- ── conflicts ──

-- two blocks share exactly where some address and tick is covered by both
abbrev pub SharesIs : Type 0
SharesIs = (p r : Block) → (shares p r ≡ true) ↔ Common p r

-- a block conflicts with what is held exactly if one of its pieces does
abbrev pub BlockClashes : Type 0
BlockClashes = (b : Block) (held : List Piece) → clash (pieces b) held ≡ conflicts_with b held

-- an empty block conflicts with nothing
abbrev pub EmptyFree : Type 0
EmptyFree = (b : Block) (held : List Piece) → length b.bytes ≡ 0 → conflicts_with b held ≡ false

-- a block's own pieces never conflict
abbrev pub OwnFree : Type 0
OwnFree = (b : Block) → free (pieces b) ≡ true

-- the pieces of blocks are free of conflicts exactly if the blocks are consistent
abbrev pub FreeConsistent : Type 0
FreeConsistent = (bs : List Block) → (free (pieces_of bs) ≡ true) ↔ Consistent bs

-- blocks stay consistent with one more that clashes with none of their pieces
abbrev pub ConsistentAdded : Type 0
ConsistentAdded = (bs : List Block) (b : Block) → Consistent bs → clash (pieces b) (pieces_of bs) ≡ false → Consistent (bs ++ (b ∷ []))

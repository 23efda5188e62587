-- The lent memory of an index: a header of eight numbers, then the payload (a log of pieces, or an image), then room to work in.
-- Here are the sizes, and the header. Assumes nothing.
use Rattle.std.specs.Prelude.{ℕ, ◌+◌, ◌*◌, ◌≤◌, Bool, ◌&&◌, not, cond, List, ◌++◌, length, get_or, leb, eqb}
use Rattle.std.proofs.lemmas.List.Edits.{sets}
use Rattle.words.specs.Words.{le64, bytes64}
use Rattle.definitions.specs.Calls.{Capacity, header_size, node_size, needed, out_of_range}

-- ── sizes ──

-- what a piece takes in the log
abbrev pub logged_size : ℕ
logged_size = 48

-- how many bytes the payload has
abbrev pub payload_size : Capacity → ℕ
payload_size c = node_size * c.nodes + logged_size * c.entries

-- where the room to work in begins: an open index keeps its certificate there
abbrev pub work_at : Capacity → ℕ
work_at c = header_size + payload_size c

-- a capacity that an index in this memory can have
pub record Room (m : List ℕ) (c : Capacity) : Type 0 where
  pub some_nodes : 1 ≤ c.nodes
  pub few_nodes : c.nodes ≤ 1048576
  pub some_entries : 1 ≤ c.entries
  pub few_entries : c.entries ≤ 1048576
  pub held : needed c ≤ length m

-- ── the header ──

-- what the header says
pub record Header : Type 0 where
  pub capacity : Capacity
  -- 0 open, 1 finished
  pub phase : ℕ
  -- the tally
  pub nodes : ℕ
  pub entries : ℕ
  -- open: pieces in the log; finished: bytes of the image
  pub payload : ℕ

-- the header that says these six numbers
abbrev pub header_from : List ℕ → Header
header_from ns = record { capacity = record { nodes = get_or ns 0 0; entries = get_or ns 1 0 }; phase = get_or ns 2 0; nodes = get_or ns 3 0; entries = get_or ns 4 0; payload = get_or ns 5 0 }

-- the header in the first 64 bytes
abbrev pub header_at : List ℕ → Header
header_at m = record { capacity = record { nodes = le64 m 0; entries = le64 m 8 }; phase = le64 m 16; nodes = le64 m 24; entries = le64 m 32; payload = le64 m 40 }

-- its bytes: the last two numbers are zero
unfoldable pub header_bytes : Header → List ℕ
header_bytes h =
    bytes64 h.capacity.nodes ++ (bytes64 h.capacity.entries ++ (bytes64 h.phase ++ (bytes64 h.nodes ++ (bytes64 h.entries ++ (bytes64 h.payload ++ (bytes64 0 ++ bytes64 0))))))

-- a memory with this header
abbrev pub with_header : List ℕ → Header → List ℕ
with_header m h = sets m 0 (header_bytes h)

-- the most that the payload may count: pieces in a log, bytes in an image
abbrev pub payload_limit : Header → ℕ
payload_limit h = cond (eqb h.phase 0) h.capacity.entries (payload_size h.capacity)

-- what a header may say: a capacity that the memory holds, a phase, a tally and a payload within it, two zeros
abbrev pub header_sound : List ℕ → Header → Bool
header_sound m h =
    not (out_of_range h.capacity.nodes) &&
    (not (out_of_range h.capacity.entries) &&
    (leb (needed h.capacity) (length m) &&
    (eqb (le64 m 48) 0 &&
    (eqb (le64 m 56) 0 &&
    (leb h.phase 1 &&
    (leb h.nodes h.capacity.nodes &&
    (leb h.entries h.capacity.entries &&
    leb h.payload (payload_limit h))))))))

-- there is room for a header, and it is sound
abbrev pub header_right : List ℕ → Bool
header_right m = leb header_size (length m) && header_sound m (header_at m)

-- Document 01, "Causes and their numbers": an image is read in layout order, the first faulty field decides. Assumes nothing.
use Rattle.std.specs.Prelude.{ℕ, zero, suc, ◌+◌, ◌*◌, ◌≡◌, cond, List, length, get_or, leb, ltb, eqb}
use Rattle.words.specs.Words.{le64}
use Rattle.definitions.specs.Causes.{number, cut_short, unknown_kind, image_broken}
use Rattle.kinds.specs.Kinds.{fits}

-- ── lists ──

-- a list: where it ends, and its count; or it is cut short
pub data ListRead : Type 0 where
  past : ℕ → ℕ → ListRead
  cut : ListRead

-- a count (8) and 24 bytes a location
unfoldable pub read_list : List ℕ → ℕ → ListRead
read_list s at =
    cond (leb (at + 8) (length s))
    (cond (leb (at + 8 + 24 * le64 s at) (length s)) (past (at + 8 + 24 * le64 s at) (le64 s at)) cut)
    cut

-- a node up to its table: its kind, where the lists end, their entries
pub data HeadRead : Type 0 where
  head : ℕ → ℕ → ℕ → HeadRead
  no_head : ℕ → HeadRead

-- the lists go on one behind another
abbrev pub behind_list : ListRead → (ℕ → ℕ → HeadRead) → HeadRead
behind_list cut f = no_head (number cut_short)
behind_list (past next n) f = f next n

-- prefixes, chunks, suffixes
unfoldable pub read_lists : List ℕ → ℕ → ℕ → HeadRead
read_lists s kind at =
    behind_list (read_list s at) (λ a x. behind_list (read_list s a) (λ b y. behind_list (read_list s b) (λ c z. head kind c (x + y + z))))

-- the kind byte is 1, 2 or 3
unfoldable pub read_head : List ℕ → ℕ → HeadRead
read_head s at =
    cond (ltb at (length s))
    (cond (eqb (get_or s at 0) 0) (no_head (number unknown_kind)) (cond (ltb 3 (get_or s at 0)) (no_head (number unknown_kind)) (read_lists s (get_or s at 0) (at + 1))))
    (no_head (number cut_short))

-- ── tables ──

-- the kind of the node, where its table stands and how many entries that has, where the first flag is due,
-- and how many turns there are: kind 3 one for each entry, kinds 2 and 1 one for each byte
pub record Table : Type 0 where
  pub kind : ℕ
  pub base : ℕ
  pub count : ℕ
  pub start : ℕ
  pub turns : ℕ

-- the first of k entries from number j on whose byte is b, or the number past them
unfoldable pub find_byte : List ℕ → ℕ → ℕ → ℕ → ℕ → ℕ
find_byte s base b zero j = j
find_byte s base b (suc k) j = cond (eqb (get_or s (base + j * 9) 0) b) j (find_byte s base b k (j + 1))

-- the first fault of k entries from number i on: a byte cut off (13), a sibling's byte again (15), an offset cut off (13); 0 for none
unfoldable pub table_fault : List ℕ → ℕ → ℕ → ℕ → ℕ
table_fault s base zero i = 0
table_fault s base (suc k) i =
    cond (leb (length s) (base + i * 9)) (number cut_short)
    (cond (ltb (find_byte s base (get_or s (base + i * 9) 0) i 0) i) (number image_broken)
    (cond (ltb (length s) (base + i * 9 + 9)) (number cut_short) (table_fault s base k (i + 1))))

-- the table of a node of kind 3 or 2 with n entries, whose count stands at an index
abbrev pub sparse_table : ℕ → ℕ → ℕ → Table
sparse_table kind at n = record { kind = kind; base = at + 8; count = n; start = at + 8 + n * 9; turns = cond (eqb kind 3) n 256 }

-- the table of a node of kind 1 at an index
abbrev pub dense_table : ℕ → Table
dense_table at = record { kind = 1; base = at; count = 0; start = at + 2048; turns = 256 }

-- a table, or the number of its fault
pub data TableRead : Type 0 where
  table : Table → TableRead
  no_table : ℕ → TableRead

abbrev pub unless_fault : ℕ → Table → TableRead
unless_fault c t = cond (eqb c 0) (table t) (no_table c)

-- kind 1: 256 offsets; kinds 3 and 2: a count that the kind may have, and its entries
unfoldable pub open_table : List ℕ → ℕ → ℕ → TableRead
open_table s kind at =
    cond (eqb kind 1)
    (cond (leb (at + 2048) (length s)) (table (dense_table at)) (no_table (number cut_short)))
    (cond (leb (at + 8) (length s))
    (cond (fits kind (le64 s at)) (unless_fault (table_fault s (at + 8) (le64 s at) 0) (sparse_table kind at (le64 s at))) (no_table (number image_broken)))
    (no_table (number cut_short)))

-- the offset that a turn judges; kind 2 skips a byte that its table has not
pub data Slot : Type 0 where
  offset : ℕ → Slot
  skip : Slot

unfoldable pub slot_at : List ℕ → Table → ℕ → Slot
slot_at s t i =
    cond (eqb t.kind 1) (offset (le64 s (t.base + i * 8)))
    (cond (eqb t.kind 3) (offset (le64 s (t.base + i * 9 + 1)))
    (cond (ltb (find_byte s t.base i t.count 0) t.count) (offset (le64 s (t.base + find_byte s t.base i t.count 0 * 9 + 1))) skip))

-- ── children ──

-- read up to an index: so many children of the reading node, so many nodes and entries in all; or a fault
pub data Step : Type 0 where
  done : ℕ → ℕ → ℕ → ℕ → Step
  fault : ℕ → Step

-- a step goes on behind another
abbrev pub behind : Step → (ℕ → ℕ → ℕ → ℕ → Step) → Step
behind (fault c) f = fault c
behind (done next met nodes entries) f = f next met nodes entries

-- what stands where a child is due: its node behind a flag 1, a flag 0, nothing, or a fault
pub data Turn : Type 0 where
  child : Turn
  gap : Turn
  none_due : Turn
  wrong : ℕ → Turn

-- a flag 0 stands in kind 1 alone
abbrev pub flag_turn : ℕ → ℕ → Turn
flag_turn kind flag = cond (eqb flag 1) child (cond (eqb flag 0) (cond (eqb kind 1) gap (wrong (number image_broken))) (wrong (number image_broken)))

-- an offset is judged just before its flag is read
abbrev pub slot_turn : List ℕ → ℕ → ℕ → Slot → Turn
slot_turn s kind at skip = none_due
slot_turn s kind at (offset off) = cond (eqb off at) (cond (leb (length s) at) (wrong (number cut_short)) (flag_turn kind (get_or s at 0))) (wrong (number image_broken))

unfoldable pub turn_at : List ℕ → Table → ℕ → ℕ → Turn
turn_at s t i at = slot_turn s t.kind at (slot_at s t i)

-- with the reader of the child's node
abbrev pub by_turn : (ℕ → Step) → ℕ → Turn → Step
by_turn rd at child = rd (at + 1)
by_turn rd at gap = done (at + 1) 0 0 0
by_turn rd at none_due = done at 0 0 0
by_turn rd at (wrong c) = fault c

unfoldable pub read_child : List ℕ → (ℕ → Step) → Table → ℕ → ℕ → Step
read_child s rd t i at = by_turn rd at (turn_at s t i at)

-- the child count of kind 1 is judged after its last child
unfoldable pub all_met : Table → ℕ → ℕ → ℕ → ℕ → Step
all_met t at met nodes entries =
    cond (eqb t.kind 1) (cond (fits 1 met) (done at 1 nodes entries) (fault (number image_broken))) (done at 1 nodes entries)

-- k turns from number i on
unfoldable pub read_turns : List ℕ → (ℕ → Step) → Table → ℕ → ℕ → ℕ → ℕ → ℕ → ℕ → Step
read_turns s rd t zero i at met nodes entries = all_met t at met nodes entries
read_turns s rd t (suc k) i at met nodes entries =
    behind (read_child s rd t i at) (λ next c a b. read_turns s rd t k (i + 1) next (met + c) (nodes + a) (entries + b))

unfoldable pub read_table : List ℕ → (ℕ → Step) → Table → Step
read_table s rd t = read_turns s rd t t.turns 0 t.start 0 0 0

-- ── nodes ──

-- a node goes on behind its head and its table; it counts as one itself
abbrev pub behind_table : List ℕ → (ℕ → Step) → ℕ → TableRead → Step
behind_table s rd entries (no_table c) = fault c
behind_table s rd entries (table t) = behind (read_table s rd t) (λ next met nodes more. done next 1 (nodes + 1) (entries + more))

abbrev pub behind_head : List ℕ → (ℕ → Step) → HeadRead → Step
behind_head s rd (no_head c) = fault c
behind_head s rd (head kind next entries) = behind_table s rd entries (open_table s kind next)

-- the node at an index, of a trie with `left` levels yet allowed: where there is none, the flag before it is wrong
unfoldable pub read_node : List ℕ → ℕ → ℕ → Step
read_node s zero at = fault (number image_broken)
read_node s (suc left) at = behind_head s (read_node s left) (read_head s at)

-- ── the image ──

-- n counts of the empty index: wrong unless 0
unfoldable pub read_counts : List ℕ → ℕ → ℕ → Step
read_counts s zero at = done at 1 1 0
read_counts s (suc n) at = cond (leb (at + 8) (length s)) (cond (eqb (le64 s at) 0) (read_counts s n (at + 8)) (fault (number image_broken))) (fault (number cut_short))

-- a first byte 0 means the empty index
unfoldable pub read_root : List ℕ → Step
read_root s = cond (eqb (length s) 0) (fault (number cut_short)) (cond (eqb (get_or s 0 0) 0) (read_counts s 3 1) (read_node s 17 0))

-- the layout is right, with so many nodes and entries, or an image is refused with a number
pub data Layout : Type 0 where
  right : ℕ → ℕ → Layout
  refused : ℕ → Layout

-- the number of an image's own refusal, 0 where there is none
abbrev pub fault_of : Layout → ℕ
fault_of (right nodes entries) = 0
fault_of (refused n) = n

-- its nodes
abbrev pub nodes_in : Layout → ℕ
nodes_in (right nodes entries) = nodes
nodes_in (refused n) = 0

-- its entries
abbrev pub entries_in : Layout → ℕ
entries_in (right nodes entries) = entries
entries_in (refused n) = 0

-- then bytes left over
abbrev pub to_the_end : List ℕ → Step → Layout
to_the_end s (fault c) = refused c
to_the_end s (done next met nodes entries) = cond (eqb next (length s)) (right nodes entries) (refused (number image_broken))

unfoldable pub read_image : List ℕ → Layout
read_image s = to_the_end s (read_root s)

-- an image whose layout is right, with so many nodes and entries
pub record RightImage (s : List ℕ) : Type 0 where
  pub nodes : ℕ
  pub entries : ℕ
  pub read : read_image s ≡ right nodes entries

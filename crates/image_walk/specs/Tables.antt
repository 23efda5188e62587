-- The table of a node in place: its entries by number, and the child for a byte. Assumes nothing.
use Rattle.std.specs.Prelude.{ℕ, zero, suc, ◌+◌, ◌*◌, cond, List, [], ◌∷◌, get_or, eqb}
use Rattle.std.proofs.Math.Option.{Option, none, some}
use Rattle.words.specs.Words.{le64}
use Rattle.image_format.specs.Held.{Entry, sparse_entries, dense_entries}

-- ── the entries of a table ──

-- kinds 2 and 3: entry j, of 9 bytes
abbrev pub sparse_slot : List ℕ → ℕ → ℕ → Entry
sparse_slot s table j = record { byte = get_or s (table + j * 9) 0; node = le64 s (table + j * 9 + 1) + 1 }

-- kind 1: the slot of byte j, none unless its flag is 1
unfoldable pub dense_slot : List ℕ → ℕ → ℕ → Option Entry
dense_slot s table j = cond (eqb (get_or s (le64 s (table + j * 8)) 0) 1) (some (record { byte = j; node = le64 s (table + j * 8) + 1 })) none

-- entry j of a table of so many; one of 256 is of kind 1
unfoldable pub slot_in : List ℕ → ℕ → ℕ → ℕ → Option Entry
slot_in s table children j = cond (eqb children 256) (dense_slot s table j) (some (sparse_slot s table j))

-- an entry in front, where there is one
abbrev pub put : Option Entry → List Entry → List Entry
put none es = es
put (some e) es = e ∷ es

-- the n entries of a table from number j on, the empty ones left out
unfoldable pub slots_from : List ℕ → ℕ → ℕ → ℕ → ℕ → List Entry
slots_from s table children zero j = []
slots_from s table children (suc n) j = put (slot_in s table children j) (slots_from s table children n (j + 1))

-- the entries of a table of so many
unfoldable pub entries_at : List ℕ → ℕ → ℕ → List Entry
entries_at s table children = cond (eqb children 256) (dense_entries s table 256 0) (sparse_entries s table children 0)

-- ── the child for a byte ──

-- the node of the first entry with a byte
unfoldable pub node_for : List Entry → ℕ → Option ℕ
node_for [] b = none
node_for (e ∷ es) b = cond (eqb e.byte b) (some e.node) (node_for es b)

-- Document 01, "The saved image": the bytes of a trie. Assumes nothing.
use Rattle.std.specs.Prelude.{ℕ, zero, suc, ◌+◌, ◌*◌, cond, List, [], ◌∷◌, ◌++◌, length, replicate, ltb, eqb}
use Rattle.words.specs.Words.{bytes64}
use Rattle.definitions.specs.Location.{Location, locations_bytes}
use Rattle.trie.specs.Trie.{Lists, Forest, leaf, more, Trie, empty, root, entries_of}
use Rattle.kinds.specs.Kinds.{kind_of}

-- ── lists: a count (8) and 24 bytes a location ──

unfoldable pub list_bytes : List Location → List ℕ
list_bytes ls = bytes64 (length ls) ++ locations_bytes ls

-- prefixes, chunks, suffixes
unfoldable pub lists_bytes : Lists → List ℕ
lists_bytes h = list_bytes h.prefixes ++ (list_bytes h.chunks ++ list_bytes h.suffixes)

unfoldable pub lists_size : Lists → ℕ
lists_size h = 24 + 24 * entries_of h

-- ── children ──

-- a child as its parent sees it: its byte, the size of its node, what that counts, and its bytes where it stands at an index
pub record Child : Type 0 where
  pub byte : ℕ
  pub size : ℕ
  pub nodes : ℕ
  pub entries : ℕ
  pub bytes : ℕ → List ℕ

-- a child is flag 1 and its node; children one after another, the first flag at index `at`
unfoldable pub children_bytes : ℕ → List Child → List ℕ
children_bytes at [] = []
children_bytes at (k ∷ ks) = 1 ∷ (k.bytes (at + 1) ++ children_bytes (at + (1 + k.size)) ks)

unfoldable pub children_size : List Child → ℕ
children_size [] = 0
children_size (k ∷ ks) = 1 + k.size + children_size ks

-- kind 3: a table of byte and offset (8) in arrival order, for children by arrival; an offset is where the flag stands
unfoldable pub table_by_arrival : ℕ → List Child → List ℕ
table_by_arrival at [] = []
table_by_arrival at (k ∷ ks) = k.byte ∷ (bytes64 at ++ table_by_arrival (at + (1 + k.size)) ks)

-- kind 2: the same table for children by ascending byte; a flag stands behind the children with lower bytes
unfoldable pub size_below : ℕ → List Child → ℕ
size_below b [] = 0
size_below b (k ∷ ks) = cond (ltb k.byte b) (1 + k.size) 0 + size_below b ks

unfoldable pub table_by_byte : ℕ → List Child → List Child → List ℕ
table_by_byte at all [] = []
table_by_byte at all (k ∷ ks) = k.byte ∷ (bytes64 (at + size_below k.byte all) ++ table_by_byte at all ks)

unfoldable pub with_byte : ℕ → List Child → List Child
with_byte b [] = []
with_byte b (k ∷ ks) = cond (eqb k.byte b) (k ∷ with_byte b ks) (with_byte b ks)

-- the children with the n bytes from b on, by ascending byte
unfoldable pub ascending : ℕ → ℕ → List Child → List Child
ascending zero b ks = []
ascending (suc n) b ks = with_byte b ks ++ ascending n (b + 1) ks

-- kind 1: 256 offsets, then for each byte a flag 0 or a child
unfoldable pub slot_size : List Child → ℕ
slot_size [] = 1
slot_size (k ∷ ks) = 1 + k.size

unfoldable pub slot_bytes : ℕ → List Child → List ℕ
slot_bytes at [] = 0 ∷ []
slot_bytes at (k ∷ ks) = 1 ∷ k.bytes (at + 1)

-- the slots of the n bytes from b on, the first at index `at`: their offsets, their bytes, their size
unfoldable pub slot_offsets : ℕ → ℕ → ℕ → List Child → List ℕ
slot_offsets zero b at ks = []
slot_offsets (suc n) b at ks = bytes64 at ++ slot_offsets n (b + 1) (at + slot_size (with_byte b ks)) ks

unfoldable pub slots_bytes : ℕ → ℕ → ℕ → List Child → List ℕ
slots_bytes zero b at ks = []
slots_bytes (suc n) b at ks = slot_bytes at (with_byte b ks) ++ slots_bytes n (b + 1) (at + slot_size (with_byte b ks)) ks

unfoldable pub slots_size : ℕ → ℕ → List Child → ℕ
slots_size zero b ks = 0
slots_size (suc n) b ks = slot_size (with_byte b ks) + slots_size n (b + 1) ks

-- ── nodes ──

-- what stands behind the lists of a node of that kind, from index `at` on
unfoldable pub table_bytes : ℕ → ℕ → List Child → List ℕ
table_bytes kind at ks =
    let start = at + 8 + length ks * 9 in
    cond (eqb kind 1) (slot_offsets 256 0 (at + 2048) ks ++ slots_bytes 256 0 (at + 2048) ks)
    (cond (eqb kind 2) (bytes64 (length ks) ++ (table_by_byte start ks ks ++ children_bytes start (ascending 256 0 ks)))
    (bytes64 (length ks) ++ (table_by_arrival start ks ++ children_bytes start ks)))

unfoldable pub table_size : ℕ → List Child → ℕ
table_size kind ks =
    cond (eqb kind 1) (2048 + slots_size 256 0 ks)
    (cond (eqb kind 2) (8 + length ks * 9 + children_size (ascending 256 0 ks))
    (8 + length ks * 9 + children_size ks))

-- kind byte, lists, children
unfoldable pub node_bytes : ℕ → Lists → List Child → List ℕ
node_bytes at h ks = kind_of (length ks) ∷ (lists_bytes h ++ table_bytes (kind_of (length ks)) (at + 1 + lists_size h) ks)

unfoldable pub node_size : Lists → List Child → ℕ
node_size h ks = 1 + lists_size h + table_size (kind_of (length ks)) ks

unfoldable pub nodes_in : List Child → ℕ
nodes_in [] = 0
nodes_in (k ∷ ks) = k.nodes + nodes_in ks

unfoldable pub entries_in : List Child → ℕ
entries_in [] = 0
entries_in (k ∷ ks) = k.entries + entries_in ks

-- a node as its parent sees it
unfoldable pub as_child : ℕ → Lists → List Child → Child
as_child b h ks = record { byte = b; size = node_size h ks; nodes = nodes_in ks + 1; entries = entries_of h + entries_in ks; bytes = λ at. node_bytes at h ks }

unfoldable pub children_of : Forest → List Child
children_of leaf = []
children_of (more b h below later) = as_child b h (children_of below) ∷ children_of later

-- the saved image; that of an empty index is 25 zero bytes
unfoldable pub image : Trie → List ℕ
image empty = replicate 25 0
image (root n) = node_bytes 0 n.lists (children_of n.children)

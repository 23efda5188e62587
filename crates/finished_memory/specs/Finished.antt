-- The memory of a finished index: header, image, zeros. Assumes nothing.
use Rattle.std.specs.Prelude.{ℕ, ◌+◌, ◌-◌, ◌≤◌, List, ◌++◌, length, replicate}
use Rattle.std.proofs.lemmas.List.Edits.{sets}
use Rattle.definitions.specs.Calls.{Capacity, header_size, needed}
use Rattle.trie.specs.Trie.{Trie, nodes, entries}
use Rattle.image_format.specs.Image.{image}
use Rattle.memory_header.specs.Layout.{Header, header_bytes}

-- the tally is the nodes and the entries of the trie
abbrev pub finished_header : Capacity → Trie → Header
finished_header c t = record { capacity = c; phase = 1; nodes = nodes t; entries = entries t; payload = length (image t) }

-- header, image, and zeros up to what the capacity needs; bytes behind that stay
abbrev pub finished_memory : List ℕ → Capacity → Trie → List ℕ
finished_memory m c t = sets m 0 (header_bytes (finished_header c t) ++ (image t ++ replicate (needed c - (header_size + length (image t))) 0))

-- the header is written, and all between the payload and what the capacity needs is zero
abbrev pub closed : List ℕ → Header → List ℕ
closed s h = sets (sets s (header_size + h.payload) (replicate (needed h.capacity - (header_size + h.payload)) 0)) 0 (header_bytes h)

pub record Closable (s : List ℕ) (h : Header) : Type 0 where
  pub nodes : h.capacity.nodes ≤ 1048576
  pub entries : h.capacity.entries ≤ 1048576
  pub payload : header_size + h.payload ≤ needed h.capacity
  pub held : needed h.capacity ≤ length s

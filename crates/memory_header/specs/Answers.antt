-- The code's headers, and what is told of a memory, as those of the definitions. Assumes nothing.
use Rattle.std.specs.Prelude.{ℕ, ◌≤◌, ◌≡◌, cond, List}
use Rattle.std.specs.Prelude.{Option as Maybe, Some, None}
use Rattle.std.proofs.Math.Option.{Option, none, some}
use Rattle.definitions.specs.Calls.{Capacity}
use Rattle.memory_header.specs.Layout.{Room, Header, header_at, header_right, payload_limit}
use Rattle.memory_header.specs.declared.capacity.Capacity as C
use Rattle.memory_header.specs.declared.Header as H

-- the capacity of the definitions
abbrev pub capacity_of : C.Capacity → Capacity
capacity_of c = record { nodes = c.nodes; entries = c.entries }

-- the header
abbrev pub header_of : H.Header → Header
header_of h = record { capacity = capacity_of h.capacity; phase = h.tally.phase; nodes = h.tally.nodes; entries = h.tally.entries; payload = h.payload }

-- and what a memory has for one
abbrev pub heading_of : Maybe H.Header → Option Header
heading_of (Some h) = some (header_of h)
heading_of None = none

-- the header of a memory, where there is room for one and it is sound
abbrev pub heading_at : List ℕ → Option Header
heading_at m = cond (header_right m) (some (header_at m)) none

-- the capacity that was asked for, which an index in this memory can have, or none where it cannot
abbrev pub IsRoomFor : List ℕ → Capacity → Maybe C.Capacity → Type 0
IsRoomFor m c (Some k) = (capacity_of k ≡ c) × Room m c
IsRoomFor m c None = Room m c → ⊥

-- the tally and the payload of a header are within its capacity
pub record Within (h : Header) : Type 0 where
  pub nodes : h.nodes ≤ h.capacity.nodes
  pub entries : h.entries ≤ h.capacity.entries
  pub payload : h.payload ≤ payload_limit h

-- The capacity of an index, and what a trie has to do with it. Assumes nothing.
use Rattle.std.specs.Prelude.{◌≤◌}
use Rattle.std.proofs.Math.Option.{Option, none, some}
use Rattle.definitions.specs.Calls.{Capacity}
use Rattle.trie.specs.Trie.{Trie, nodes, entries}
use Rattle.index_memory.specs.Index.{Index, broken, opened, finished}

-- the capacity of what a memory holds
abbrev pub capacity_of : Index → Option Capacity
capacity_of broken = none
capacity_of (opened c ps) = some c
capacity_of (finished c t) = some c

-- a trie of no more nodes and entries than the capacity has
pub record Within (c : Capacity) (t : Trie) : Type 0 where
  pub nodes : nodes t ≤ c.nodes
  pub entries : entries t ≤ c.entries

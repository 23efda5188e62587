-- Nodes of kind 3 with empty lists and one child, whose flag stands behind them. Assumes nothing.
use Rattle.std.specs.Prelude.{ℕ, ◌+◌, ◌*◌, ◌-◌, ◌≤◌, ◌≡◌, List, length, get_or}
use Rattle.words.specs.Words.{le64}
use Rattle.image_format.specs.Reading.{done, fault, read_node}

-- the node at an index is of kind 3 and has neither prefix nor chunk
pub record Bare (s : List ℕ) (at : ℕ) : Type 0 where
  pub kind : get_or s at 0 ≡ 3
  pub prefixes : le64 s (at + 1) ≡ 0
  pub chunks : le64 s (at + 9) ≡ 0

-- nor suffix, and has one child
pub record SingleWithoutLists (s : List ℕ) (at : ℕ) : Type 0 where
  pub bare : Bare s at
  pub suffixes : le64 s (at + 17) ≡ 0
  pub count : le64 s (at + 25) ≡ 1

-- such a node stands at an index, and its child 43 bytes further on
pub record SingleBeforeChild (s : List ℕ) (at : ℕ) : Type 0 where
  pub within : at + 43 ≤ length s
  pub head : SingleWithoutLists s at
  pub offset : le64 s (at + 34) ≡ at + 42
  pub flag : get_or s (at + 42) 0 ≡ 1

-- with so many levels left the node at an index reads as the one k such nodes further on, with k nodes more
pub record SinglesBelow (s : List ℕ) (at left k : ℕ) : Type 0 where
  pub few : k ≤ left
  pub within : at + 43 * k ≤ length s
  pub refused : (c : ℕ) → fault c ≡ read_node s (left - k) (at + 43 * k) → fault c ≡ read_node s left at
  pub right : (next nodes entries : ℕ) → done next 1 nodes entries ≡ read_node s (left - k) (at + 43 * k) → done next 1 (nodes + k) entries ≡ read_node s left at

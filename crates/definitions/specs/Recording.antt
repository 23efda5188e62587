-- Document 01: a recording is any list of record, finish and search calls on a newly opened index. Assumes nothing.
use Rattle.std.specs.Prelude.{ℕ, ◌+◌, ◌≤◌, ◌<◌, length}
use mathlib.Core.List.{List, [], ◌∷◌, Memᴰ}
use Rattle.definitions.specs.Blocks.{Block}
use Rattle.definitions.specs.Calls.{Capacity, Recorded, fresh, recorded, finished_now, data_limit, last_number}

pub data Call : Type 0 where
  record_block : (kind : ℕ) → Block → Call
  finish : Call
  -- a query, and for how many places and rows there is room
  search : (query : List ℕ) → (scratch room : ℕ) → Call

-- what a call leaves behind; a search changes nothing
abbrev pub after : Capacity → Recorded → Call → Recorded
after c s (record_block kind b) = recorded c s kind b
after c s finish = finished_now s
after c s (search q scratch room) = s

-- each call gets the index as the call before left it
abbrev pub after_all : Capacity → Recorded → List Call → Recorded
after_all c s [] = s
after_all c s (k ∷ ks) = after_all c (after c s k) ks

-- which Memory blocks were taken follows from the capacity and the calls, one for each such record call
abbrev pub taken : Capacity → List Call → List Block
taken c ks = (after_all c fresh ks).blocks

-- a finished recording has at least one finish in it
abbrev pub Finished : List Call → Type 0
Finished ks = Memᴰ finish ks

-- what passes the checks behind refusals 4, 5 and 6
pub record Sound (b : Block) : Type 0 where
  pub short : length b.bytes ≤ data_limit
  pub alive : b.at.created < b.at.destroyed
  pub below : b.at.address + length b.bytes ≤ last_number

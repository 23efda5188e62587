-- What the pieces of a block charge together, in closed form, and a Memory block judged by the header's value. Assumes nothing.
use Rattle.std.specs.Prelude.{ℕ, ◌+◌, ◌*◌, ◌/◌, ◌%◌, max, Bool, List}
use Rattle.std.proofs.Math.Option.{Option, none, some}
use Rattle.definitions.specs.Location.{Location}
use Rattle.definitions.specs.Blocks.{entry_charge}
use Rattle.definitions.specs.Causes.{Cause, number, Check, first_cause}
use Rattle.definitions.specs.Calls.{capacity_checks, memory_checks}
use Rattle.memory_header.specs.Layout.{Header}

-- how many pieces a block of n bytes has: one for 16 bytes or less, an empty block too
abbrev pub piece_count : ℕ → ℕ
piece_count n = max 1 ((n + 15) / 16)

-- the nodes that they charge together; the entries are those of one piece of n bytes
abbrev pub block_nodes : ℕ → ℕ
block_nodes n = n / 16 * 136 + (n % 16) * (n % 16 + 1) / 2

-- the header that counts a block of n bytes behind the pieces that it counts
abbrev pub grown : Header → ℕ → Header
grown h n = record { capacity = h.capacity; phase = h.phase; nodes = h.nodes + block_nodes n; entries = h.entries + entry_charge n; payload = h.payload + piece_count n }

-- a block is taken, and this header counts it too; or it is refused with a number
pub data Verdict : Type 0 where
  counted : Header → Verdict
  refused : ℕ → Verdict

abbrev pub verdict : Option Cause → Header → Verdict
verdict none h = counted h
verdict (some c) h = refused (number c)

-- a block of n bytes by what it charges alone
abbrev pub counted_within : Header → ℕ → Verdict
counted_within h n = verdict (first_cause (capacity_checks h.capacity (grown h n).nodes (grown h n).entries)) (grown h n)

-- a Memory block of n bytes at l that clashes with what is held or not: its checks by the header's value, and its verdict
abbrev pub judged_checks : Header → Bool → ℕ → Location → List Check
judged_checks h clashes n l = memory_checks h.capacity clashes (grown h n).nodes (grown h n).entries n l

abbrev pub judged : Header → Bool → ℕ → Location → Verdict
judged h clashes n l = verdict (first_cause (judged_checks h clashes n l)) (grown h n)

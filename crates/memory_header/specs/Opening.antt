-- Opening as a function on memory: the answer, and the memory afterwards. Assumes nothing.
use Rattle.std.specs.Prelude.{ℕ, List, length}
use Rattle.std.proofs.Math.Option.{Option, none, some}
use Rattle.definitions.specs.Causes.{Cause, number, first_cause}
use Rattle.definitions.specs.Calls.{Capacity, open_checks}
use Rattle.memory_header.specs.Layout.{Header, with_header}

-- the number of a refusal and the memory afterwards: 0 where the call was not refused
pub record Done : Type 0 where
  pub refusal : ℕ
  pub memory : List ℕ

-- a call that is refused leaves the memory as it was
abbrev pub unless_refused : Option Cause → List ℕ → List ℕ → Done
unless_refused none old new = record { refusal = 0; memory = new }
unless_refused (some c) old new = record { refusal = number c; memory = old }

-- no pieces yet; the root charges one node always
abbrev pub fresh_header : Capacity → Header
fresh_header c = record { capacity = c; phase = 0; nodes = 1; entries = 0; payload = 0 }

-- what opening leaves: only the header is written
abbrev pub fresh_memory : List ℕ → Capacity → List ℕ
fresh_memory m c = with_header m (fresh_header c)

-- opening a memory with a capacity
unfoldable pub open_memory : List ℕ → Capacity → Done
open_memory m c = unless_refused (first_cause (open_checks c (length m))) m (fresh_memory m c)

-- What the contracts cite besides: how the code holds a state. Assumes nothing.
use Rattle.std.specs.Prelude.{ℕ, ◌+◌, ◌≤◌, ◌<◌, ◌≡◌, List, length, take, drop}
use Rattle.lines.specs.Kept.{Kept}
use Rattle.replies.specs.declared.Output.{Output}
use Rattle.replies.specs.Outputs.{Writes, emptied}
use Rattle.answering.specs.Parts.{State, at_start, after_bytes, used}

-- the code holds a state: its answers were written to the output
pub record HoldsState (s : State) (out : Output) (memory : List ℕ) (line : Kept) (out' : Output) : Type 0 where
  pub memory_is : memory ≡ s.memory
  pub kept_is : line ≡ s.kept
  pub written : Writes out s.answers out'
  pub within : out'.at ≤ length out.bytes.now

-- what of the input from index p on is answered
abbrev pub used_part : ℕ → State → List ℕ → ℕ → List ℕ
used_part room s input p = take (used room s (drop p input)) (drop p input)

-- lines of an input were answered from index p on, up to the index next, from the output's start on
pub record AnswersLines (memory : List ℕ) (line : Kept) (input : List ℕ) (p : ℕ) (out : Output) (memory' : List ℕ) (line' : Kept) (out' : Output) (next : ℕ) : Type 0 where
  pub goes_to : next ≡ p + used (length out.bytes.now) (at_start memory line) (drop p input)
  pub holds : HoldsState (after_bytes (at_start memory line) (used_part (length out.bytes.now) (at_start memory line) input p)) (emptied out) memory' line' out'
  pub goes_on : p < length input → p < next

-- all of a part of the input was answered: the memory, and what is kept of a line
pub record TakesPart (memory : List ℕ) (line : Kept) (input memory' : List ℕ) (line' : Kept) : Type 0 where
  pub memory_is : memory' ≡ (after_bytes (at_start memory line) input).memory
  pub kept_is : line' ≡ (after_bytes (at_start memory line) input).kept

-- What a record and a finish make of the tally of an index. Assumes nothing.
use Rattle.std.specs.Prelude.{ℕ, ◌+◌}
use Rattle.tally.specs.declared.Tally.{Tally}
use Rattle.tally.specs.declared.Phase.TheVariants.{Finished}
use Rattle.tally.specs.Phases.{phase_number}

-- a block that is taken charges nodes and entries, and the phase stays
abbrev pub recorded : Tally → ℕ → ℕ → Tally
recorded t nodes entries = record { nodes = t.nodes + nodes; entries = t.entries + entries; phase = t.phase }

-- finish counts the nodes and entries that are left, and sets the phase
abbrev pub finished : ℕ → ℕ → Tally
finished nodes entries = record { nodes = nodes; entries = entries; phase = phase_number Finished }

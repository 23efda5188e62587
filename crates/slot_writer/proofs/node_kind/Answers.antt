-- `slot_writer::node_kind` meets its contract: a count of at most 256 has a kind. Assumes nothing.
use native.Mathlib.Omega.{arith}
use Rattle.kinds.proofs.KindRule.{has_kind}
use Rattle.slot_writer.proofs.node_kind.Goals as goal

pub unwrap-requires : goal.unwrap-requires
unwrap-requires c = has_kind _ _ c.kind_of.ensures (omega (arith, c.requires))

-- `judging::judge` meets its contract: at each answer the tests that led there say which check decides. Assumes nothing.
use native.Mathlib.Omega.{arith}
use mathlib.Core.Path.{refl, sym, ◌∙◌}
use Rattle.definitions.specs.Blocks.{Block}
use Rattle.definitions.proofs.Conflicts.{block_clashes}
use Rattle.location.specs.Plain.{plain}
use Rattle.memory_header.specs.Answers.{header_of}
use Rattle.judging.proofs.Ways.{refused_18, charge_decides}
use Rattle.judging.proofs.judge.Goals as goal

pub returns-then-clashes : goal.returns-then-clashes
returns-then-clashes c =
    let b : Block = record { bytes = c.args.«data».now; at = plain c.args.l } in
    refused_18 (header_of c.args.h).capacity _ _ _ _ b.at _ c.if-n-gt-DATA_LIMIT.false c.if-l.false (omega arith) (block_clashes b _ ∙ sym (c.clashes.ensures b refl refl) ∙ c.if-clashes.true)

pub returns : goal.returns
returns c =
    let b : Block = record { bytes = c.args.«data».now; at = plain c.args.l } in
    c.count_block.ensures ∙ charge_decides (header_of c.args.h).capacity _ _ _ _ b.at _ c.if-n-gt-DATA_LIMIT.false c.if-l.false (omega arith) (block_clashes b _ ∙ sym (c.clashes.ensures b refl refl) ∙ c.if-clashes.false)

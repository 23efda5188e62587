-- `inspecting::image_right` meets its contract: the layout and the rule, and then the tally. Assumes nothing.
use Rattle.std.proofs.Common.{refl, ap, ◌∙◌}
use borrow.Author.Tests.{eq-eqb}
use Rattle.image_format.specs.Check.{check_image}
use Rattle.memory_header.specs.Answers.{header_of}
use Rattle.inspecting.proofs.Facts.{same_part, image_right}
use Rattle.inspecting.proofs.image_right.Goals as goal

pub returns-then-h-t : goal.returns-then-h-t
returns-then-h-t c = image_right c.args.mem.now (header_of c.args.h) c.in-Ok.t.nodes c.in-Ok.t.entries
    (c.in-Ok.ensures ∙ ap check_image (same_part c.args.mem.now c.args.h.payload)) _ (rw (eq-eqb c.args.h.tally.nodes c.in-Ok.t.nodes c.if-h-t.true) refl)

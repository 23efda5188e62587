-- `image::read_root` meets its contract. Assumes nothing.
use mathlib.Core.Path.{◌∙◌}
use Rattle.image_format.proofs.Roots.{root_cut, root_empty, root_node}
use Rattle.image.proofs.read_root.Goals as goal

pub returns-then-s-eq0 : goal.returns-then-s-eq0
returns-then-s-eq0 c = root_cut _ c.if-s-eq0.true

pub returns-then-s-eq0-2 : goal.returns-then-s-eq0-2
returns-then-s-eq0-2 c = c.read_empty.ensures ∙ root_empty _ c.if-s-eq0.false c.if-s-eq0-2.true

pub returns : goal.returns
returns c = c.read_node.ensures ∙ root_node _ c.if-s-eq0.false c.if-s-eq0-2.false

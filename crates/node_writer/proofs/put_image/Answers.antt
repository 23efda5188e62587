-- `node_writer::put_image` meets its contract. Assumes nothing.
use Rattle.node_writer.proofs.WholeImage.{image_empty, image_written}
use Rattle.node_writer.proofs.put_image.Goals as goal

pub returns-then-tails-eq0 : goal.returns-then-tails-eq0
returns-then-tails-eq0 c = image_empty c.requires _ c.if-tails-eq0.true c.clear.ensures

pub returns : goal.returns
returns c = image_written c.requires c.if-tails-eq0.false c.put_node.ensures

-- `single_writer::put_front` meets its contract: the lists are those of the node. Assumes nothing.
use mathlib.Core.Path.{◌∙◌}
use Rattle.single_writer.proofs.NodeHead.{lists_asked, front_written}
use Rattle.single_writer.proofs.put_front.Goals as goal

pub put_lists-requires : goal.put_lists-requires
put_lists-requires c = lists_asked c.requires.asked c.requires.first c.requires.second _ _ (c.number.ensures ∙ c.node_kind.ensures) c.behind_kind.ensures

pub returns : goal.returns
returns c = front_written c.requires.asked c.requires.first c.requires.second _ _ (c.number.ensures ∙ c.node_kind.ensures) c.behind_kind.ensures c.put_lists.ensures

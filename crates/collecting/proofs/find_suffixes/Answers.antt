-- `collecting::find_suffixes` meets its contract: two lists are added one after the other, or the first has no room. Assumes nothing.
use Rattle.collecting.proofs.Nodes.{suffixes_within, chunks_within, ended, ended_over}
use Rattle.collecting.proofs.find_suffixes.Goals as goal

pub take_list-requires : goal.take_list-requires
take_list-requires c = suffixes_within c.node_at-n.ensures c.requires

pub returns-in_err-take_list : goal.returns-in_err-take_list
returns-in_err-take_list c = rw c.from_residual.ensures (ended_over c.node_at-n.ensures c.in_err-take_list.ensures)

pub take_list-requires-2 : goal.take_list-requires-2
take_list-requires-2 c = chunks_within c.node_at-n.ensures c.requires

pub returns : goal.returns
returns c = ended c.node_at-n.ensures c.take_list-2.ensures c.in_ok-take_list.ensures

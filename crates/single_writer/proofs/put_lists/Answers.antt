-- `single_writer::put_lists` meets its contract: one list after the other. Assumes nothing.
use Rattle.single_writer.proofs.NodeLists.{second_asked, third_asked, lists_written}
use Rattle.single_writer.proofs.put_lists.Goals as goal

pub put_list-past_chunks-requires : goal.put_list-past_chunks-requires
put_list-past_chunks-requires c =
    let a = second_asked c.requires c.put_list-past_prefixes.ensures in
    (c.requires.second, a.memory, a.room, a.counted)

pub put_list-requires : goal.put_list-requires
put_list-requires c =
    let a = third_asked c.requires c.put_list-past_prefixes.ensures c.put_list-past_chunks.ensures in
    (c.requires.third, a.memory, a.room, a.counted)

pub returns : goal.returns
returns c = lists_written c.requires c.put_list-past_prefixes.ensures c.put_list-past_chunks.ensures c.put_list.ensures

-- `image_walk::node_at` meets its contract: each count that is read tells where the next list stands. Assumes nothing.
use native.Mathlib.Omega.{arith}
use Rattle.image_walk.proofs.Parts.{room_first, room_second, room_third, room_last, parts_are}
use Rattle.image_walk.proofs.node_at.Goals as goal

pub list_at-prefixes-requires : goal.list_at-prefixes-requires
list_at-prefixes-requires c = room_first _ _ c.requires

pub end-requires : goal.end-requires
end-requires c = let r = room_second _ _ _ c.list_at-prefixes.ensures c.requires in omega arith

pub list_at-chunks-requires : goal.list_at-chunks-requires
list_at-chunks-requires c = let r = room_second _ _ _ c.list_at-prefixes.ensures c.requires in omega arith

pub end-requires-2 : goal.end-requires-2
end-requires-2 c = let r = room_third _ _ _ c.list_at-prefixes.ensures _ c.end.ensures _ c.list_at-chunks.ensures c.requires in omega arith

pub list_at-suffixes-requires : goal.list_at-suffixes-requires
list_at-suffixes-requires c = let r = room_third _ _ _ c.list_at-prefixes.ensures _ c.end.ensures _ c.list_at-chunks.ensures c.requires in omega arith

pub bounds-s-at : goal.bounds-s-at
bounds-s-at c = let r = room_first _ _ c.requires in omega arith

pub end-requires-3 : goal.end-requires-3
end-requires-3 c =
    let r = room_last _ _ _ c.list_at-prefixes.ensures _ c.end.ensures _ c.list_at-chunks.ensures _ c.end-2.ensures _ c.list_at-suffixes.ensures c.requires in
    omega arith

pub table_behind-requires : goal.table_behind-requires
table_behind-requires c =
    let r = room_last _ _ _ c.list_at-prefixes.ensures _ c.end.ensures _ c.list_at-chunks.ensures _ c.end-2.ensures _ c.list_at-suffixes.ensures c.requires in
    omega arith

pub returns : goal.returns
returns c = parts_are _ _ _ c.list_at-prefixes.ensures _ c.end.ensures _ c.list_at-chunks.ensures _ c.end-2.ensures _ c.list_at-suffixes.ensures _ c.end-3.ensures _ c.table_behind.ensures

-- `searching::last_places` meets its contract: the child of the root for the last byte. Assumes nothing.
use mathlib.Core.List.{[]}
use Rattle.node_joining.specs.Found.{last_of}
use Rattle.end_places.proofs.Progress.{root_found, laid_found, walked_at, walked_table, walked_ending, nothing_ending, child_found, child_nothing, last_byte}
use Rattle.searching.proofs.last_places.Goals as goal

pub child_of-requires : goal.child_of-requires
child_of-requires c = walked_table (walked_at [] c.node_at-root.ensures (root_found ∣ c.requires.0 ∣₁))

pub returns-in_default : goal.returns-in_default
returns-in_default c =
    let args = c.args in
    let root = walked_at [] c.node_at-root.ensures (root_found ∣ c.requires.0 ∣₁) in
    nothing_ending args.img.now (last_of args.q.now) (child_nothing root _ (last_byte args.q.now c.requires.1) c.in_default.ensures)

pub node_at-n-requires : goal.node_at-n-requires
node_at-n-requires c =
    let args = c.args in
    let root = walked_at [] c.node_at-root.ensures (root_found ∣ c.requires.0 ∣₁) in
    laid_found (child_found root _ (last_byte args.q.now c.requires.1) c.in-Some.ensures)

pub returns : goal.returns
returns c =
    let args = c.args in
    let root = walked_at [] c.node_at-root.ensures (root_found ∣ c.requires.0 ∣₁) in
    walked_ending (walked_at (last_of args.q.now) c.node_at-n.ensures (child_found root _ (last_byte args.q.now c.requires.1) c.in-Some.ensures)) ∣ c.requires.0 ∣₁

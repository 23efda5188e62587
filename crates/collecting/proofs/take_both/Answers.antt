-- `collecting::take_both` meets its contract: two lists are added one after the other, or the first has no room. Assumes nothing.
use mathlib.Core.List.Memᴰ.{append_left}
use Rattle.place_buffer.proofs.Adding.{taken_more, taken_over}
use Rattle.collecting.proofs.take_both.Goals as goal

pub returns-in_err-take_any : goal.returns-in_err-take_any
returns-in_err-take_any c = rw c.from_residual.ensures (taken_over c.in_err-take_any.ensures (λ x k. append_left _ k))

pub returns : goal.returns
returns c = taken_more c.in_ok-take_any.ensures c.take_any-2.ensures

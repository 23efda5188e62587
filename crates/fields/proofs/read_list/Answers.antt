-- `fields::read_list` meets its contract. Assumes nothing.
use native.Mathlib.Omega.{arith}
use mathlib.Core.Path.{◌∙◌, sym}
use Rattle.image_format.proofs.Heads.{list_cut, list_past, list_short}
use Rattle.fields.proofs.read_list.Goals as goal

pub returns-then-room-lt8-clause-list : goal.returns-then-room-lt8-clause-list
returns-then-room-lt8-clause-list c = list_short _ _ (omega arith)

pub returns-then-n-eq0-clause-list : goal.returns-then-n-eq0-clause-list
returns-then-n-eq0-clause-list c = list_past _ _ _ _ (sym c.if-n-eq0.true ∙ c.get64-n.ensures) (omega arith) (omega arith)

pub returns-then-room-n-clause-list : goal.returns-then-room-n-clause-list
returns-then-room-n-clause-list c = list_cut _ _ (omega arith) (omega arith)

pub returns-clause-list : goal.returns-clause-list
returns-clause-list c = list_past _ _ _ _ c.get64-n.ensures (omega arith) (omega arith)

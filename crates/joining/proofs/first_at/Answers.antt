-- `joining::first_at` meets its contract: none has the key where the first that is not below it has another address. Assumes nothing.
use native.Mathlib.Omega.{arith}
use mathlib.Core.Path.{ap, ◌∙◌}
use Rattle.definitions.specs.Location.{Location}
use Rattle.joining.proofs.Search.{parted, parted_none}
use Rattle.joining.proofs.first_at.Goals.{else-first-list-via-then-first-list+else-location_in-key, else-first-list-via-else-first-list}
use Rattle.joining.proofs.first_at.Goals as goal

pub returns-else-first-list : goal.returns-else-first-list
returns-else-first-list c =
    let a = c.args in
    let parts = parted a.img.now a.list.count a.list.at a.key _ c.requires.sorted c.count_below-first.ensures in
    elim c.else-first-list.branch [
      | else-first-list-via-then-first-list+else-location_in-key w ↦ record { none = parted_none parts (λ l e. w.if-location_in-key.false (ap (λ (m : Location). m.address) w.location_in.ensures ∙ e)) }
      | else-first-list-via-else-first-list w ↦ record { none = parted_none parts (λ l e. absurd (omega (arith, w.if-first-list.false))) }
    ]

-- `clashing::reaches` meets its contract: what is asked of all entries is asked of those before k. Assumes nothing.
use Rattle.std.proofs.Common.{◌≡◌, ◌-◌, ◌≤◌}
use Rattle.location.specs.Plain.{plain}
use Rattle.clashing.specs.Strikes.{strikes}
use Rattle.clashing.proofs.reaches.Given as goal

abbrev pub invariant-loop-k : goal.invariant-loop-k
invariant-loop-k l = (l.g ≤ l.k) × (strikes l.v.entries.line (l.k - l.g) l.g (plain l.x) ≡ strikes l.v.entries.line (l.q - l.g) l.g (plain l.x))

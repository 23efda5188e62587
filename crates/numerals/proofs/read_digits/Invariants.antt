-- `numerals::read_digits` meets its contract: the digits passed make x, and what stands behind them decides. Assumes nothing.
use Prim.Native.Nat.{◌≤◌}
use mathlib.Core.Path.{◌≡◌}
use lib.ListN.{drop}
use Rattle.definitions.specs.Calls.{last_number}
use Rattle.numerals.specs.Numerals.{digits_from}
use Rattle.numerals.proofs.read_digits.Given as goal

abbrev pub invariant-loop-at : goal.invariant-loop-at
invariant-loop-at l = (l.x ≤ last_number) × (digits_from l.x (drop l.at l.line) ≡ digits_from 0 (drop l.from l.line))

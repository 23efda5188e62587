-- `tables::table_fault` meets its contract. Assumes nothing.
use Prim.Native.Nat.{ℕ, ◌<◌, ◌≤◌}
use native.Mathlib.Omega.{arith}
use mathlib.Core.Path.{◌∙◌, ◌≡◌}
use Rattle.std.proofs.Common.{Option, Some, None, MatchOption, is_some, true, false}
use Rattle.image_format.proofs.Entries.{fault_cut, fault_end, fault_on, fault_short, fault_twice}
use Rattle.tables.proofs.table_fault.Goals as goal

found : (o : Option ℕ) (n f : ℕ) → MatchOption o (n ≡ f) (λ j. (j < n) × (j ≡ f)) → true ≡ is_some o → f < n
found (Some j) n f h e = omega arith
found None n f h e = absurd cc

not_found : (o : Option ℕ) (n f : ℕ) → MatchOption o (n ≡ f) (λ j. (j < n) × (j ≡ f)) → false ≡ is_some o → n ≤ f
not_found (Some j) n f h e = absurd cc
not_found None n f h e = omega arith

pub returns-then-p-s : goal.returns-then-p-s
returns-then-p-s c = fault_cut _ _ _ _ c.loop-i-test.true (omega arith) ∙ c.loop-i.invariant.1

pub returns-then-is_some : goal.returns-then-is_some
returns-then-is_some c = fault_twice _ _ _ _ c.loop-i-test.true (omega arith) (found _ _ _ c.find_byte.ensures c.if-is_some.ensures) ∙ c.loop-i.invariant.1

pub returns-then-s-p-lt9 : goal.returns-then-s-p-lt9
returns-then-s-p-lt9 c = fault_short _ _ _ _ c.loop-i-test.true (omega arith) (not_found _ _ _ c.find_byte.ensures c.if-is_some.ensures) (omega arith) ∙ c.loop-i.invariant.1

pub loop-i-preserved : goal.loop-i-preserved
loop-i-preserved c = (omega arith, fault_on _ _ _ _ c.loop-i-test.true (not_found _ _ _ c.find_byte.ensures c.if-is_some.ensures) (omega arith) ∙ c.loop-i.invariant.1)

pub returns : goal.returns
returns c = fault_end _ _ _ _ c.loop-i-test.false ∙ c.loop-i.invariant.1

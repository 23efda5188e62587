-- `test_recordings::main` is safe and ends. Assumes nothing.
use Prim.Native.Nat.{ℕ}
use mathlib.Core.Path.{◌≡◌, sym}
use lib.ListN.{length, replicate, length-replicate}
use Rattle.test_recordings.proofs.main.Goals as goal

zeros : (n : ℕ) → n ≡ length {A = ℕ} (replicate n 0)
zeros n = sym (length-replicate {A = ℕ} n 0)

pub slice_bounds-run-end : goal.slice_bounds-run-end
slice_bounds-run-end c = zeros 3080320

-- `test_image_vectors::main` is safe and ends. Assumes nothing.
use Prim.Native.Nat.{ℕ}
use mathlib.Core.Path.{◌≡◌, sym}
use lib.ListN.{length, replicate, length-replicate}
use Rattle.test_image_vectors.proofs.main.Goals as goal

zeros : (n : ℕ) → n ≡ length {A = ℕ} (replicate n 0)
zeros n = sym (length-replicate {A = ℕ} n 0)

pub slice_bounds-read_file-end-2 : goal.slice_bounds-read_file-end-2
slice_bounds-read_file-end-2 c = zeros 524288

pub slice_bounds-bytes-end : goal.slice_bounds-bytes-end
slice_bounds-bytes-end c = c.in_ok-n.ensures.0

pub slice_bounds-run-end : goal.slice_bounds-run-end
slice_bounds-run-end c = c.in_ok-n.ensures.1

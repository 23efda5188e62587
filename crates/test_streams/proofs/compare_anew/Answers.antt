-- `test_streams::compare_anew` is safe and ends. Assumes nothing.
use Prim.Native.Nat.{ℕ}
use mathlib.Core.Path.{◌≡◌, sym}
use lib.ListN.{length, replicate, length-replicate}
use Rattle.test_streams.proofs.compare_anew.Goals as goal

zeros : (n : ℕ) → n ≡ length {A = ℕ} (replicate n 0)
zeros n = sym (length-replicate {A = ℕ} n 0)

pub slice_bounds-compare-end : goal.slice_bounds-compare-end
slice_bounds-compare-end g c = zeros 720064

pub slice_bounds-compare-end-2 : goal.slice_bounds-compare-end-2
slice_bounds-compare-end-2 g c = zeros 720064

pub slice_bounds-compare-end-3 : goal.slice_bounds-compare-end-3
slice_bounds-compare-end-3 g c = zeros 560000

pub slice_bounds-compare-end-4 : goal.slice_bounds-compare-end-4
slice_bounds-compare-end-4 g c = zeros 560000

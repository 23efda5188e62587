-- The loops of copying and clearing: what is still to be written, written, is always the same. Assumes nothing.
use Prim.Native.Nat.{ℕ, suc, ◌+◌, ◌-◌, ◌≤◌, ◌<◌}
use native.Mathlib.Nat.{add-zero}
use native.Mathlib.Numerals.{add-one}
use native.Mathlib.Omega.{arith}
use mathlib.Core.Path.{◌≡◌}
use mathlib.Core.List.{List}
use lib.ListN.{length, get_or, set, take, drop, replicate}
use lib.Seq.{sets, drop-cons}

pub copy_start : (from to : List ℕ) (a b n : ℕ) → sets to (b + 0) (take (n - 0) (drop (a + 0) from)) ≡ sets to b (take n (drop a from))
copy_start from to a b n =
    let e : n - 0 ≡ n = omega arith in
    rw (e, add-zero a, add-zero b)

pub copy_done : (from to : List ℕ) (a b n k : ℕ) → n ≤ k → sets to (b + k) (take (n - k) (drop (a + k) from)) ≡ to
copy_done from to a b n k h =
    let e : n - k ≡ 0 = omega arith in
    rw e

pub clear_done : (s : List ℕ) (e k : ℕ) → e ≤ k → sets s k (replicate (e - k) 0) ≡ s
clear_done s e k h =
    let q : e - k ≡ 0 = omega arith in
    rw q

pub copy_turn : (from to : List ℕ) (a b n k : ℕ) → k < n → a + n ≤ length from
    → sets to (b + k) (take (n - k) (drop (a + k) from)) ≡ sets (set to (b + k) (get_or from (a + k) 0)) (b + (k + 1)) (take (n - (k + 1)) (drop (a + (k + 1)) from))
copy_turn from to a b n k l h =
    let e : n - k ≡ suc (n - (k + 1)) = omega arith in
    let f : a + (k + 1) ≡ suc (a + k) = omega arith in
    let g : b + (k + 1) ≡ suc (b + k) = omega arith in
    rw (e, f, g, drop-cons from (a + k) 0 (omega arith))

pub clear_turn : (s : List ℕ) (e k : ℕ) → k < e → sets s k (replicate (e - k) 0) ≡ sets (set s k 0) (k + 1) (replicate (e - (k + 1)) 0)
clear_turn s e k l =
    let q : e - k ≡ suc (e - (k + 1)) = omega arith in
    rw (q, add-one k)

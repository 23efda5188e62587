-- The turns of reading and writing: the bytes from i on are read, those before i are written. Assumes nothing.
use Prim.Native.Nat.{ℕ, zero, suc, ◌+◌, ◌-◌, ◌*◌, ◌/◌, ◌%◌, ◌^◌, ◌≤◌, ◌<◌}
use native.Mathlib.Omega.{arith}
use mathlib.Core.Path.{◌≡◌, ap}
use mathlib.Core.List.{List}
use lib.ListN.{get_or, set}
use Rattle.words.specs.Words.{le_n, set_n}
use Rattle.words.proofs.Laws.{top, le_n_lt}

pub read_none : (n : ℕ) (s : List ℕ) (at : ℕ) → 0 ≡ le_n (n - n) s at
unfolding le_n
read_none n s at = let e : n - n ≡ 0 = omega arith in rw e

pub read_one : (n i : ℕ) (s : List ℕ) (at v b : ℕ) → 0 < i → i ≤ n → v ≡ le_n (n - i) s (at + i) → b ≡ get_or s (at + (i - 1)) 0
    → 256 * v + b ≡ le_n (n - (i - 1)) s (at + (i - 1))
unfolding le_n
read_one n i s at v b h k e f =
    let p : n - (i - 1) ≡ suc (n - i) = omega arith in
    let q : at + (i - 1) + 1 ≡ at + i = omega arith in
    rw (p, q) (omega arith)

top_up : (k n : ℕ) → k ≤ n → top k ≤ top n
unfolding top
top_up zero zero h = omega arith
top_up zero (suc n) h = omega (arith, top_up zero n (omega arith))
top_up (suc k) zero h = absurd (omega arith)
top_up (suc k) (suc n) h = omega (arith, top_up k n (omega arith))

-- the bytes behind the first of eight leave room for it
pub read_small : (n i : ℕ) (s : List ℕ) (at v : ℕ) → ((k : ℕ) → get_or s k 0 < 256) → 0 < i → i ≤ n → n ≤ 8 → v ≡ le_n (n - i) s (at + i) → v < 2 ^ 56
unfolding top
read_small n i s at v b h k l e = omega (arith, le_n_lt (n - i) s (at + i) b, top_up (n - i) 7 (omega arith))

pub write_one : (n i : ℕ) (s : List ℕ) (at v : ℕ) → i < n → set_n (n - i) s (at + i) v ≡ set_n (n - (i + 1)) (set s (at + i) (v % 256)) (at + (i + 1)) (v / 256)
unfolding set_n
write_one n i s at v h =
    let p : n - i ≡ suc (n - (i + 1)) = omega arith in
    let q : at + i + 1 ≡ at + (i + 1) = omega arith in
    rw p (ap (λ (k : ℕ). set_n (n - (i + 1)) (set s (at + i) (v % 256)) k (v / 256)) q)

pub write_done : (n i : ℕ) (s : List ℕ) (at v : ℕ) → n ≤ i → set_n (n - i) s at v ≡ s
unfolding set_n
write_done n i s at v h = let p : n - i ≡ 0 = omega arith in rw p

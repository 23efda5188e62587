-- Decoding pairs of digits into a buffer. Assumes nothing.
use Prim.Native.Nat.{ℕ, suc, min, ◌+◌, ◌-◌, ◌*◌, ◌≤◌, ◌<◌}
use native.Mathlib.Omega.{arith}
use native.Mathlib.Numerals.{add-one}
use mathlib.Core.Path.{◌≡◌, refl, sym}
use mathlib.Core.Bool.{Bool, true, false}
use mathlib.Core.List.{List, [], ◌∷◌}
use lib.ListN.{length, get_or, set}
use lib.Seq.{sets, set_out}
use lib.Dec.{ltb}
use borrow.Author.Tests.{ltb-true, ltb-false}
use Rattle.std.specs.Option.{unwrap_or}
use Rattle.hex_pairs.specs.HexBytes.{pair}
use Rattle.hex_pairs.specs.HexAnswers.{pairs_at}

-- what has no room is not written
pub sets_out : (xs l : List ℕ) (i : ℕ) → length l ≤ i → sets l i xs ≡ l
sets_out [] l i h = refl
sets_out (x ∷ xs) l i h = rw (set_out l i x h) (sets_out xs l (suc i) (omega arith))

-- the loop of `decode`: what is still to be written, written, is always the same
module _ (l b : List ℕ) (from n : ℕ) where
  module _ (k : ℕ) where
    pub decode_turn : k < n
        → sets (set b k (unwrap_or (pair (get_or l (from + 2 * k) 0) (get_or l (from + 2 * k + 1) 0)) 0)) (k + 1) (pairs_at l (n - (k + 1)) (from + 2 * (k + 1)))
        ≡ sets b k (pairs_at l (n - k) (from + 2 * k))
    unfolding pairs_at
    decode_turn h =
        let p : n - k ≡ suc (n - (k + 1)) = omega arith in
        let q : from + 2 * (k + 1) ≡ from + 2 * k + 2 = omega arith in
        rw (p, q, add-one k)

    decode_done : n ≤ k → b ≡ sets b k (pairs_at l (n - k) (from + 2 * k))
    unfolding pairs_at
    decode_done h =
        let e : n - k ≡ 0 = omega arith in
        rw e

    pub decode_end : min n (length b) ≤ k → b ≡ sets b k (pairs_at l (n - k) (from + 2 * k))
    decode_end h = go (ltb k n) refl
      where
        go : (o : Bool) → ltb k n ≡ o → b ≡ sets b k (pairs_at l (n - k) (from + 2 * k))
        go true e =
            let m = ltb-true k n e in
            sym (sets_out (pairs_at l (n - k) (from + 2 * k)) b k (omega arith))
        go false e = decode_done (ltb-false k n e)

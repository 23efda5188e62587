-- What reading at a cursor gives, one law for each way out. Assumes nothing.
use Prim.Native.Nat.{ℕ, ◌+◌, ◌-◌, ◌≤◌, ◌<◌}
use native.Mathlib.Omega.{arith}
use mathlib.Core.Path.{◌≡◌, refl}
use mathlib.Core.Bool.{Bool, true, false, cond}
use mathlib.Core.List.{List}
use mathlib.Core.Option.{none, some}
use lib.ListN.{length, get_or, take, drop}
use lib.Dec.{ltb}
use borrow.Author.Tests.{lt-ltb, le-ltb, eq-eqb, ne_eqb}
use Rattle.words.specs.Words.{le64}
use Rattle.definitions.specs.Location.{Location}
use Rattle.definitions.specs.Causes.{cut_short}
use Rattle.definitions.specs.BlockStream.{block, nothing, refused, data_length, block_at, read_or_refuse, read_block}

-- wherever the stream is cut, the cause is the same
cut_anywhere : (a b c : Bool) → cond a (some cut_short) (cond b (some cut_short) (cond c (some cut_short) (some cut_short))) ≡ some cut_short
cut_anywhere true b c = refl
cut_anywhere false true c = refl
cut_anywhere false false true = refl
cut_anywhere false false false = refl

module _ (s : List ℕ) (at : ℕ) where
  -- a cursor past the stream's end
  pub past : length s < at → refused 13 ≡ read_block s at
  past h = rw (lt-ltb (length s) at h)

  -- a cursor at the stream's end
  pub at_end : at ≡ length s → nothing ≡ read_block s at
  at_end e =
      let h : at ≤ length s = omega arith in
      rw (le-ltb (length s) at h, eq-eqb at (length s) e)

  module _ (h : at < length s) where
    inside : at ≤ length s
    inside = omega arith

    not_end : at ≡ length s → ⊥
    not_end e = omega arith

    -- a kind that there is not
    pub kind_over : 4 < get_or s at 0 → refused 14 ≡ read_block s at
    kind_over k = rw (le-ltb (length s) at inside, ne_eqb at (length s) not_end, lt-ltb 4 (get_or s at 0) k)

    -- the stream ends inside a field
    pub cut_field : get_or s at 0 ≤ 4 → length s < at + 33 → refused 13 ≡ read_block s at
    cut_field k l =
        rw (
          le-ltb (length s) at inside,
          ne_eqb at (length s) not_end,
          le-ltb 4 (get_or s at 0) k,
          lt-ltb (length s) (at + 33) l,
          cut_anywhere (ltb (length s) (at + 9)) (ltb (length s) (at + 17)) (ltb (length s) (at + 25)),
        )

    module _ (k : get_or s at 0 ≤ 4) (m : at + 33 ≤ length s) where
      -- the five fields are there, so the data decide
      fields : read_block s at ≡ read_or_refuse (cond (ltb (length s) (at + 33 + data_length s at)) (some cut_short) none) s at
      fields =
          let a : at + 9 ≤ length s = omega arith in
          let b : at + 17 ≤ length s = omega arith in
          let c : at + 25 ≤ length s = omega arith in
          rw (
            le-ltb (length s) at inside,
            ne_eqb at (length s) not_end,
            le-ltb 4 (get_or s at 0) k,
            le-ltb (length s) (at + 9) a,
            le-ltb (length s) (at + 17) b,
            le-ltb (length s) (at + 25) c,
            le-ltb (length s) (at + 33) m,
          )

      -- the stream ends inside the data, however long they claim to be
      pub cut_data : length s < at + 33 + data_length s at → refused 13 ≡ read_block s at
      cut_data l = rw (fields, lt-ltb (length s) (at + 33 + data_length s at) l)

      -- the block is all there
      pub whole : at + 33 + data_length s at ≤ length s → block (get_or s at 0) (block_at s at) (at + 33 + data_length s at) ≡ read_block s at
      whole l = rw (fields, le-ltb (length s) (at + 33 + data_length s at) l)

      -- the same, by the numbers that were read
      pub found : (l : Location) (n : ℕ)
          → l.address ≡ le64 s (at + 1) → n ≡ data_length s at → l.created ≡ le64 s (at + 17) → l.destroyed ≡ le64 s (at + 25) → at + 33 + n ≤ length s
          → block (get_or s at 0) (record { bytes = take (at + 33 + n - (at + 33)) (drop (at + 33) s); at = l }) (at + 33 + n) ≡ read_block s at
      found l n p q r t f =
          let z : at + 33 + n - (at + 33) ≡ n = omega arith in
          let e : l ≡ (block_at s at).at = λ i. record { address = p i; created = r i; destroyed = t i } in
          rw (z, e, q) (whole (omega arith))

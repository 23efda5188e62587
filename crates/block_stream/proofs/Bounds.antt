-- A block that was read at a cursor: what the answer's equation says of its kind and of where its data end. Assumes nothing.
use Prim.Native.Nat.{ℕ, ◌+◌, ◌≤◌, ◌<◌}
use Rattle.std.specs.Prelude.{Ok, Some}
use native.Mathlib.Omega.{arith}
use native.Mathlib.Decide.{dec_lt}
use mathlib.Core.Path.{◌≡◌, ap}
use mathlib.Core.List.{List}
use lib.ListN.{length, get_or}
use Rattle.definitions.specs.Blocks.{Block}
use Rattle.definitions.specs.BlockStream.{block, nothing, refused, data_of, data_length, block_at, read_block}
use Rattle.definitions.specs.SpaceKinds.{kind_number}
use Rattle.block_stream.specs.declared.Block.{Block as Found}
use Rattle.block_stream.specs.Answer.{block_of, read_of}
use Rattle.block_stream.proofs.Ways.{past, at_end, kind_over, cut_field, cut_data, whole}

-- its kind is one that there is, its end lies behind its fields and within the stream, and it is the definition's block
pub record BlockRead (s : List ℕ) (at kind : ℕ) (b : Block) (next : ℕ) : Type 0 where
  pub known : kind ≤ 4
  pub behind : at + 33 ≤ next
  pub within : next ≤ length s
  pub is : b ≡ block_at s at

-- reading gave the block
pub block_read : (s : List ℕ) (at kind : ℕ) (b : Block) (next : ℕ) → block kind b next ≡ read_block s at → BlockRead s at kind b next
block_read s at kind b next e = go_past (dec_lt (length s) at)
  where
    end : ℕ
    end = at + 33 + data_length s at

    no_refusal : (n : ℕ) → refused n ≡ read_block s at → ⊥
    no_refusal n f = let z : ◌≡◌ {A = ℕ} 0 1 = cc in omega arith

    no_end : nothing ≡ read_block s at → ⊥
    no_end f = let z : ◌≡◌ {A = ℕ} 0 1 = cc in omega arith

    all_there : get_or s at 0 ≤ 4 → end ≤ length s → block (get_or s at 0) (block_at s at) end ≡ read_block s at → BlockRead s at kind b next
    all_there k l f =
        let p : kind ≡ get_or s at 0 = cc in
        let q : next ≡ end = cc in
        record { known = omega arith; behind = omega arith; within = omega arith; is = cc }

    go_data : at < length s → get_or s at 0 ≤ 4 → at + 33 ≤ length s → Dec (length s < end) → BlockRead s at kind b next
    go_data h k m (yes l) = absurd (no_refusal 13 (cut_data s at h k m l))
    go_data h k m (no l) = all_there k (omega arith) (whole s at h k m (omega arith))

    go_fields : at < length s → get_or s at 0 ≤ 4 → Dec (length s < at + 33) → BlockRead s at kind b next
    go_fields h k (yes l) = absurd (no_refusal 13 (cut_field s at h k l))
    go_fields h k (no l) = go_data h k (omega arith) (dec_lt (length s) end)

    go_kind : at < length s → Dec (4 < get_or s at 0) → BlockRead s at kind b next
    go_kind h (yes k) = absurd (no_refusal 14 (kind_over s at h k))
    go_kind h (no k) = go_fields h (omega arith) (dec_lt (length s) (at + 33))

    go_end : at ≤ length s → Dec (at < length s) → BlockRead s at kind b next
    go_end h (yes l) = go_kind l (dec_lt 4 (get_or s at 0))
    go_end h (no l) = absurd (no_end (at_end s at (omega arith)))

    go_past : Dec (length s < at) → BlockRead s at kind b next
    go_past (yes h) = absurd (no_refusal 13 (past s at h))
    go_past (no h) = go_end (omega arith) (dec_lt at (length s))

-- where the data of a block stand, and that they are those of the definition
pub record Part (s : List ℕ) (at : ℕ) (b : Found) : Type 0 where
  pub behind : at + 33 ≤ b.next
  pub within : b.next ≤ length s
  pub bytes : b.data.now ≡ data_of (read_block s at)

-- a block that was read has its data within the stream
pub block_part : (s : List ℕ) (at : ℕ) (b : Found) → read_of (Ok (Some b)) ≡ read_block s at → Part s at b
block_part s at b m =
    let k = block_read s at (kind_number b.kind) (block_of b) b.next m in
    record { behind = k.behind; within = k.within; bytes = ap data_of m }

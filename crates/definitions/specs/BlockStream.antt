-- Document 01, "Stream": kind 1, address 8, length 8, created 8, destroyed 8, then the data. Assumes nothing.
use Rattle.std.specs.Prelude.{ℕ, ◌+◌, cond, List, [], ◌∷◌, length, get_or, take, drop, ltb, eqb}
use Rattle.std.proofs.Math.Option.{Option, none, some}
use Rattle.words.specs.Words.{le64}
use Rattle.definitions.specs.Blocks.{Block, last_kind}
use Rattle.definitions.specs.Causes.{Cause, number, cut_short, unknown_kind, Check, first_cause}

-- what reading at a cursor gives: a block, its kind and the cursor behind it; none at the stream's end; or a refusal's number
pub data Read : Type 0 where
  block : (kind : ℕ) → Block → (next : ℕ) → Read
  nothing : Read
  refused : ℕ → Read

-- the data of the block that was read, none where none was
abbrev pub data_of : Read → List ℕ
data_of (block kind b next) = b.bytes
data_of nothing = []
data_of (refused n) = []

-- the length field of the block at a cursor
abbrev pub data_length : List ℕ → ℕ → ℕ
data_length s at = le64 s (at + 9)

-- the stream ends before this place
abbrev pub ends_before : List ℕ → ℕ → Check
ends_before s end = record { applies = ltb (length s) end; cause = cut_short }

-- the fields in layout order: the first faulty one decides
abbrev pub read_block_checks : List ℕ → ℕ → List Check
read_block_checks s at =
    record { applies = ltb last_kind (get_or s at 0); cause = unknown_kind } ∷
    ends_before s (at + 9) ∷
    ends_before s (at + 17) ∷
    ends_before s (at + 25) ∷
    ends_before s (at + 33) ∷
    ends_before s (at + 33 + data_length s at) ∷ []

abbrev pub block_at : List ℕ → ℕ → Block
block_at s at = record {
  bytes = take (data_length s at) (drop (at + 33) s);
  at = record { address = le64 s (at + 1); created = le64 s (at + 17); destroyed = le64 s (at + 25) };
}

abbrev pub read_or_refuse : Option Cause → List ℕ → ℕ → Read
read_or_refuse none s at = block (get_or s at 0) (block_at s at) (at + 33 + data_length s at)
read_or_refuse (some c) s at = refused (number c)

-- a cursor at the stream's end gives none, one past it 13
abbrev pub read_block : List ℕ → ℕ → Read
read_block s at =
    cond (ltb (length s) at) (refused (number cut_short))
    (cond (eqb at (length s)) nothing (read_or_refuse (first_cause (read_block_checks s at)) s at))

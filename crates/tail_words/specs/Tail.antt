-- Tails in memory: records of seven numbers, 56 bytes each, one after the other from byte `work` on. Assumes nothing.
use Rattle.std.specs.Prelude.{ℕ, zero, suc, ◌+◌, ◌-◌, ◌*◌, ◌/◌, ◌%◌, ◌^◌, ◌≤◌, ◌<◌, ◌≡◌, List, [], ◌∷◌, ◌++◌, length, get_or, take, eqb}
use Rattle.records.specs.Records.{record_at, records}
use Rattle.location.specs.Fits.{Fits}
use Rattle.tails.specs.Tails.{Tail, tail_record}

-- ── a record as a tail ──

-- the lowest n bytes of a number, highest first
unfoldable pub high_bytes : ℕ → ℕ → List ℕ
high_bytes zero v = []
high_bytes (suc n) v = high_bytes n (v / 256) ++ (v % 256 ∷ [])

-- the 16 bytes of a record
abbrev pub sixteen : List ℕ → List ℕ
sixteen r = high_bytes 8 (get_or r 0 0) ++ high_bytes 8 (get_or r 1 0)

-- the inverse of tail_record
unfoldable pub tail_of_record : List ℕ → Tail
tail_of_record r = record {
  entry = record {
    path = take (get_or r 2 0 / 2) (sixteen r);
    at = record { address = get_or r 3 0; created = get_or r 4 0; destroyed = get_or r 5 0 };
    whole = eqb (get_or r 2 0 % 2) 1;
  };
  arrival = get_or r 6 0;
}

abbrev pub tails_of : List (List ℕ) → List Tail
tails_of [] = []
tails_of (r ∷ rs) = tail_of_record r ∷ tails_of rs

-- ── tails in memory ──

-- the record number i
abbrev pub record_in : List ℕ → ℕ → ℕ → List ℕ
record_in s work i = record_at 7 s (work + 56 * i)

-- the tail number i
abbrev pub tail_in : List ℕ → ℕ → ℕ → Tail
tail_in s work i = tail_of_record (record_in s work i)

-- the tails number lo to hi - 1
unfoldable pub tails_in : List ℕ → ℕ → ℕ → ℕ → List Tail
tails_in s work lo hi = tails_of (records 7 (hi - lo) s (work + 56 * lo))

-- ── what a record can hold ──

pub record ValidTail (t : Tail) : Type 0 where
  pub short : length t.entry.path ≤ 16
  pub bytes : (k : ℕ) → get_or t.entry.path k 0 < 256
  pub location : Fits t.entry.at
  pub arrival : t.arrival < 2 ^ 64

-- the record of a tail: what its 16 bytes have behind the path is zero
pub record ValidRecord (r : List ℕ) : Type 0 where
  pub tail : ValidTail (tail_of_record r)
  pub same : r ≡ tail_record (tail_of_record r)

-- the records number lo to hi - 1 are those of tails
pub record Held (s : List ℕ) (work lo hi : ℕ) : Type 0 where
  pub each : (i : ℕ) → lo ≤ i → i < hi → ValidRecord (record_in s work i)

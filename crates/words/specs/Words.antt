-- Numbers in a list of bytes, lowest byte first. `le_n n xs at` is the number of the n bytes from index `at`, `set_n n xs at v` is xs with v's lowest n bytes there, and `bytes_n n v` is those bytes.
use Rattle.std.specs.Prelude.{ℕ, zero, suc, ◌+◌, ◌*◌, ◌/◌, ◌%◌, List, [], ◌∷◌, get_or, set}

unfoldable pub le_n : ℕ → List ℕ → ℕ → ℕ
le_n zero xs at = 0
le_n (suc n) xs at = get_or xs at 0 + 256 * le_n n xs (at + 1)

unfoldable pub set_n : ℕ → List ℕ → ℕ → ℕ → List ℕ
set_n zero xs at v = xs
set_n (suc n) xs at v = set_n n (set xs at (v % 256)) (at + 1) (v / 256)

unfoldable pub bytes_n : ℕ → ℕ → List ℕ
bytes_n zero v = []
bytes_n (suc n) v = v % 256 ∷ bytes_n n (v / 256)

-- the eight bytes from index `at` as a number
unfoldable pub le64 : List ℕ → ℕ → ℕ
unfolding le_n
le64 xs at = le_n 8 xs at

-- xs with the number v in the eight bytes from index `at`
unfoldable pub set_le64 : List ℕ → ℕ → ℕ → List ℕ
unfolding set_n
set_le64 xs at v = set_n 8 xs at v

-- the eight bytes of the number v
unfoldable pub bytes64 : ℕ → List ℕ
unfolding bytes_n
bytes64 v = bytes_n 8 v

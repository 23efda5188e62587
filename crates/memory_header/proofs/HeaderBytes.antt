-- A header in bytes: it takes 64, and what is written is read back. Assumes nothing.
use Prim.Native.Nat.{ℕ, ◌+◌, ◌*◌, ◌^◌, ◌≤◌, ◌<◌}
use native.Mathlib.Omega.{arith}
use mathlib.Core.Path.{◌≡◌, sym, ap, ◌∙◌}
use mathlib.Core.List.{List, [], ◌∷◌, append-nil}
use lib.ListN.{length, get_or}
use lib.Seq.{sets}
use Rattle.words.specs.Words.{le64, set_le64, bytes64}
use Rattle.words.proofs.Parts.{set_le64_sets, bytes64_le64, sets_same}
use Rattle.memory_header.specs.Layout.{Header, header_at, header_bytes, with_header}
use Rattle.memory_header.proofs.Numbers.{numbers, length_numbers, numbers_sets, number_written}

-- the numbers of a header
abbrev header_numbers : Header → List ℕ
header_numbers h = h.capacity.nodes ∷ h.capacity.entries ∷ h.phase ∷ h.nodes ∷ h.entries ∷ h.payload ∷ 0 ∷ 0 ∷ []

-- what 64 bytes can hold
pub record HeaderFits (h : Header) : Type 0 where
  pub node_room : h.capacity.nodes < 2 ^ 64
  pub entry_room : h.capacity.entries < 2 ^ 64
  pub phase : h.phase < 2 ^ 64
  pub nodes : h.nodes < 2 ^ 64
  pub entries : h.entries < 2 ^ 64
  pub payload : h.payload < 2 ^ 64

module _ (h : Header) where
  is_numbers : header_bytes h ≡ numbers (header_numbers h)
  unfolding header_bytes numbers
  is_numbers = rw (append-nil (bytes64 0))

  pub length_header : length (header_bytes h) ≡ 64
  length_header = ap length is_numbers ∙ length_numbers (header_numbers h)

  -- the eight numbers written one after the other
  pub put_in_turn : (m₀ m₁ m₂ m₃ m₄ m₅ m₆ m₇ m₈ : List ℕ)
      → m₁ ≡ set_le64 m₀ 0 h.capacity.nodes → m₂ ≡ set_le64 m₁ 8 h.capacity.entries → m₃ ≡ set_le64 m₂ 16 h.phase
      → m₄ ≡ set_le64 m₃ 24 h.nodes → m₅ ≡ set_le64 m₄ 32 h.entries → m₆ ≡ set_le64 m₅ 40 h.payload
      → m₇ ≡ set_le64 m₆ 48 0 → m₈ ≡ set_le64 m₇ 56 0 → m₈ ≡ with_header m₀ h
  unfolding numbers
  put_in_turn m₀ m₁ m₂ m₃ m₄ m₅ m₆ m₇ m₈ e₁ e₂ e₃ e₄ e₅ e₆ e₇ e₈ =
      rw (
        is_numbers,
        numbers_sets h.capacity.nodes (h.capacity.entries ∷ h.phase ∷ h.nodes ∷ h.entries ∷ h.payload ∷ 0 ∷ 0 ∷ []) m₀ 0,
        ← e₁,
        numbers_sets h.capacity.entries (h.phase ∷ h.nodes ∷ h.entries ∷ h.payload ∷ 0 ∷ 0 ∷ []) m₁ 8,
        ← e₂,
        numbers_sets h.phase (h.nodes ∷ h.entries ∷ h.payload ∷ 0 ∷ 0 ∷ []) m₂ 16,
        ← e₃,
        numbers_sets h.nodes (h.entries ∷ h.payload ∷ 0 ∷ 0 ∷ []) m₃ 24,
        ← e₄,
        numbers_sets h.entries (h.payload ∷ 0 ∷ 0 ∷ []) m₄ 32,
        ← e₅,
        numbers_sets h.payload (0 ∷ 0 ∷ []) m₅ 40,
        ← e₆,
        numbers_sets 0 (0 ∷ []) m₆ 48,
        ← e₇,
        numbers_sets 0 [] m₇ 56,
      )
      e₈

  module _ (m : List ℕ) (l : 64 ≤ length m) where
    -- number k is read back
    at_number : (k : ℕ) → k < 8 → get_or (header_numbers h) k 0 < 2 ^ 64 → le64 (with_header m h) (0 + 8 * k) ≡ get_or (header_numbers h) k 0
    at_number k b s =
        rw is_numbers (number_written (header_numbers h) m 0 k b s l)

    -- and so is the header
    pub header_written : HeaderFits h → header_at (with_header m h) ≡ h
    header_written f =
        let a = at_number 0 (omega arith) f.node_room in
        let b = at_number 1 (omega arith) f.entry_room in
        let c = at_number 2 (omega arith) f.phase in
        let d = at_number 3 (omega arith) f.nodes in
        let e = at_number 4 (omega arith) f.entries in
        let g = at_number 5 (omega arith) f.payload in
        λ i. record { capacity = record { nodes = a i; entries = b i }; phase = c i; nodes = d i; entries = e i; payload = g i }

    pub first_zero : le64 (with_header m h) 48 ≡ 0
    first_zero = at_number 6 (omega arith) (omega arith)

    pub second_zero : le64 (with_header m h) 56 ≡ 0
    second_zero = at_number 7 (omega arith) (omega arith)

-- a header that is written where it stands changes nothing in a memory of bytes
pub header_same : (m : List ℕ) → ((k : ℕ) → get_or m k 0 < 256) → 64 ≤ length m → le64 m 48 ≡ 0 → le64 m 56 ≡ 0 → with_header m (header_at m) ≡ m
header_same m b l z₆ z₇ =
    let same : (p : ℕ) → p + 8 ≤ 64 → m ≡ set_le64 m p (le64 m p) = λ p h.
    sym (set_le64_sets m p (le64 m p) ∙ ap (sets m p) (sym (bytes64_le64 m p b (omega arith))) ∙ sets_same 8 m p (omega arith)) in
    sym
    (put_in_turn (header_at m) m m m m m m m m m (same 0 (omega arith)) (same 8 (omega arith)) (same 16 (omega arith)) (same 24 (omega arith))
    (same 32 (omega arith)) (same 40 (omega arith)) (same 48 (omega arith) ∙ rw z₆) (same 56 (omega arith) ∙ rw z₇))

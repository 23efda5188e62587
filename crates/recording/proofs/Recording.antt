-- The pieces of a block as they are written. Assumes nothing.
use Prim.Native.Nat.{ℕ, suc, ◌+◌, ◌-◌, ◌*◌, ◌≤◌, ◌<◌, min}
use native.Mathlib.Omega.{arith}
use mathlib.Core.Path.{◌≡◌, refl, sym, ap, ◌∙◌}
use mathlib.Core.Logic.{◌⊎◌, inl, inr}
use mathlib.Core.List.{List}
use lib.ListN.{length, take, drop, replicate, length-take, length-drop}
use lib.Seq.{sets, length-sets, take-length, take_all}
use Rattle.std.proofs.lemmas.Bool.{cases_lt}
use Rattle.words.specs.Words.{set_le64}
use Rattle.definitions.specs.Location.{location_bytes}
use Rattle.definitions.specs.Blocks.{Block, Piece, pieces}
use Rattle.index_memory.specs.Log.{piece_bytes, log_bytes}
use Rattle.judging.specs.Judged.{piece_count}
use Rattle.recording.specs.Cut.{part, parts}
use Rattle.recording.proofs.Cut.{pieces_parts}
use Rattle.index_memory.proofs.PieceBytes.{piece_parts}
use Rattle.index_memory.proofs.LogBytes.{log_sets}

-- a piece is written in four parts
pub put_in_turn : (m₀ m₁ m₂ m₃ m₄ : List ℕ) (at : ℕ) (p : Piece) → length p.bytes ≤ 16
    → m₁ ≡ set_le64 m₀ at (length p.bytes) → m₂ ≡ sets m₁ (at + 8) (take (length p.bytes) (drop 0 p.bytes))
    → m₃ ≡ sets m₂ (at + 8 + length p.bytes) (replicate (at + 24 - (at + 8 + length p.bytes)) 0)
    → m₄ ≡ sets m₃ (at + 24) (location_bytes p.at) → m₄ ≡ sets m₀ at (piece_bytes p)
put_in_turn m₀ m₁ m₂ m₃ m₄ at p h e₁ e₂ e₃ e₄ =
    let n : ℕ = length p.bytes in
    let s : at + 24 - (at + 8 + n) ≡ 16 - n = omega arith in
    e₄ ∙ rw (e₃, s, e₂, take-length p.bytes, e₁) (piece_parts m₀ at p h)

-- the bytes of a piece, up to where it ends
pub part_bytes : (xs : List ℕ) (start end : ℕ) → start ≤ length xs → end ≡ start + min 16 (length xs - start)
    → take (end - start) (drop start xs) ≡ take 16 (drop start xs)
part_bytes xs start end h e = go (cases_lt (length xs - start) 16)
  where
    go : (length xs - start < 16) ⊎ (16 ≤ length xs - start) → take (end - start) (drop start xs) ≡ take 16 (drop start xs)
    go (inl k) =
        let n : length (drop start xs) ≡ length xs - start = length-drop start xs in
        take_all (end - start) (drop start xs) (omega arith) ∙ sym (take_all 16 (drop start xs) (omega arith))
    go (inr k) =
        let n : end - start ≡ 16 = omega arith in
        rw n

-- what is left to be written behind what is done, written, is always the same
pub record Writing (b : Block) (from : ℕ) (m₀ m : List ℕ) (done left : ℕ) : Type 0 where
  pub count : done + left ≡ piece_count (length b.bytes)
  pub room : from + 48 * (done + left) ≤ length m
  pub long : length m ≡ length m₀
  pub same : sets m (from + 48 * done) (log_bytes (parts b left)) ≡ sets m₀ from (log_bytes (pieces b))

module _ (b : Block) (from : ℕ) (m₀ : List ℕ) where
  pub writing_start : (n : ℕ) → n ≡ piece_count (length b.bytes) → from + 48 * piece_count (length b.bytes) ≤ length m₀ → Writing b from m₀ m₀ 0 n
  writing_start n e h =
      let s : from + 48 * 0 ≡ from = omega arith in
      record { count = omega arith; room = omega arith; long = refl; same = rw (s, e, pieces_parts b) refl }

  pub writing_turn : {m : List ℕ} {done left : ℕ} → Writing b from m₀ m done left → 0 < left
      → (m' : List ℕ) → m' ≡ sets m (from + 48 * done) (piece_bytes (part b (16 * (left - 1)))) → Writing b from m₀ m' (done + 1) (left - 1)
  unfolding parts
  writing_turn {m} {done} {left} w l m' e =
      let s : left ≡ suc (left - 1) = omega arith in
      let at : ℕ = from + 48 * done in
      let next : from + 48 * (done + 1) ≡ at + 48 = omega arith in
      let p : Piece = part b (16 * (left - 1)) in
      let small : length p.bytes ≤ 16 = omega (arith, length-take 16 (drop (16 * (left - 1)) b.bytes)) in
      let long : length m' ≡ length m = ap length e ∙ length-sets m at (piece_bytes p) in
      let t : sets m at (log_bytes (parts b (suc (left - 1)))) ≡ sets (sets m at (piece_bytes p)) (at + 48) (log_bytes (parts b (left - 1))) =
      log_sets p (parts b (left - 1)) m at small in
      record {
        count = omega (arith, w.count);
        room = omega (arith, w.room);
        long = long ∙ w.long;
        same = rw (next, e) (sym t ∙ sym (ap (λ (k : ℕ). sets m at (log_bytes (parts b k))) s) ∙ w.same);
      }

  pub writing_end : {m : List ℕ} {done left : ℕ} → Writing b from m₀ m done left → left ≤ 0 → m ≡ sets m₀ from (log_bytes (pieces b))
  unfolding parts log_bytes
  writing_end {m} {done} {left} w l =
      let s : left ≡ 0 = omega arith in
      sym (ap (λ (k : ℕ). sets m (from + 48 * done) (log_bytes (parts b k))) s) ∙ w.same

-- Pieces of a log that have a byte, counted one after the other. Assumes nothing.
use Prim.Native.Nat.{ℕ, suc, ◌+◌, ◌*◌, ◌≤◌, ◌<◌}
use native.Mathlib.Omega.{arith}
use mathlib.Core.Path.{◌≡◌, refl, sym, ap, ◌∙◌}
use mathlib.Core.Bool.{Bool, true, false, cond}
use mathlib.Core.List.{List, [], ◌∷◌, ◌++◌}
use lib.ListN.{length}
use lib.Dec.{eqb}
use Rattle.words.specs.Words.{le64}
use Rattle.definitions.specs.Blocks.{Piece}
use Rattle.conflicts.specs.Order.{nothing, nth}
use Rattle.conflicts.specs.Promises.{filled}
use Rattle.conflicts.proofs.Numbers.{at_member}
use Rattle.index_memory.specs.Log.{piece_in, log_in, log_sound}
use Rattle.index_memory.proofs.LogBytes.{log_sound_is, length_log_in, log_append, piece_length, piece_small}
use Rattle.certificate.specs.Entries.{LogWithin}
use Rattle.certificate.proofs.Bytes.{log_nth}

-- no more have a byte than there are
pub filled_upto : (ps : List Piece) → filled ps ≤ length ps
unfolding filled
filled_upto [] = omega arith
filled_upto (p ∷ ps) = go (eqb (length p.bytes) 0) (filled_upto ps)
  where
    go : (o : Bool) → filled ps ≤ length ps → cond o (filled ps) (suc (filled ps)) ≤ suc (length ps)
    go true h = omega arith
    go false h = omega arith

pub filled_append : (ps rs : List Piece) → filled (ps ++ rs) ≡ filled ps + filled rs
unfolding filled
filled_append [] rs = omega arith
filled_append (q ∷ ps) rs = go (eqb (length q.bytes) 0) (filled_append ps rs)
  where
    go : (o : Bool) → filled (ps ++ rs) ≡ filled ps + filled rs → cond o (filled (ps ++ rs)) (suc (filled (ps ++ rs))) ≡ cond o (filled ps) (suc (filled ps)) + filled rs
    go true e = e
    go false e = omega arith

-- one more
filled_snoc : (ps : List Piece) (p : Piece) → filled (ps ++ (p ∷ [])) ≡ filled ps + cond (eqb (length p.bytes) 0) 0 1
unfolding filled
filled_snoc ps p = filled_append ps (p ∷ [])

module _ (m : List ℕ) (pieces : ℕ) (w : LogWithin m pieces) (s : log_sound m pieces 64 ≡ true) where
  pub filled_start : 0 ≡ filled (log_in m 0 64)
  unfolding filled log_in
  filled_start = refl

  log_next : (k : ℕ) → log_in m (k + 1) 64 ≡ log_in m k 64 ++ (piece_in m (64 + 48 * k) ∷ [])
  unfolding log_in
  log_next k = log_append m k 1 64

  -- the length that stands before a piece of the log is at most 16, and its own
  pub size_small : (k : ℕ) → k < pieces → le64 m (64 + 48 * k) ≤ 16
  size_small k l =
      let e : length (nth (log_in m pieces 64) k).bytes ≡ length (piece_in m (64 + 48 * k)).bytes = ap (λ (p : Piece). length p.bytes) (log_nth m pieces 64 k l) in
      let t = log_sound_is m pieces 64 w.0 s (nth (log_in m pieces 64) k) (at_member (log_in m pieces 64) nothing k (omega (arith, length_log_in m pieces 64))) in
      piece_small m (64 + 48 * k) (omega (arith, w.0)) (omega (arith, e, t.small))

  long : (k : ℕ) → k < pieces → length (piece_in m (64 + 48 * k)).bytes ≡ le64 m (64 + 48 * k)
  long k l = piece_length m (64 + 48 * k) (omega (arith, w.0)) (size_small k l)

  pub filled_next : (k count x : ℕ) → k < pieces → count ≡ filled (log_in m k 64) → x ≡ cond (eqb (le64 m (64 + 48 * k)) 0) 0 1 → count + x ≡ filled (log_in m (k + 1) 64)
  filled_next k count x l c e =
      let i : eqb (length (piece_in m (64 + 48 * k)).bytes) 0 ≡ eqb (le64 m (64 + 48 * k)) 0 = ap (λ (n : ℕ). eqb n 0) (long k l) in
      (λ j. c j + e j) ∙ ap (λ (o : Bool). filled (log_in m k 64) + cond o 0 1) (sym i) ∙ sym (filled_snoc (log_in m k 64) (piece_in m (64 + 48 * k))) ∙ ap filled (sym (log_next k))

  pub filled_few : (k : ℕ) → filled (log_in m k 64) ≤ k
  filled_few k = omega (arith, filled_upto (log_in m k 64), length_log_in m k 64)

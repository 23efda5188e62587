-- The bytes of entries in memory, number by number, and the pieces of a log by number. Assumes nothing.
use Prim.Native.Nat.{ℕ, zero, suc, ◌+◌, ◌*◌, ◌<◌}
use native.Mathlib.Omega.{arith}
use mathlib.Core.Path.{◌≡◌, ap, ◌∙◌, subst}
use mathlib.Core.List.{List, [], ◌∷◌, ◌++◌}
use lib.ListN.{length, length-append}
use Rattle.words.specs.Words.{bytes64}
use Rattle.words.specs.Holding.{Holds}
use Rattle.words.proofs.Holding.{holds_at, holds_left, holds_right, holds_append}
use Rattle.words.proofs.Parts.{length_bytes64}
use Rattle.definitions.specs.Blocks.{Piece}
use Rattle.conflicts.specs.Order.{Entry, ordered, reach_at, entries_bytes, certificate, nth, entry}
use Rattle.conflicts.specs.Promises.{filled, own_bytes}
use Rattle.conflicts.proofs.Order.{ordered_count}
use Rattle.index_memory.specs.Log.{piece_in, log_in}

-- piece k of a log
pub log_nth : (m : List ℕ) (n p k : ℕ) → k < n → nth (log_in m n p) k ≡ piece_in m (p + 48 * k)
unfolding log_in
log_nth m zero p k h = absurd (omega arith)
log_nth m (suc n) p zero h = let z : p ≡ p + 48 * 0 = omega arith in ap (piece_in m) z
log_nth m (suc n) p (suc k) h =
    let z : p + 48 + 48 * k ≡ p + 48 * suc k = omega arith in
    log_nth m n (p + 48) k (omega arith) ∙ ap (piece_in m) z

-- entry i of those that stand from index `at` on
pub record EntryHeld (m : List ℕ) (at : ℕ) (e : Entry) : Type 0 where
  pub number : Holds m at (bytes64 e.number)
  pub end : Holds m (at + 8) (bytes64 e.piece.at.destroyed)

pub entry_held : (m : List ℕ) (at : ℕ) (es : List Entry) (i : ℕ) → i < length es → Holds m at (own_bytes es) → EntryHeld m (at + 16 * i) (entry es i)
unfolding own_bytes
entry_held m at [] i h k = absurd (omega arith)
entry_held m at (e ∷ es) zero h k =
    let z : at ≡ at + 16 * 0 = omega arith in
    let l : Holds m (at + 8) (bytes64 e.piece.at.destroyed ++ own_bytes es) = holds_right m at 8 (bytes64 e.number) (bytes64 e.piece.at.destroyed ++ own_bytes es) (length_bytes64 e.number) k in
    subst (λ (a : ℕ). EntryHeld m a e) z (record {
      number = holds_left m at (bytes64 e.number) (bytes64 e.piece.at.destroyed ++ own_bytes es) k;
      end = holds_left m (at + 8) (bytes64 e.piece.at.destroyed) (own_bytes es) l;
    })
entry_held m at (e ∷ es) (suc i) h k =
    let z : at + 16 + 16 * i ≡ at + 16 * suc i = omega arith in
    subst (λ (a : ℕ). EntryHeld m a (entry es i)) z (entry_held m (at + 16) es i (omega arith) (rest m at e es k))
  where
    rest : (m : List ℕ) (at : ℕ) (e : Entry) (es : List Entry) → Holds m at (bytes64 e.number ++ (bytes64 e.piece.at.destroyed ++ own_bytes es)) → Holds m (at + 16) (own_bytes es)
    rest m at e es k =
        let l : Holds m (at + 8) (bytes64 e.piece.at.destroyed ++ own_bytes es) = holds_right m at 8 (bytes64 e.number) (bytes64 e.piece.at.destroyed ++ own_bytes es) (length_bytes64 e.number) k in
        holds_at m (at + 8 + 8) (at + 16) (own_bytes es) (omega arith) (holds_right m (at + 8) 8 (bytes64 e.piece.at.destroyed) (own_bytes es) (length_bytes64 e.piece.at.destroyed) l)

-- and the other way
pub entries_held : (m : List ℕ) (at : ℕ) (es : List Entry) → ((i : ℕ) → i < length es → EntryHeld m (at + 16 * i) (entry es i)) → Holds m at (own_bytes es)
unfolding own_bytes Holds
entries_held m at [] f = tt
entries_held m at (e ∷ es) f =
    let z : at + 16 * 0 ≡ at = omega arith in
    let x : EntryHeld m at e = subst (λ (a : ℕ). EntryHeld m a e) z (f 0 (omega arith)) in
    let r : Holds m (at + 16) (own_bytes es) = entries_held m (at + 16) es (λ i l. let n : at + 16 * suc i ≡ at + 16 + 16 * i = omega arith in subst (λ (a : ℕ). EntryHeld m a (entry es i)) n (f (suc i) (omega arith))) in
    let s : Holds m (at + 8 + 8) (own_bytes es) = holds_at m (at + 16) (at + 8 + 8) (own_bytes es) (omega arith) r in
    holds_append m at 8 (bytes64 e.number) (bytes64 e.piece.at.destroyed ++ own_bytes es) (length_bytes64 e.number) x.number
    (holds_append m (at + 8) 8 (bytes64 e.piece.at.destroyed) (own_bytes es) (length_bytes64 e.piece.at.destroyed) x.end s)

-- ---- the whole certificate

length_entries : (a reach : ℕ) (es : List Entry) → length (entries_bytes a reach es) ≡ 16 * length es
unfolding entries_bytes
length_entries a reach [] = omega arith
length_entries a reach (e ∷ es) =
    let r : ℕ = reach_at a reach e.piece.at in
    let rest : List ℕ = entries_bytes e.piece.at.address r es in
    omega (arith, length-append (bytes64 e.number) (bytes64 r ++ rest), length-append (bytes64 r) rest, length_bytes64 e.number, length_bytes64 r, length_entries e.piece.at.address r es)

pub length_certificate : (ps : List Piece) → length (certificate ps) ≡ 16 * filled ps
length_certificate ps = length_entries 0 0 (ordered ps) ∙ ap (λ (n : ℕ). 16 * n) (ordered_count ps)

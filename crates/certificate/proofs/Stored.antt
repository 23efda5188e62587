-- The entries of a stored certificate are the order of the pieces, in line. Assumes nothing.
use Rattle.lined_locations.specs.declared.LineKind.TheVariants.{Logged}
use Prim.Native.Nat.{ℕ, ◌+◌, ◌*◌, ◌≤◌, ◌<◌}
use native.Mathlib.Omega.{arith}
use mathlib.Core.Path.{◌≡◌, sym, ap, ◌∙◌, subst}
use mathlib.Core.List.{List}
use lib.ListN.{length, get_or}
use Rattle.words.specs.Words.{le64}
use Rattle.words.specs.Holding.{Holds}
use Rattle.words.proofs.Holding.{holds_le}
use Rattle.words.proofs.Laws.{le64_lt}
use Rattle.definitions.specs.Location.{Location}
use Rattle.definitions.specs.Blocks.{Piece}
use Rattle.definitions.specs.Runs.{Alive}
use Rattle.definitions.specs.Calls.{last_number}
use Rattle.memory_header.specs.Layout.{Header, work_at}
use Rattle.conflicts.specs.Lined.{Lined, Ahead}
use Rattle.conflicts.specs.Order.{Entry, ordered, certificate, nothing, nth, entry}
use Rattle.conflicts.specs.Promises.{Entered, own_bytes}
use Rattle.conflicts.proofs.Numbers.{at_member}
use Rattle.conflicts.proofs.Order.{ordered_count, ordered_entered}
use Rattle.conflicts.proofs.OrderFree.{ordered_lined}
use Rattle.conflicts.proofs.OwnEnds.{own_ends}
use Rattle.lined_locations.specs.Places.{number_at, Within}
use Rattle.index_memory.specs.Log.{piece_in}
use Rattle.index_memory.proofs.LogBytes.{AllSound, PieceSound, log_sound_is, length_log_in, piece_length, piece_small}
use Rattle.certificate.specs.Entries.{piece_at, entry_at, entry_end}
use Rattle.certificate.specs.Stored.{pieces_in, Stored}
use Rattle.certificate.proofs.Bytes.{log_nth, EntryHeld, entry_held}

module _ (m : List ℕ) (b : (k : ℕ) → get_or m k 0 < 256) (h : Header) (count : ℕ) (s : Stored m h count) where
  abbrev ps : List Piece
  ps = pieces_in m h

  abbrev es : List Entry
  es = ordered ps

  pub all_sound : AllSound (pieces_in m h)
  all_sound = log_sound_is m h.payload 64 (omega (arith, s.log_room, s.room)) s.sound

  alive : Alive ps
  alive q k = (all_sound q k).alive

  pub stored_count : count ≡ length (ordered (pieces_in m h))
  stored_count = s.counted ∙ sym (ordered_count ps)

  pub in_line : Lined (length (ordered (pieces_in m h))) (λ i. (entry (ordered (pieces_in m h)) i).piece.at)
  in_line = ordered_lined ps alive s.apart

  -- the certificate begins at index `base`
  module _ (base : ℕ) (p : base ≡ work_at h.capacity) where
    abbrev at : ℕ → Location
    at = entry_at m base

    held : Holds m base (own_bytes es)
    held = subst (Holds m base) (own_ends es in_line) (subst (λ (k : ℕ). Holds m k (certificate (pieces_in m h))) (sym p) s.certified)

    module _ (i : ℕ) (l : i < count) where
      entered : Entered ps (entry es i)
      entered = ordered_entered ps i (omega (arith, stored_count))

      -- its number is that of a piece in the log
      inside : (entry es i).number < h.payload
      inside = omega (arith, entered.inside, length_log_in m h.payload 64)

      both : EntryHeld m (base + 16 * i) (entry es i)
      both = entry_held m base es i (omega (arith, stored_count)) held

      pub stored_number : number_at m base i ≡ (entry (ordered (pieces_in m h)) i).number
      stored_number = sym (holds_le m (base + 16 * i) (entry es i).number (omega (arith, inside, s.log_room, s.some_nodes, s.some_entries)) both.number)

      pub number_inside : number_at m base i < h.payload
      number_inside = omega (arith, stored_number, inside)

      -- where the piece stands
      piece : piece_in m (piece_at m base i) ≡ (entry es i).piece
      piece =
          let e : piece_at m base i ≡ 64 + 48 * (entry es i).number = omega (arith, stored_number) in
          ap (piece_in m) e ∙ sym (log_nth m h.payload 64 (entry es i).number inside) ∙ entered.piece

      pub stored_location : entry_at m base i ≡ (entry (ordered (pieces_in m h)) i).piece.at
      stored_location = ap (λ (q : Piece). q.at) piece

      sound : PieceSound (entry es i).piece
      sound = subst PieceSound entered.piece (all_sound (nth ps (entry es i).number) (at_member ps nothing (entry es i).number entered.inside))

      pub stored_length : le64 m (piece_at m base i) ≡ length (entry (ordered (pieces_in m h)) i).piece.bytes
      stored_length =
          let n : length (piece_in m (piece_at m base i)).bytes ≡ length (entry es i).piece.bytes = ap (λ (q : Piece). length q.bytes) piece in
          let r : piece_at m base i + 48 ≤ length m = omega (arith, number_inside, s.log_room, s.room) in
          omega (arith, piece_length m (piece_at m base i) r (piece_small m (piece_at m base i) r (omega (arith, n, sound.small))), n)

      pub stored_some : 0 < length (entry (ordered (pieces_in m h)) i).piece.bytes
      stored_some = entered.some

      pub stored_below : entry_end m base i ≤ last_number
      stored_below = omega (arith, ap (λ (x : Location). x.address) stored_location, stored_length, sound.below)

      pub stored_end : le64 m (base + 16 * i + 8) ≡ le64 m (piece_at m base i + 40)
      stored_end =
          let e : piece_at m base i + 24 + 16 ≡ piece_at m base i + 40 = omega arith in
          let d : le64 m (piece_at m base i + 24 + 16) ≡ (entry es i).piece.at.destroyed = ap (λ (q : Piece). q.at.destroyed) piece in
          sym (holds_le m (base + 16 * i + 8) (entry es i).piece.at.destroyed (omega (arith, d, le64_lt m (piece_at m base i + 24 + 16) b)) both.end) ∙ sym d ∙ ap (le64 m) e

      pub stored_small : length (entry (ordered (pieces_in m h)) i).piece.bytes ≤ 16
      stored_small = sound.small

    pub stored_within : Within Logged m base count
    stored_within = record {
      numbers = λ e. omega (arith, s.room, p);
      places = λ i l. omega (arith, number_inside i l, s.log_room, s.room);
    }

    pub stored_lined : Lined count (entry_at m base)
    stored_lined = record {
      ahead = λ i j l k. subst (λ (x : Location). Ahead x (at j)) (sym (stored_location i (omega arith))) (subst (Ahead (entry es i).piece.at) (sym (stored_location j k)) (in_line.ahead i j l (omega (arith, stored_count))));
      alive = λ i l. subst (λ (x : Location). x.created < x.destroyed) (sym (stored_location i l)) (in_line.alive i (omega (arith, stored_count)));
    }

-- A block that fits, once its pieces stand behind the log: they can be entered into the certificate. Assumes nothing.
use Prim.Native.Nat.{ℕ, zero, suc, ◌+◌, ◌-◌, ◌*◌, ◌≤◌, ◌<◌}
use native.Mathlib.Omega.{arith}
use mathlib.Core.Path.{◌≡◌, sym, ap, ◌∙◌, subst}
use mathlib.Core.Logic.{◌⊎◌, inl, inr}
use mathlib.Core.List.Memᴰ.{append_cases}
use mathlib.Core.List.{List, [], ◌∷◌, ◌++◌, Memᴰ as Mem}
use lib.ListN.{length, get_or, drop, length-take, length-drop}
use lib.Seq.{sets, length-sets, get_or-append-add}
use borrow.Author.Tests.{eq-eqb}
use Rattle.words.specs.Holding.{Holds}
use Rattle.words.proofs.Holding.{holds_ext, sets_held}
use Rattle.words.proofs.Parts.{get_or_sets_out}
use Rattle.definitions.specs.Blocks.{Block, Piece, pieces}
use Rattle.definitions.specs.Conflicts.{free}
use Rattle.definitions.proofs.Conflicts.{free_added}
use Rattle.location.specs.Fits.{Fits}
use Rattle.memory_header.specs.Layout.{Header, work_at}
use Rattle.index_memory.specs.Log.{log_in, log_bytes}
use Rattle.index_memory.proofs.LogBytes.{AllSound, PieceSound, length_log, log_written, log_append, log_elsewhere, length_log_in, log_sound_is, is_log_sound}
use Rattle.conflicts.specs.Order.{enter_all, ordered, certificate, entries_bytes, nothing, nth}
use Rattle.conflicts.specs.Promises.{filled}
use Rattle.conflicts.proofs.Order.{ordered_append}
use Rattle.certificate.specs.Stored.{pieces_in, Stored}
use Rattle.certificate.proofs.Bytes.{length_certificate}
use Rattle.ordering.specs.Entering.{all_pieces, Entering}
use Rattle.judging.specs.Judged.{piece_count}
use Rattle.recording.specs.Cut.{part, parts}
use Rattle.recording.specs.Record.{logged, Fitting}
use Rattle.recording.proofs.Cut.{pieces_length, pieces_parts}
use Rattle.recording.proofs.Pieces.{sound_pieces, fit_pieces}

-- a block's pieces by their number, the hindmost first
parts_nth : (b : Block) (k j : ℕ) → j < k → nth (parts b k) j ≡ part b (16 * (k - (j + 1)))
unfolding parts
parts_nth b zero j h = absurd (omega arith)
parts_nth b (suc k) zero h = let e : k ≡ suc k - (0 + 1) = omega arith in ap (λ (i : ℕ). part b (16 * i)) e
parts_nth b (suc k) (suc j) h = let e : k - (j + 1) ≡ suc k - (suc j + 1) = omega arith in parts_nth b k j (omega arith) ∙ ap (λ (i : ℕ). part b (16 * i)) e

-- the only piece of an empty block
only : (b : Block) → length b.bytes ≡ 0 → pieces b ≡ part b 0 ∷ []
unfolding parts
only b z = let e : piece_count (length b.bytes) ≡ 1 = omega arith in pieces_parts b ∙ ap (parts b) e

-- it has no entry
order_same : (ps : List Piece) (b : Block) → length b.bytes ≡ 0 → ordered (ps ++ pieces b) ≡ ordered ps
unfolding enter_all
order_same ps b z =
    let empty : length (part b 0).bytes ≡ 0 = omega (arith, length-take 16 (drop 0 b.bytes), length-drop 0 b.bytes) in
    ordered_append ps (pieces b) ∙ ap (λ (rs : List Piece). enter_all (length ps) rs (ordered ps)) (only b z) ∙ rw (eq-eqb (length (part b 0).bytes) 0 empty)

module _ (m : List ℕ) (h : Header) (count : ℕ) (b : Block) (f : Fitting m h count b) (t : Fits b.at) where
  abbrev ps : List Piece
  ps = pieces_in m h

  abbrev new : List Piece
  new = pieces b

  abbrev n : ℕ
  n = piece_count (length b.bytes)

  abbrev base : ℕ
  base = work_at h.capacity

  -- the memory with the pieces behind the log
  abbrev written : List ℕ
  written = sets m (64 + 48 * h.payload) (log_bytes new)

  long : length written ≡ length m
  long = length-sets m (64 + 48 * h.payload) (log_bytes new)

  ps_sound : AllSound ps
  ps_sound = log_sound_is m h.payload 64 (omega (arith, f.log_room, f.room)) f.stored.sound

  new_sound : AllSound new
  new_sound = sound_pieces b f.sound

  new_long : length (log_bytes new) ≡ 48 * n
  new_long = length_log new (λ p k. (new_sound p k).small) ∙ ap (λ (k : ℕ). 48 * k) (pieces_length b)

  all_sound : AllSound (ps ++ new)
  all_sound p k = go (append_cases ps k)
    where
      go : Mem p ps ⊎ Mem p new → PieceSound p
      go (inl j) = ps_sound p j
      go (inr j) = new_sound p j

  old_log : log_in written h.payload 64 ≡ ps
  old_log = log_elsewhere (log_bytes new) m (64 + 48 * h.payload) h.payload 64 (omega (arith, f.log_room, f.room)) ps_sound (inl (omega arith))

  new_log : log_in written n (64 + 48 * h.payload) ≡ new
  new_log =
      ap (λ (k : ℕ). log_in written k (64 + 48 * h.payload)) (sym (pieces_length b))
      ∙ log_written new m (64 + 48 * h.payload) (fit_pieces b f.sound t) (omega (arith, f.log_room, f.room, pieces_length b))

  whole_log : log_in written (h.payload + n) 64 ≡ ps ++ new
  whole_log = log_append written h.payload n 64 ∙ (λ i. old_log i ++ new_log i)

  -- what lies behind the log is as it was
  same : (k : ℕ) → base ≤ k → get_or written k 0 ≡ get_or m k 0
  same k l = get_or_sets_out (log_bytes new) m (64 + 48 * h.payload) k (inr (omega (arith, new_long, f.log_room)))

  still_stored : Stored written h count
  still_stored = record {
    sound = is_log_sound written h.payload 64 (omega (arith, long, f.log_room, f.room)) (subst AllSound (sym old_log) ps_sound);
    apart = ap free old_log ∙ f.stored.apart;
    certified = subst (λ (x : List Piece). Holds written base (certificate x)) (sym old_log) (holds_ext m written base (certificate ps) (λ k l r. same k l) f.stored.certified);
    counted = f.stored.counted ∙ ap filled (sym old_log);
    some_nodes = f.stored.some_nodes;
    some_entries = f.stored.some_entries;
    log_room = f.stored.log_room;
    room = omega (arith, long, f.stored.room);
  }

  ps_length : length ps ≡ h.payload
  ps_length = length_log_in m h.payload 64

  piece_at : (j : ℕ) → j < n → nth (all_pieces written h n) (h.payload + j) ≡ part b (16 * (n - (j + 1)))
  piece_at j l =
      ap (λ (x : List Piece). nth x (h.payload + j)) whole_log
      ∙ ap (λ (k : ℕ). nth (ps ++ new) (k + j)) (sym ps_length)
      ∙ get_or-append-add ps new j nothing
      ∙ ap (λ (x : List Piece). nth x j) (pieces_parts b)
      ∙ parts_nth b n j l

  -- the pieces of a block that has a byte can be entered
  pub entering : (length b.bytes ≡ 0 → ⊥) → Entering written h count n
  entering z = record {
    stored = still_stored;
    sound = is_log_sound written (h.payload + n) 64 (omega (arith, long, f.log_room, f.room)) (subst AllSound (sym whole_log) all_sound);
    apart = ap free whole_log ∙ free_added ps b f.stored.apart f.apart;
    some = λ j l. let e = ap (λ (p : Piece). length p.bytes) (piece_at j l) in omega (arith, e, length-take 16 (drop (16 * (n - (j + 1))) b.bytes), length-drop (16 * (n - (j + 1))) b.bytes, z);
    descend = λ j l. let x = ap (λ (p : Piece). p.at.address) (piece_at j (omega arith)) in let y = ap (λ (p : Piece). p.at.address) (piece_at (suc j) l) in omega (arith, x, y);
    log_room = f.log_room;
    room = omega (arith, long, f.room);
  }

  pub put_some : (x : List ℕ) → x ≡ sets written base (certificate (log_in written (h.payload + n) 64)) → x ≡ logged m h new
  unfolding logged
  put_some x e = e ∙ ap (λ (rs : List Piece). sets written base (certificate rs)) whole_log

  -- an empty block leaves the certificate as it is
  pub put_none : length b.bytes ≡ 0 → written ≡ logged m h new
  unfolding logged
  put_none z =
      let e : certificate (ps ++ new) ≡ certificate ps = ap (entries_bytes 0 0) (order_same ps b z) in
      sym (ap (sets written base) e ∙ sets_held written base (certificate ps) (omega (arith, long, f.stored.room, f.stored.counted, length_certificate ps)) (holds_ext m written base (certificate ps) (λ k l r. same k l) f.stored.certified))

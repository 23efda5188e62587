-- What is left where pieces are appended: an open index, with them behind the others. Assumes nothing.
use Prim.Native.Nat.{ℕ, ◌+◌, ◌-◌, ◌*◌, ◌≤◌, ◌<◌}
use native.Mathlib.Omega.{arith}
use mathlib.Core.Path.{◌≡◌, sym, ap, ◌∙◌, subst}
use mathlib.Core.Bool.{true}
use mathlib.Core.Logic.{◌⊎◌, inl, inr}
use mathlib.Core.List.Memᴰ.{append_cases}
use mathlib.Core.List.{List, ◌++◌, Memᴰ as Mem}
use lib.ListN.{length, get_or, length-append}
use lib.Seq.{sets, length-sets}
use Rattle.std.proofs.lemmas.Bool.{cases_lt}
use Rattle.words.specs.Holding.{Holds}
use Rattle.words.proofs.Laws.{Outside}
use Rattle.words.proofs.Holding.{holds_sets}
use Rattle.words.proofs.Parts.{get_d_sets, get_or_sets_out, sets_over}
use Rattle.definitions.specs.Blocks.{Piece, nodes_tallied, entries_tallied}
use Rattle.definitions.specs.Conflicts.{free}
use Rattle.definitions.specs.Calls.{Capacity}
use Rattle.memory_header.specs.Layout.{Room, Header, work_at, header_bytes, with_header}
use Rattle.index_memory.specs.Log.{AllSmall, log_in, log_bytes}
use Rattle.index_memory.specs.Index.{opened, open_header, read_index}
use Rattle.conflicts.specs.Order.{certificate}
use Rattle.certificate.specs.Stored.{pieces_in}
use Rattle.certificate.proofs.Bytes.{length_certificate}
use Rattle.certificate.proofs.Counting.{filled_upto}
use Rattle.recording.specs.Record.{logged, appended}
use Rattle.recording.specs.Promises.{LengthAppended}
use Rattle.index_memory.proofs.Charges.{charge_count}
use Rattle.memory_header.proofs.HeaderBytes.{length_header}
use Rattle.index_memory.proofs.LogBytes.{AllFit, AllSound, PieceSound, length_log, log_written, log_append, log_elsewhere}
use Rattle.index_memory.proofs.Holding.{OpenIs, room_open, put_holds}

-- ---- what is read back

module _ (m : List ℕ) (c : Capacity) (ps new : List Piece) where
  -- the memory with the new pieces behind the log
  abbrev log : List ℕ
  log = sets m (64 + 48 * length ps) (log_bytes new)

  -- and with their certificate, before the header is written
  abbrev behind : List ℕ
  behind = logged m (open_header c ps) new

  long : length behind ≡ length m
  unfolding logged
  long = length-sets log (work_at c) (certificate (pieces_in m (open_header c ps) ++ new)) ∙ length-sets m (64 + 48 * length ps) (log_bytes new)

  module _ (o : OpenIs m c ps) (f : AllFit new) (s : AllSound new) (n : nodes_tallied (ps ++ new) ≤ c.nodes) (e : entries_tallied (ps ++ new) ≤ c.entries) (a : free (ps ++ new) ≡ true) where
    room : Room behind c
    room =
        let r : Room m c = room_open m c ps o in
        record { some_nodes = r.some_nodes; few_nodes = r.few_nodes; some_entries = r.some_entries; few_entries = r.few_entries; held = omega (arith, long, r.held) }

    held : log_in m (length ps) 64 ≡ ps
    held = ap (λ (k : ℕ). log_in m k 64) (sym o.payload) ∙ sym o.log

    few : length (ps ++ new) ≤ c.entries
    few = omega (arith, charge_count (ps ++ new))

    within : 64 + 48 * (length ps + length new) ≤ work_at c
    within = omega (arith, few, length-append ps new)

    certified_room : work_at c + length (certificate (ps ++ new)) ≤ length m
    certified_room = omega (arith, few, length_certificate (ps ++ new), filled_upto (ps ++ new), room.held, long)

    behind_is : behind ≡ sets log (work_at c) (certificate (ps ++ new))
    unfolding logged
    behind_is = ap (λ (x : List Piece). sets log (work_at c) (certificate (x ++ new))) held

    all_sound : AllSound (ps ++ new)
    all_sound p k = go (append_cases ps k)
      where
        go : Mem p ps ⊎ Mem p new → PieceSound p
        go (inl j) = o.sound p j
        go (inr j) = s p j

    log_held : log_in log (length (ps ++ new)) 64 ≡ ps ++ new
    log_held =
        let q : ℕ = 64 + 48 * length ps in
        let old : log_in log (length ps) 64 ≡ ps = log_elsewhere (log_bytes new) m q (length ps) 64 (omega (arith, within, certified_room)) (subst AllSound (sym held) o.sound) (inl (omega arith)) ∙ held in
        let new_log : log_in log (length new) q ≡ new = log_written new m q f (omega (arith, within, certified_room)) in
        ap (λ (k : ℕ). log_in log k 64) (length-append ps new) ∙ log_append log (length ps) (length new) 64 ∙ (λ i. old i ++ new_log i)

    log_long : length log ≡ length m
    log_long = length-sets m (64 + 48 * length ps) (log_bytes new)

    whole_log : log_in behind (length (ps ++ new)) 64 ≡ ps ++ new
    whole_log =
        ap (λ (x : List ℕ). log_in x (length (ps ++ new)) 64) behind_is
        ∙ log_elsewhere (certificate (ps ++ new)) log (work_at c) (length (ps ++ new)) 64 (omega (arith, within, certified_room, log_long, length-append ps new)) (subst AllSound (sym log_held) all_sound) (inl (omega (arith, within, length-append ps new)))
        ∙ log_held

    certified : Holds behind (work_at c) (certificate (ps ++ new))
    certified = subst (λ (x : List ℕ). Holds x (work_at c) (certificate (ps ++ new))) (sym behind_is) (holds_sets (certificate (ps ++ new)) log (work_at c) (omega (arith, certified_room, log_long)))

    -- pieces that fit go behind the others
    pub read_behind : read_index (appended m c ps new) ≡ opened c (ps ++ new)
    unfolding appended
    read_behind = put_holds behind c (ps ++ new) room n e all_sound whole_log a certified

-- ---- the other laws

pub length_appended : LengthAppended
unfolding appended
length_appended m c ps new = length-sets (behind m c ps new) 0 (header_bytes (open_header c (ps ++ new))) ∙ long m c ps new

-- a byte that two lists share they share where others are written
shared : (zs xs ys : List ℕ) (at k : ℕ) → length xs ≡ length ys → at + length zs ≤ length xs → get_or xs k 0 ≡ get_or ys k 0 → get_or (sets xs at zs) k 0 ≡ get_or (sets ys at zs) k 0
shared zs xs ys at k l h e = go (cases_lt k at) (cases_lt k (at + length zs))
  where
    go : (k < at) ⊎ (at ≤ k) → (k < at + length zs) ⊎ (at + length zs ≤ k) → get_or (sets xs at zs) k 0 ≡ get_or (sets ys at zs) k 0
    go (inl a) b = get_or_sets_out zs xs at k (inl a) ∙ e ∙ sym (get_or_sets_out zs ys at k (inl a))
    go (inr a) (inr b) = get_or_sets_out zs xs at k (inr b) ∙ e ∙ sym (get_or_sets_out zs ys at k (inr b))
    go (inr a) (inl b) =
        let q : k ≡ at + (k - at) = omega arith in
        rw q (get_d_sets zs xs at (k - at) (omega arith) h ∙ sym (get_d_sets zs ys at (k - at) (omega arith) (omega arith)))

-- a header that is put before the pieces are is written over by the one that counts them
pub header_over : (m : List ℕ) (h h' h'' : Header) (new : List Piece) → AllSmall new → pieces_in (with_header m h) h' ≡ pieces_in m h'
    → 64 + 48 * (h'.payload + length new) ≤ length m → work_at h'.capacity + length (certificate (pieces_in m h' ++ new)) ≤ length m
    → with_header (logged (with_header m h) h' new) h'' ≡ with_header (logged m h' new) h''
unfolding logged
header_over m h h' h'' new s q l r =
    let at : ℕ = 64 + 48 * h'.payload in
    let ys : List ℕ = log_bytes new in
    let w : ℕ = work_at h'.capacity in
    let zs : List ℕ = certificate (pieces_in m h' ++ new) in
    let long : length (with_header m h) ≡ length m = length-sets m 0 (header_bytes h) in
    let n : at + length ys ≤ length m = omega (arith, length_log new s) in
    let u : length (sets (with_header m h) at ys) ≡ length (sets m at ys) = length-sets (with_header m h) at ys ∙ long ∙ sym (length-sets m at ys) in
    let v : length (sets m at ys) ≡ length m = length-sets m at ys in
    ap (λ (ps : List Piece). with_header (sets (sets (with_header m h) at ys) w (certificate (ps ++ new))) h'') q
    ∙ sets_over (header_bytes h'') (sets (sets (with_header m h) at ys) w zs) (sets (sets m at ys) w zs) 0
    (length-sets (sets (with_header m h) at ys) w zs ∙ u ∙ sym (length-sets (sets m at ys) w zs))
    (omega (arith, length_header h'', length-sets (sets (with_header m h) at ys) w zs, u, v))
    (λ k o. shared zs (sets (with_header m h) at ys) (sets m at ys) w k u (omega (arith, u, v, r))
    (shared ys (with_header m h) m at k long (omega (arith, long, n)) (get_or_sets_out (header_bytes h) m 0 k (subst (λ (n : ℕ). Outside n 0 k) (length_header h'' ∙ sym (length_header h)) o))))

-- What the work area holds after `expand`, and after its records were sorted. Assumes nothing.
use Prim.Native.Nat.{ℕ, zero, suc, ◌+◌, ◌-◌, ◌*◌, ◌^◌, ◌≤◌, ◌<◌}
use native.Mathlib.Omega.{arith}
use mathlib.Core.Path.{◌≡◌, refl, sym, ap, subst, ◌∙◌}
use mathlib.Core.Bool.{true, false}
use mathlib.Core.Logic.{◌⊎◌, inl, inr}
use mathlib.Core.List.Memᴰ.{append_cases}
use mathlib.Core.List.Memᴰ.{eq_of_singleton as only_one}
use mathlib.Core.List.Memᴰ.{head as here}
use mathlib.Core.List.Memᴰ.{not-nil}
use mathlib.Core.List.Memᴰ.{tail as later}
use mathlib.Core.List.{List, [], ◌∷◌, Memᴰ as Mem}
use lib.ListN.{length}
use lib.Seq.{sets}
use Rattle.words.specs.Words.{le64}
use Rattle.words.proofs.Laws.{le64_lt}
use Rattle.definitions.specs.Location.{Location, moved}
use Rattle.definitions.specs.Blocks.{Piece}
use Rattle.definitions.specs.Calls.{last_number}
use Rattle.location.specs.Fits.{Fits}
use Rattle.records.specs.Records.{record_at, records, records_bytes, sorted}
use Rattle.records.proofs.Bytes.{Bytes, length_records}
use Rattle.records.proofs.Lists.{sorted_mem, length_sorted}
use Rattle.trie.specs.Build.{Entry, parts, entered, entered_all}
use Rattle.index_memory.specs.Log.{piece_in, log_in}
use Rattle.tails.specs.Tails.{Tail, numbered, tail_record, tail_records}
use Rattle.tail_words.specs.Tail.{tail_of_record, tails_of, tails_in, ValidTail, ValidRecord, Held}
use Rattle.tail_records.specs.Log.{SoundPiece, SoundLog}
use Rattle.tail_words.proofs.Part.{part_bytes}
use Rattle.tail_records.proofs.Write.{piece_length}
use Rattle.tail_groups.proofs.Memory.{tails_written, held_written, records_read, records_held, held_records}

-- ── what a log enters can be held ──

-- what a record can hold of an entry
record ValidEntry (e : Entry) : Type 0 where
  short : length e.path ≤ 16
  bytes : Bytes e.path
  location : Fits e.at

-- a piece whose bytes all have an address
record ValidPiece (l : Location) (bs : List ℕ) : Type 0 where
  short : length bs ≤ 16
  bytes : Bytes bs
  address : l.address + length bs ≤ last_number
  created : l.created < 2 ^ 64
  destroyed : l.destroyed < 2 ^ 64

parts_valid : (l : Location) (bs : List ℕ) → ValidPiece l bs → (e : Entry) → Mem e (parts l bs) → ValidEntry e
parts_valid l [] v e m = absurd (not-nil m)
parts_valid l (b ∷ []) v e m = absurd (not-nil m)
parts_valid l (b ∷ c ∷ bs) v e m = go m (parts_valid (moved l 1) (c ∷ bs) next)
  where
    next : ValidPiece (moved l 1) (c ∷ bs)
    next = record {
      short = omega (arith, v.short);
      bytes = λ k. v.bytes (suc k);
      address = omega (arith, v.address);
      created = v.created;
      destroyed = v.destroyed;
    }

    first : ValidEntry (record { path = c ∷ bs; at = moved l 1; whole = false })
    first = record { short = next.short; bytes = next.bytes; location = record { address = omega (arith, next.address); created = v.created; destroyed = v.destroyed } }

    go : Mem e (record { path = c ∷ bs; at = moved l 1; whole = false } ∷ parts (moved l 1) (c ∷ bs)) → ((f : Entry) → Mem f (parts (moved l 1) (c ∷ bs)) → ValidEntry f) → ValidEntry e
    go (here p) ih = subst ValidEntry (sym p) first
    go (later k) ih = ih e k

entered_valid : (p : Piece) → ValidPiece p.at p.bytes → (e : Entry) → Mem e (entered p) → ValidEntry e
entered_valid p v e m = go (append_cases (parts p.at p.bytes) m)
  where
    whole : ValidEntry (record { path = p.bytes; at = p.at; whole = true })
    whole = record { short = v.short; bytes = v.bytes; location = record { address = omega (arith, v.address); created = v.created; destroyed = v.destroyed } }

    go : Mem e (parts p.at p.bytes) ⊎ Mem e (record { path = p.bytes; at = p.at; whole = true } ∷ []) → ValidEntry e
    go (inl k) = parts_valid p.at p.bytes v e k
    go (inr k) = subst ValidEntry (sym (only_one k)) whole

log_valid : (s : List ℕ) (n p : ℕ) → Bytes s → SoundLog s n p → p + 48 * n ≤ length s → (e : Entry) → Mem e (entered_all (log_in s n p)) → ValidEntry e
unfolding log_in
log_valid s zero p b w h e m = absurd (not-nil m)
log_valid s (suc n) p b w h e m = go (append_cases (entered (piece_in s p)) m) (log_valid s n (p + 48) b rest (omega arith) e)
  where
    at : (j : ℕ) → p + 48 * suc j ≡ p + 48 + 48 * j
    at j = omega arith

    rest : SoundLog s n (p + 48)
    rest = record { each = λ j l. subst (SoundPiece s) (at j) (w.each (suc j) (omega arith)) }

    here_at : p + 48 * 0 ≡ p
    here_at = omega arith

    sound : SoundPiece s p
    sound = subst (SoundPiece s) here_at (w.each 0 (omega arith))

    valid : ValidPiece (piece_in s p).at (piece_in s p).bytes
    valid =
        let k : length (piece_in s p).bytes ≡ le64 s p = piece_length s p sound.short (omega arith) in
        record {
          short = omega (arith, sound.short);
          bytes = part_bytes (le64 s p) s (p + 8) b;
          address = omega (arith, sound.address);
          created = le64_lt s (p + 24 + 8) b;
          destroyed = le64_lt s (p + 24 + 16) b;
        }

    go : Mem e (entered (piece_in s p)) ⊎ Mem e (entered_all (log_in s n (p + 48))) → (Mem e (entered_all (log_in s n (p + 48))) → ValidEntry e) → ValidEntry e
    go (inl k) ih = entered_valid (piece_in s p) valid e k
    go (inr k) ih = ih k

numbered_valid : (n : ℕ) (es : List Entry) → n + length es ≤ 2 ^ 64 → ((e : Entry) → Mem e es → ValidEntry e) → (t : Tail) → Mem t (numbered n es) → ValidTail t
numbered_valid n [] h v t x3 = elim x3 [ ]
numbered_valid n (e ∷ es) h v t (here p) =
    let x = v e (here refl) in
    subst ValidTail (sym p) (record { short = x.short; bytes = x.bytes; location = x.location; arrival = omega arith })
numbered_valid n (e ∷ es) h v t (later m) = numbered_valid (suc n) es (omega arith) (λ f k. v f (later k)) t m

-- ── after expand ──

pub length_numbered : (n : ℕ) (es : List Entry) → length (numbered n es) ≡ length es
length_numbered n [] = refl
length_numbered n (e ∷ es) = ap suc (length_numbered (suc n) es)

module _ (s s' : List ℕ) (pieces work n : ℕ) (bytes : Bytes s) (sound : SoundLog s pieces 64) (before : 64 + 48 * pieces ≤ work)
    (room : work + 56 * length (entered_all (log_in s pieces 64)) ≤ length s) (small : length s ≤ 2 ^ 64) (count : n ≡ length (entered_all (log_in s pieces 64)))
    (is : s' ≡ sets s work (records_bytes (tail_records (numbered 0 (entered_all (log_in s pieces 64)))))) where
  valid : (t : Tail) → Mem t (numbered 0 (entered_all (log_in s pieces 64))) → ValidTail t
  valid = numbered_valid 0 (entered_all (log_in s pieces 64)) (omega arith) (log_valid s pieces 64 bytes sound (omega arith))

  -- the tails are what the log enters, by arrival
  pub expanded_tails : tails_in s' work 0 n ≡ numbered 0 (entered_all (log_in s pieces 64))
  expanded_tails =
      let ts : List Tail = numbered 0 (entered_all (log_in s pieces 64)) in
      let k : length ts ≡ length (entered_all (log_in s pieces 64)) = length_numbered 0 (entered_all (log_in s pieces 64)) in
      ap (λ (m : List ℕ). tails_in m work 0 n) is ∙ tails_written s work 0 n work ts valid (omega arith) (omega arith) (omega arith)

  pub expanded_held : Held s' work 0 n
  expanded_held =
      let ts : List Tail = numbered 0 (entered_all (log_in s pieces 64)) in
      let k : length ts ≡ length (entered_all (log_in s pieces 64)) = length_numbered 0 (entered_all (log_in s pieces 64)) in
      subst (λ (m : List ℕ). Held m work 0 n) (sym is) (held_written s work 0 n work ts valid (omega arith) (omega arith) (omega arith))

-- ── after sort ──

tails_back : (rs : List (List ℕ)) → ((r : List ℕ) → Mem r rs → ValidRecord r) → tail_records (tails_of rs) ≡ rs
tails_back [] v = refl
tails_back (r ∷ rs) v =
    let e : r ≡ tail_record (tail_of_record r) = (v r (here refl)).same in
    let f = tails_back rs (λ x m. v x (later m)) in
    cc

held_mem : (n : ℕ) (s : List ℕ) (p : ℕ) → ((i : ℕ) → i < n → ValidRecord (record_at 7 s (p + 56 * i))) → (r : List ℕ) → Mem r (records 7 n s p) → ValidRecord r
unfolding records
held_mem zero s p h r m = absurd (not-nil m)
held_mem (suc n) s p h r (here e) =
    let z : p + 56 * 0 ≡ p = omega arith in
    subst ValidRecord (ap (record_at 7 s) z ∙ sym e) (h 0 (omega arith))
held_mem (suc n) s p h r (later m) = held_mem n s (p + 8 * 7) (λ i l. subst (λ (q : ℕ). ValidRecord (record_at 7 s q)) (next i) (h (suc i) (omega arith))) r m
  where
    next : (i : ℕ) → p + 56 * suc i ≡ p + 8 * 7 + 56 * i
    next i = omega arith

module _ (s s' : List ℕ) (work n : ℕ) (held : Held s work 0 n) (room : work + 56 * n ≤ length s) (is : s' ≡ sets s work (records_bytes (sorted (records 7 n s work)))) where
  all_valid : (r : List ℕ) → Mem r (sorted (records 7 n s work)) → ValidRecord r
  all_valid r m = held_mem n s work (λ i l. held.each i (omega arith) l) r (sorted_mem r (records 7 n s work) m)

  size : length (sorted (records 7 n s work)) ≡ n
  size = length_sorted (records 7 n s work) ∙ length_records 7 n s work

  same_records : records 7 n s work ≡ tail_records (tails_in s work 0 n)
  same_records =
      let e : n - 0 ≡ n = omega arith in
      let f : work + 56 * 0 ≡ work = omega arith in
      rw (e, f) at (held_records {work = work} {lo = 0} {hi = n} held)

  -- the tails are those from before, in order
  pub sorted_tails : tail_records (tails_in s' work 0 n) ≡ sorted (tail_records (tails_in s work 0 n))
  sorted_tails =
      ap (λ (m : List ℕ). tail_records (tails_in m work 0 n)) is
      ∙ ap tail_records (records_read s work 0 n work (sorted (records 7 n s work)) all_valid (omega arith) (omega (arith, size)) (omega (arith, size)))
      ∙ tails_back (sorted (records 7 n s work)) all_valid ∙ ap sorted same_records

  pub sorted_held : Held s' work 0 n
  sorted_held =
      subst (λ (m : List ℕ). Held m work 0 n) (sym is)
      (records_held s work 0 n work (sorted (records 7 n s work)) all_valid (omega arith) (omega (arith, size)) (omega (arith, size)))

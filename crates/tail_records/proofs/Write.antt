-- Writing tails: the numbers of one record, what is read of a piece, and one tail after the other. Assumes nothing.
use Prim.Native.Nat.{ℕ, suc, ◌+◌, ◌-◌, ◌*◌, ◌≤◌, ◌<◌, min}
use native.Mathlib.Numerals.{add-one}
use native.Mathlib.Omega.{arith}
use mathlib.Core.Path.{◌≡◌, refl, sym, ap, ◌∙◌}
use mathlib.Core.Bool.{Bool}
use mathlib.Core.List.{List, [], ◌∷◌, ◌++◌}
use lib.ListN.{length, get_or, take, drop, length-take, length-drop}
use lib.Seq.{sets, take_all, take-take, ext_get_or}
use Rattle.words.specs.Words.{le64, set_le64}
use Rattle.words.proofs.Parts.{set_le64_sets}
use Rattle.definitions.specs.Location.{Location, location_at, location_bytes}
use Rattle.definitions.specs.Blocks.{Piece}
use Rattle.definitions.specs.Calls.{last_number}
use Rattle.location.proofs.Bytes.{put_numbers}
use Rattle.records.specs.Records.{record_bytes, records_bytes}
use Rattle.records.proofs.Bytes.{record_bytes_sets, records_bytes_sets}
use Rattle.trie.specs.Build.{Entry}
use Rattle.index_memory.specs.Log.{piece_in}
use Rattle.tails.specs.Tails.{high, mark_of, numbered, tail_record, tail_records}
use Rattle.tail_records.specs.Log.{SoundPiece, numbers}
use Rattle.tail_words.proofs.Part.{part_drop}

-- ── one record ──

record_step : (v : ℕ) (vs xs : List ℕ) (p q : ℕ) → q ≡ p + 8 → sets xs p (record_bytes (v ∷ vs)) ≡ sets (set_le64 xs p v) q (record_bytes vs)
record_step v vs xs p q e = record_bytes_sets v vs xs p ∙ rw (e, set_le64_sets xs p v)

module _ (at first second mark : ℕ) (l : Location) (arrival : ℕ) where
  all_numbers : (xs : List ℕ)
      → set_le64 (sets (set_le64 (set_le64 (set_le64 xs at first) (at + 8) second) (at + 16) mark) (at + 24) (location_bytes l)) (at + 48) arrival
      ≡ sets xs at (record_bytes (numbers first second mark l arrival))
  unfolding record_bytes
  all_numbers xs =
      let a : List ℕ = set_le64 xs at first in
      let b : List ℕ = set_le64 a (at + 8) second in
      let c : List ℕ = set_le64 b (at + 16) mark in
      let d : List ℕ = set_le64 c (at + 24) l.address in
      let e : List ℕ = set_le64 d (at + 24 + 8) l.created in
      let f : List ℕ = set_le64 e (at + 24 + 16) l.destroyed in
      ap (λ (ys : List ℕ). set_le64 ys (at + 48) arrival) (sym (put_numbers c (at + 24) l))
      ∙ sym (record_step first (second ∷ mark ∷ l.address ∷ l.created ∷ l.destroyed ∷ arrival ∷ []) xs at (at + 8) refl
      ∙ record_step second (mark ∷ l.address ∷ l.created ∷ l.destroyed ∷ arrival ∷ []) a (at + 8) (at + 16) (omega arith)
      ∙ record_step mark (l.address ∷ l.created ∷ l.destroyed ∷ arrival ∷ []) b (at + 16) (at + 24) (omega arith)
      ∙ record_step l.address (l.created ∷ l.destroyed ∷ arrival ∷ []) c (at + 24) (at + 24 + 8) refl
      ∙ record_step l.created (l.destroyed ∷ arrival ∷ []) d (at + 24 + 8) (at + 24 + 16) (omega arith)
      ∙ record_step l.destroyed (arrival ∷ []) e (at + 24 + 16) (at + 48) (omega arith)
      ∙ record_step arrival [] f (at + 48) (at + 56) (omega arith))

  -- the same, by what each write says of the list before it
  pub record_in_turn : (xs ys zs us vs ws : List ℕ) → ys ≡ set_le64 xs at first → zs ≡ set_le64 ys (at + 8) second → us ≡ set_le64 zs (at + 16) mark
      → vs ≡ sets us (at + 24) (location_bytes l) → ws ≡ set_le64 vs (at + 48) arrival → ws ≡ sets xs at (record_bytes (numbers first second mark l arrival))
  record_in_turn xs ys zs us vs ws p q r s t = cc (all_numbers xs)

-- the numbers of a tail: the second is made of what is behind the first eight bytes of its path, or of none
module _ (bs : List ℕ) (whole : Bool) (n first second mark arrival : ℕ) (l : Location) where
  pub tail_numbers : n ≡ min (length bs) 8 → first ≡ high 8 bs 0 → second ≡ high 8 (take (length bs - n) (drop n bs)) 0 → mark ≡ 2 * length bs + mark_of whole
      → numbers first second mark l arrival ≡ tail_record (record { entry = record { path = bs; at = l; whole = whole }; arrival = arrival })
  tail_numbers e p q r =
      let f : take (length bs - n) (drop n bs) ≡ drop 8 bs =
      take_all (length bs - n) (drop n bs) (omega (arith, length-drop n bs)) ∙ ext_get_or 0 (drop n bs) (drop 8 bs) (omega (arith, length-drop n bs, length-drop 8 bs)) (λ k h. same k (omega (arith, length-drop n bs))) in
      let b : second ≡ high 8 (drop 8 bs) 0 = q ∙ ap (λ (ys : List ℕ). high 8 ys 0) f in
      λ j. numbers (p j) (b j) (r j) l arrival
    where
      same : (k : ℕ) → n + k < length bs → get_or (drop n bs) k 0 ≡ get_or (drop 8 bs) k 0
      same k h =
          let g : n ≡ 8 = omega arith in
          ap (λ (j : ℕ). get_or (drop j bs) k 0) g

-- ── a piece ──

-- the length of a piece's bytes
pub piece_length : (s : List ℕ) (p : ℕ) → le64 s p ≤ 16 → p + 24 ≤ length s → length (piece_in s p).bytes ≡ le64 s p
piece_length s p h room = omega (arith, length-take (le64 s p) (drop (p + 8) s), length-drop (p + 8) s)

-- what is read of a piece, once: its length, its location, and its bytes with others behind them
pub record Read (p : Piece) (m : ℕ) (l : Location) (bytes : List ℕ) : Type 0 where
  pub short : m ≤ 16
  pub long : length bytes ≡ 16
  pub size : length p.bytes ≡ m
  pub place : l ≡ p.at
  pub address : l.address + m ≤ last_number
  pub part : (i : ℕ) → take (m - i) (drop i bytes) ≡ drop i p.bytes

pub piece_read : (s : List ℕ) (piece m : ℕ) (l : Location) (bytes : List ℕ) → SoundPiece s piece → piece + 48 ≤ length s
    → m ≡ le64 s piece → l ≡ location_at s (piece + 24) → bytes ≡ take (piece + 8 + 16 - (piece + 8)) (drop (piece + 8) s) → Read (piece_in s piece) m l bytes
piece_read s piece m l bytes sound room e f g = record {
  short = omega arith;
  long = ap length all ∙ omega (arith, length-take 16 (drop (piece + 8) s), length-drop (piece + 8) s);
  size = piece_length s piece sound.short (omega arith) ∙ sym e;
  place = f;
  address = omega (arith, ap (λ (k : Location). k.address) f);
  part = part;
}
  where
    all : bytes ≡ take 16 (drop (piece + 8) s)
    all =
        let n : piece + 8 + 16 - (piece + 8) ≡ 16 = omega arith in
        g ∙ ap (λ (k : ℕ). take k (drop (piece + 8) s)) n

    part : (i : ℕ) → take (m - i) (drop i bytes) ≡ drop i (piece_in s piece).bytes
    part i =
        ap (λ (bs : List ℕ). take (m - i) (drop i bs)) all
        ∙ ap (take (m - i)) (part_drop 16 s (piece + 8) i (16 - i) (piece + 8 + i) refl refl)
        ∙ take-take (m - i) (16 - i) (drop (piece + 8 + i) s) (omega arith)
        ∙ sym (part_drop (le64 s piece) s (piece + 8) i (m - i) (piece + 8 + i) (omega arith) refl)

-- ── tails one after the other ──

-- the bytes of the tails of some entries, numbered from t on
abbrev pub bytes_from : ℕ → List Entry → List ℕ
bytes_from t es = records_bytes (tail_records (numbered t es))

-- the first one, then the others
pub write_one : (s : List ℕ) (work t : ℕ) (e : Entry) (es : List Entry)
    → sets s (work + 56 * t) (bytes_from t (e ∷ es))
    ≡ sets (sets s (work + 56 * t) (record_bytes (tail_record (record { entry = e; arrival = t })))) (work + 56 * (t + 1)) (bytes_from (t + 1) es)
write_one s work t e es =
    let r : List ℕ = tail_record (record { entry = e; arrival = t }) in
    let p : work + 56 * t + 8 * 7 ≡ work + 56 * (t + 1) = omega arith in
    records_bytes_sets 7 r (tail_records (numbered (suc t) es)) s (work + 56 * t) refl
    ∙ ap (λ (q : ℕ). sets (sets s (work + 56 * t) (record_bytes r)) q (bytes_from (suc t) es)) p
    ∙ ap (λ (n : ℕ). sets (sets s (work + 56 * t) (record_bytes r)) (work + 56 * (t + 1)) (bytes_from n es)) (sym (add-one t))

pub write_many : (s : List ℕ) (work t u : ℕ) (es fs : List Entry) → u ≡ t + length es
    → sets s (work + 56 * t) (bytes_from t (es ++ fs)) ≡ sets (sets s (work + 56 * t) (bytes_from t es)) (work + 56 * u) (bytes_from u fs)
unfolding records_bytes
write_many s work t u [] fs e =
    let f : t ≡ u = omega arith in
    ap (λ (n : ℕ). sets s (work + 56 * n) (bytes_from n fs)) f
write_many s work t u (e ∷ es) fs h =
    let s₁ : List ℕ = sets s (work + 56 * t) (record_bytes (tail_record (record { entry = e; arrival = t }))) in
    write_one s work t e (es ++ fs) ∙ write_many s₁ work (t + 1) u es fs (omega arith)
    ∙ ap (λ (xs : List ℕ). sets xs (work + 56 * u) (bytes_from u fs)) (sym (write_one s work t e es))

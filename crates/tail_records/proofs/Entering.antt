-- The loops that write the tails of a piece, and of a log: what is still to be written, written, is always the same. Assumes nothing.
use Prim.Native.Nat.{ℕ, ◌+◌, ◌-◌, ◌*◌, ◌≤◌, ◌<◌}
use native.Mathlib.Omega.{arith}
use mathlib.Core.Path.{◌≡◌, refl, sym, ap, subst, ◌∙◌}
use mathlib.Core.Logic.{inl}
use mathlib.Core.List.{List, [], ◌∷◌, ◌++◌}
use lib.ListN.{length, get_or, take, drop, length-append}
use lib.Seq.{sets, length-sets}
use Rattle.words.proofs.Parts.{get_or_sets_out}
use Rattle.definitions.specs.Location.{Location, moved}
use Rattle.definitions.specs.Blocks.{Piece}
use Rattle.records.specs.Records.{record_bytes, records_bytes}
use Rattle.trie.specs.Build.{Entry, parts, entered, entered_all}
use Rattle.index_memory.specs.Log.{piece_in, log_in}
use Rattle.tails.specs.Tails.{tail_record}
use Rattle.tail_records.specs.Log.{SoundPiece, SoundLog}
use Rattle.tail_records.proofs.Write.{Read, bytes_from, write_one, write_many}
use Rattle.tail_records.proofs.Log.{sound_ext, piece_ext, part_of, whole_of, still, still_start, still_step, still_done, log_none, log_step}

-- ── the tails of a piece ──

pub record Putting (s₀ : List ℕ) (p : Piece) (work count m : ℕ) (l : Location) (bs s : List ℕ) (t i : ℕ) : Type 0 where
  pub read : Read p m l bs
  pub room : work + 56 * (count + length (entered p)) ≤ length s
  pub from : 1 ≤ i
  pub long : length s ≡ length s₀
  pub tails : t + length (still p i) ≡ count + length (entered p)
  pub bytes : sets s (work + 56 * t) (bytes_from t (still p i)) ≡ sets s₀ (work + 56 * count) (bytes_from count (entered p))

module _ {s₀ : List ℕ} {p : Piece} {work count m : ℕ} {l : Location} {bs : List ℕ} where
  pub putting_start : Read p m l bs → work + 56 * (count + length (entered p)) ≤ length s₀ → Putting s₀ p work count m l bs s₀ count 1
  putting_start r room = record {
    read = r;
    room = room;
    from = omega arith;
    long = refl;
    tails = ap (λ (es : List Entry). count + length es) (still_start p);
    bytes = ap (λ (es : List Entry). sets s₀ (work + 56 * count) (bytes_from count es)) (still_start p);
  }

  module _ {s : List ℕ} {t i : ℕ} (w : Putting s₀ p work count m l bs s t i) where
    -- at least the whole piece is still to be written
    pub putting_room : work + 56 * t + 56 ≤ length s
    putting_room = omega (arith, length-append (parts (moved p.at (i - 1)) (drop (i - 1) p.bytes)) (whole_of p.at p.bytes ∷ []))

    -- one more tail in the loop
    step : i < m → still p i ≡ part_of (moved p.at i) (drop i p.bytes) ∷ still p (i + 1)
    step h = still_step p i w.from (omega arith)

    pub putting_turn : (s' : List ℕ) (l' : Location) → i < m → l' ≡ moved l i
        → s' ≡ sets s (work + 56 * t) (record_bytes (tail_record (record { entry = part_of l' (take (m - i) (drop i bs)); arrival = t })))
        → Putting s₀ p work count m l bs s' (t + 1) (i + 1)
    putting_turn s' l' h a e =
        let b : l' ≡ moved p.at i = a ∙ ap (λ (k : Location). moved k i) w.read.place in
        let f : s' ≡ sets s (work + 56 * t) (record_bytes (tail_record (record { entry = part_of (moved p.at i) (drop i p.bytes); arrival = t }))) =
        e ∙ (λ j. sets s (work + 56 * t) (record_bytes (tail_record (record { entry = part_of (b j) (w.read.part i j); arrival = t })))) in
        let g : length s' ≡ length s = ap length f ∙ simp length-sets in
        record {
          read = w.read;
          room = omega arith;
          from = omega arith;
          long = g ∙ w.long;
          tails = omega (arith, ap length (step h));
          bytes =
              ap (λ (xs : List ℕ). sets xs (work + 56 * (t + 1)) (bytes_from (t + 1) (still p (i + 1)))) f
              ∙ sym (write_one s work t (part_of (moved p.at i) (drop i p.bytes)) (still p (i + 1)))
              ∙ ap (λ (es : List Entry). sets s (work + 56 * t) (bytes_from t es)) (sym (step h)) ∙ w.bytes;
        }

    -- the whole piece
    last : m ≤ i → still p i ≡ whole_of p.at p.bytes ∷ []
    last h = still_done p i (omega arith)

    pub putting_count : m ≤ i → t + 1 ≡ count + length (entered p)
    putting_count h = omega (arith, ap length (last h))

    pub putting_done : (s' : List ℕ) → m ≤ i
        → s' ≡ sets s (work + 56 * t) (record_bytes (tail_record (record { entry = whole_of l (take (m - 0) (drop 0 bs)); arrival = t })))
        → s' ≡ sets s₀ (work + 56 * count) (bytes_from count (entered p))
    unfolding records_bytes
    putting_done s' h e =
        e ∙ (λ j. sets s (work + 56 * t) (record_bytes (tail_record (record { entry = whole_of (w.read.place j) (w.read.part 0 j); arrival = t }))))
        ∙ sym (write_one s work t (whole_of p.at p.bytes) [])
        ∙ ap (λ (es : List Entry). sets s (work + 56 * t) (bytes_from t es)) (sym (last h)) ∙ w.bytes

-- ── the tails of a log ──

-- the entries of the pieces from number j on
abbrev pub yet : List ℕ → ℕ → ℕ → List Entry
yet s pieces j = entered_all (log_in s (pieces - j) (64 + 48 * j))

abbrev pub all : List ℕ → ℕ → List Entry
all s pieces = entered_all (log_in s pieces 64)

-- ys is xs below byte n, and as long
pub record Front (n : ℕ) (xs ys : List ℕ) : Type 0 where
  pub long : length ys ≡ length xs
  pub same : (k : ℕ) → k < n → get_or ys k 0 ≡ get_or xs k 0

front_sets : {n : ℕ} {xs ys : List ℕ} (zs : List ℕ) (at : ℕ) → Front n xs ys → n ≤ at → Front n xs (sets ys at zs)
front_sets {n} {xs} {ys} zs at f h = record {
  long = length-sets ys at zs ∙ f.long;
  same = λ k l. get_or_sets_out zs ys at k (inl (omega arith)) ∙ f.same k l;
}

-- what `put_tails` asks
pub record Asks (s : List ℕ) (piece work count : ℕ) : Type 0 where
  pub sound : SoundPiece s piece
  pub before : piece + 48 ≤ work
  pub room : work + 56 * (count + length (entered (piece_in s piece))) ≤ length s

pub record Expanding (s₀ : List ℕ) (pieces work : ℕ) (s : List ℕ) (t j : ℕ) : Type 0 where
  pub upto : j ≤ pieces
  pub front : Front work s₀ s
  pub tails : t + length (yet s₀ pieces j) ≡ length (all s₀ pieces)
  pub bytes : sets s (work + 56 * t) (bytes_from t (yet s₀ pieces j)) ≡ sets s₀ work (bytes_from 0 (all s₀ pieces))

module _ (s₀ : List ℕ) (pieces work : ℕ) (sound : SoundLog s₀ pieces 64) (before : 64 + 48 * pieces ≤ work)
    (room : work + 56 * length (all s₀ pieces) ≤ length s₀) where
  pub expanding_start : Expanding s₀ pieces work s₀ 0 0
  expanding_start =
      let e : pieces - 0 ≡ pieces = omega arith in
      let f : yet s₀ pieces 0 ≡ all s₀ pieces = ap (λ (n : ℕ). entered_all (log_in s₀ n 64)) e in
      let z : work + 56 * 0 ≡ work = omega arith in
      record {
        upto = omega arith;
        front = record { long = refl; same = λ k l. refl };
        tails = omega (arith, ap length f);
        bytes = ap (λ (p : ℕ). sets s₀ p (bytes_from 0 (yet s₀ pieces 0))) z ∙ ap (λ (es : List Entry). sets s₀ work (bytes_from 0 es)) f;
      }

  module _ {s : List ℕ} {t j : ℕ} (w : Expanding s₀ pieces work s t j) where
    abbrev here : Piece
    here = piece_in s₀ (64 + 48 * j)

    sound_here : j < pieces → SoundPiece s₀ (64 + 48 * j)
    sound_here h = sound.each j h

    step_on : j < pieces → yet s₀ pieces j ≡ entered here ++ yet s₀ pieces (j + 1)
    step_on h = ap entered_all (log_step s₀ pieces 64 j h)

    step_length : j < pieces → length (yet s₀ pieces j) ≡ length (entered here) + length (yet s₀ pieces (j + 1))
    step_length h = ap length (step_on h) ∙ length-append (entered here) (yet s₀ pieces (j + 1))

    same_here : j < pieces → piece_in s (64 + 48 * j) ≡ here
    same_here h = piece_ext s₀ s (64 + 48 * j) w.front.long (λ k l. w.front.same k (omega arith)) (sound_here h).short

    pub expanding_asks : j < pieces → Asks s (64 + 48 * j) work t
    expanding_asks h = record {
      sound = sound_ext s₀ s (64 + 48 * j) w.front.long (λ k l. w.front.same k (omega arith)) (sound_here h);
      before = omega arith;
      room = omega (arith, w.front.long, w.tails, step_length h, ap (λ (p : Piece). length (entered p)) (same_here h));
    }

    pub expanding_turn : (s' : List ℕ) (t' : ℕ) → j < pieces → t' ≡ t + length (entered (piece_in s (64 + 48 * j)))
        → s' ≡ sets s (work + 56 * t) (bytes_from t (entered (piece_in s (64 + 48 * j)))) → Expanding s₀ pieces work s' t' (j + 1)
    expanding_turn s' t' h c e =
        let g : s' ≡ sets s (work + 56 * t) (bytes_from t (entered here)) = e ∙ ap (λ (p : Piece). sets s (work + 56 * t) (bytes_from t (entered p))) (same_here h) in
        let n : t' ≡ t + length (entered here) = c ∙ ap (λ (p : Piece). t + length (entered p)) (same_here h) in
        record {
          upto = omega arith;
          front = subst (Front work s₀) (sym g) (front_sets (bytes_from t (entered here)) (work + 56 * t) w.front (omega arith));
          tails = omega (arith, w.tails, step_length h);
          bytes =
              ap (λ (xs : List ℕ). sets xs (work + 56 * t') (bytes_from t' (yet s₀ pieces (j + 1)))) g
              ∙ sym (write_many s work t t' (entered here) (yet s₀ pieces (j + 1)) n)
              ∙ ap (λ (es : List Entry). sets s (work + 56 * t) (bytes_from t es)) (sym (step_on h)) ∙ w.bytes;
        }

    none_left : pieces ≤ j → yet s₀ pieces j ≡ []
    none_left h = ap entered_all (log_none s₀ pieces 64 j h)

    pub expanding_count : pieces ≤ j → t ≡ length (all s₀ pieces)
    expanding_count h = omega (arith, w.tails, ap length (none_left h))

    pub expanding_done : pieces ≤ j → s ≡ sets s₀ work (bytes_from 0 (all s₀ pieces))
    unfolding records_bytes
    expanding_done h = ap (λ (es : List Entry). sets s (work + 56 * t) (bytes_from t es)) (sym (none_left h)) ∙ w.bytes

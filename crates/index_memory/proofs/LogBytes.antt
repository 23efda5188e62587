-- A log in bytes: what is written is read back, what lies elsewhere is as it was, and which logs are sound. Assumes nothing.
use Prim.Native.Nat.{ℕ, zero, suc, ◌+◌, ◌*◌, ◌≤◌, ◌<◌}
use native.Mathlib.Omega.{arith}
use mathlib.Core.Path.{◌≡◌, refl, sym, ap, ◌∙◌, subst}
use mathlib.Core.Bool.{Bool, true, ◌&&◌}
use mathlib.Core.Logic.{◌⊎◌, inl, inr}
use mathlib.Core.List.Memᴰ.{head as here}
use mathlib.Core.List.Memᴰ.{not-nil}
use mathlib.Core.List.Memᴰ.{tail as later}
use mathlib.Core.List.{List, [], ◌∷◌, ◌++◌, Memᴰ as Mem}
use lib.ListN.{length, get_or, take, drop, get_or-eq_default, length-append, length-take, length-drop}
use lib.Seq.{sets, length-sets, get_or-take, get_or-drop}
use lib.Dec.{ltb, leb}
use borrow.Author.Tests.{leb-true, ltb-true, le-leb, lt-ltb}
use Rattle.std.proofs.lemmas.Bool.{cases_lt}
use Rattle.words.specs.Words.{le64}
use Rattle.words.proofs.Parts.{sets_append, get_or_sets_out}
use Rattle.definitions.specs.Blocks.{Piece}
use Rattle.definitions.specs.Calls.{last_number}
use Rattle.index_memory.specs.Log.{AllSmall, piece_in, piece_bytes, log_in, log_bytes, piece_sound, log_sound}
use Rattle.index_memory.proofs.PieceBytes.{PieceFits, length_piece, size_written, piece_written, piece_ext}
use Rattle.definitions.proofs.Tests.{and_left, and_right, and_true}

-- ---- what is written is read back

abbrev pub AllFit : List Piece → Type 0
AllFit ps = (p : Piece) → Mem p ps → PieceFits p

-- pieces of at most 16 bytes take 48 each
pub length_log : (ps : List Piece) → AllSmall ps → length (log_bytes ps) ≡ 48 * length ps
unfolding log_bytes
length_log [] f = refl
length_log (p ∷ ps) f = omega (arith, length-append (piece_bytes p) (log_bytes ps), length_piece p (f p (here refl)), length_log ps (λ q m. f q (later m)))

-- a log is written piece by piece
pub log_sets : (p : Piece) (ps : List Piece) (xs : List ℕ) (at : ℕ) → length p.bytes ≤ 16
    → sets xs at (log_bytes (p ∷ ps)) ≡ sets (sets xs at (piece_bytes p)) (at + 48) (log_bytes ps)
unfolding log_bytes
log_sets p ps xs at h = sets_append xs at (piece_bytes p) (log_bytes ps) ∙ rw (length_piece p h) refl

pub length_log_in : (xs : List ℕ) (n p : ℕ) → length (log_in xs n p) ≡ n
unfolding log_in
length_log_in xs zero p = refl
length_log_in xs (suc n) p = ap suc (length_log_in xs n (p + 48))

pub log_written : (ps : List Piece) (xs : List ℕ) (at : ℕ) → AllFit ps → at + 48 * length ps ≤ length xs
    → log_in (sets xs at (log_bytes ps)) (length ps) at ≡ ps
unfolding log_in
log_written [] xs at f h = refl
log_written (p ∷ ps) xs at f h =
    let ys : List ℕ = sets xs at (piece_bytes p) in
    let zs : List ℕ = sets ys (at + 48) (log_bytes ps) in
    let fp : PieceFits p = f p (here refl) in
    let n₁ : length ys ≡ length xs = length-sets xs at (piece_bytes p) in
    let n₂ : length zs ≡ length ys = length-sets ys (at + 48) (log_bytes ps) in
    let s : le64 ys at ≡ length p.bytes = size_written xs at p fp (omega arith) in
    let e : piece_in ys at ≡ piece_in zs at =
    piece_ext ys zs at (sym n₂) (omega (arith, fp.small)) (λ k a b. sym (get_or_sets_out (log_bytes ps) ys (at + 48) k (inl b))) in
    let q : piece_in ys at ≡ p = piece_written xs at p fp (omega arith) in
    let r : log_in zs (length ps) (at + 48) ≡ ps = log_written ps ys (at + 48) (λ x m. f x (later m)) (omega arith) in
    let w : piece_in zs at ∷ log_in zs (length ps) (at + 48) ≡ p ∷ ps = rw (sym e ∙ q, r) refl in
    ap (λ (ws : List ℕ). log_in ws (suc (length ps)) at) (log_sets p ps xs at fp.small) ∙ w

-- a log of n and k pieces
pub log_append : (xs : List ℕ) (n k p : ℕ) → log_in xs (n + k) p ≡ log_in xs n p ++ log_in xs k (p + 48 * n)
unfolding log_in
log_append xs zero k p =
    let e : 0 + k ≡ k = omega arith in
    let f : p + 48 * 0 ≡ p = omega arith in
    rw (e, f)
log_append xs (suc n) k p =
    let e : suc n + k ≡ suc (n + k) = omega arith in
    let f : p + 48 + 48 * n ≡ p + 48 * suc n = omega arith in
    let r = log_append xs n k (p + 48) in
    rw (e, r, f)

-- ---- sound pieces

-- a piece that the index rule accepts
pub record PieceSound (p : Piece) : Type 0 where
  pub small : length p.bytes ≤ 16
  pub alive : p.at.created < p.at.destroyed
  pub below : p.at.address + length p.bytes ≤ last_number

abbrev pub AllSound : List Piece → Type 0
AllSound ps = (p : Piece) → Mem p ps → PieceSound p

module _ (xs : List ℕ) (p : ℕ) (h : p + 48 ≤ length xs) where
  -- the length of a piece is the number before it, where that is at most 16
  pub piece_length : le64 xs p ≤ 16 → length (piece_in xs p).bytes ≡ le64 xs p
  piece_length s = omega (arith, length-take (le64 xs p) (drop (p + 8) xs), length-drop (p + 8) xs)

  pub piece_small : length (piece_in xs p).bytes ≤ 16 → le64 xs p ≤ 16
  piece_small s = omega (arith, length-take (le64 xs p) (drop (p + 8) xs), length-drop (p + 8) xs)

  pub sound_is : piece_sound xs p ≡ true → PieceSound (piece_in xs p)
  sound_is e =
      let n : ℕ = le64 xs p in
      let a : Bool = leb n 16 in
      let b : Bool = ltb (le64 xs (p + 32)) (le64 xs (p + 40)) in
      let c : Bool = leb (le64 xs (p + 24) + n) last_number in
      let s = leb-true n 16 (and_left a (b && c) e) in
      let r : (b && c) ≡ true = and_right a (b && c) e in
      let l = ltb-true (le64 xs (p + 32)) (le64 xs (p + 40)) (and_left b c r) in
      let t = leb-true (le64 xs (p + 24) + n) last_number (and_right b c r) in
      let u : p + 24 + 8 ≡ p + 32 = omega arith in
      let v : p + 24 + 16 ≡ p + 40 = omega arith in
      let u' = ap (le64 xs) u in
      let v' = ap (le64 xs) v in
      record { small = omega (arith, piece_length s); alive = omega arith; below = omega (arith, piece_length s) }

  pub is_sound : PieceSound (piece_in xs p) → piece_sound xs p ≡ true
  is_sound f =
      let n : ℕ = le64 xs p in
      let s = piece_small f.small in
      let u : p + 24 + 8 ≡ p + 32 = omega arith in
      let v : p + 24 + 16 ≡ p + 40 = omega arith in
      let u' = ap (le64 xs) u in
      let v' = ap (le64 xs) v in
      and_true
      (le-leb n 16 s)
      (and_true
      (lt-ltb (le64 xs (p + 32)) (le64 xs (p + 40)) (omega (arith, f.alive)))
      (le-leb (le64 xs (p + 24) + n) last_number (omega (arith, f.below, piece_length s))))

  pub piece_same : (ys : List ℕ) → length xs ≡ length ys → PieceSound (piece_in xs p) → ((k : ℕ) → p ≤ k → k < p + 48 → get_or xs k 0 ≡ get_or ys k 0)
      → piece_in xs p ≡ piece_in ys p
  piece_same ys len f g = piece_ext xs ys p len (piece_small f.small) g

pub log_sound_is : (xs : List ℕ) (n p : ℕ) → p + 48 * n ≤ length xs → log_sound xs n p ≡ true → AllSound (log_in xs n p)
unfolding log_sound log_in
log_sound_is xs zero p h e q m = absurd (not-nil m)
log_sound_is xs (suc n) p h e q (here f) =
    subst PieceSound (sym f) (sound_is xs p (omega arith) (and_left (piece_sound xs p) (log_sound xs n (p + 48)) e))
log_sound_is xs (suc n) p h e q (later m) =
    log_sound_is xs n (p + 48) (omega arith) (and_right (piece_sound xs p) (log_sound xs n (p + 48)) e) q m

pub is_log_sound : (xs : List ℕ) (n p : ℕ) → p + 48 * n ≤ length xs → AllSound (log_in xs n p) → log_sound xs n p ≡ true
unfolding log_sound log_in
is_log_sound xs zero p h f = refl
is_log_sound xs (suc n) p h f =
    and_true (is_sound xs p (omega arith) (f (piece_in xs p) (here refl))) (is_log_sound xs n (p + 48) (omega arith) (λ q m. f q (later m)))

-- a sound log lies in its bytes
pub log_ext : (n p : ℕ) (xs ys : List ℕ) → length xs ≡ length ys → p + 48 * n ≤ length xs → AllSound (log_in xs n p)
    → ((k : ℕ) → p ≤ k → k < p + 48 * n → get_or xs k 0 ≡ get_or ys k 0) → log_in xs n p ≡ log_in ys n p
unfolding log_in
log_ext zero p xs ys len h f g = refl
log_ext (suc n) p xs ys len h f g =
    let a = piece_same xs p (omega arith) ys len (f (piece_in xs p) (here refl)) (λ k l r. g k l (omega arith)) in
    let b = log_ext n (p + 48) xs ys len (omega arith) (λ q m. f q (later m)) (λ k l r. g k (omega arith) (omega arith)) in
    cc

-- and stays as it was where others are written
pub log_elsewhere : (ys xs : List ℕ) (at n p : ℕ) → p + 48 * n ≤ length xs → AllSound (log_in xs n p) → (p + 48 * n ≤ at) ⊎ (at + length ys ≤ p)
    → log_in (sets xs at ys) n p ≡ log_in xs n p
log_elsewhere ys xs at n p h f (inl l) =
    sym (log_ext n p xs (sets xs at ys) (sym (length-sets xs at ys)) h f (λ k a b. sym (get_or_sets_out ys xs at k (inl (omega arith)))))
log_elsewhere ys xs at n p h f (inr l) =
    sym (log_ext n p xs (sets xs at ys) (sym (length-sets xs at ys)) h f (λ k a b. sym (get_or_sets_out ys xs at k (inr (omega arith)))))

-- ---- a log in a memory of bytes

-- its pieces are of bytes
pub log_in_bytes : (xs : List ℕ) (n p : ℕ) → ((k : ℕ) → get_or xs k 0 < 256) → (q : Piece) → Mem q (log_in xs n p) → (k : ℕ) → get_or q.bytes k 0 < 256
unfolding log_in
log_in_bytes xs zero p b q m k = absurd (not-nil m)
log_in_bytes xs (suc n) p b q (later m) k = log_in_bytes xs n (p + 48) b q m k
log_in_bytes xs (suc n) p b q (here e) k = subst (λ (x : Piece). get_or x.bytes k 0 < 256) (sym e) (go (cases_lt k (le64 xs p)))
  where
    go : (k < le64 xs p) ⊎ (le64 xs p ≤ k) → get_or (take (le64 xs p) (drop (p + 8) xs)) k 0 < 256
    go (inl h) = omega (arith, get_or-take (le64 xs p) (drop (p + 8) xs) k 0 h, get_or-drop (p + 8) xs k 0, b (p + 8 + k))
    go (inr h) =
        let l : length (take (le64 xs p) (drop (p + 8) xs)) ≤ k = omega (arith, length-take (le64 xs p) (drop (p + 8) xs)) in
        omega (arith, get_or-eq_default (take (le64 xs p) (drop (p + 8) xs)) 0 l)

-- A number of n bytes, highest first: its bytes are those that it was made of, and in memory they stand from the last to the first.
-- Assumes nothing.
use Prim.Native.Nat.{ℕ, zero, suc, ◌+◌, ◌-◌, ◌*◌, ◌/◌, ◌%◌, ◌^◌, ◌≤◌, ◌<◌}
use native.Mathlib.Nat.{not-suc-le-zero}
use native.Mathlib.Numerals.{add-one}
use native.Mathlib.Omega.{arith}
use mathlib.Core.Path.{◌≡◌, refl, sym, ap, ◌∙◌}
use mathlib.Core.Logic.{◌⊎◌, inl, inr}
use mathlib.Core.List.{List, [], ◌∷◌, ◌++◌}
use lib.ListN.{length, get_or, drop, length-append, get_or-append}
use lib.Seq.{get_or_at, get_or-take, get_or-drop}
use Rattle.std.proofs.lemmas.Bool.{cases_lt}
use Rattle.words.specs.Words.{bytes_n, le64, bytes64}
use Rattle.words.proofs.Laws.{top}
use Rattle.words.proofs.Parts.{bytes64_le64}
use Rattle.records.proofs.Bytes.{Bytes}
use Rattle.tails.specs.Tails.{high}
use Rattle.tails.proofs.High.{high_lt}
use Rattle.tail_words.specs.Tail.{high_bytes}

-- ── the number of some bytes ──

-- one byte more at the end
pub high_last : (n : ℕ) (bs : List ℕ) (x : ℕ) → high (suc n) bs x ≡ high n bs x * 256 + get_or bs n 0
unfolding high
high_last zero [] x = omega arith
high_last zero (b ∷ bs) x = refl
high_last (suc n) [] x = high_last n [] (x * 256)
high_last (suc n) (b ∷ bs) x = high_last n bs (x * 256 + b)

-- seven bytes and one more are a number of 64 bits
top_small : (k : ℕ) → k < 8 → 256 * top k ≤ 2 ^ 64
unfolding top
top_small k l = go k 8 l
  where
    rise : (k : ℕ) → 1 ≤ top k
    rise zero = omega arith
    rise (suc k) = omega (arith, rise k)

    go : (k n : ℕ) → k < n → top (suc k) ≤ top n
    go k zero l = absurd (omega arith)
    go zero (suc n) l = omega (arith, rise n)
    go (suc k) (suc n) l = omega (arith, go k n (omega arith))

-- there is room for an eighth byte
pub high_room : (k : ℕ) (bs : List ℕ) (x : ℕ) → Bytes bs → k < 8 → x ≡ high k bs 0 → x * 256 + 256 ≤ 2 ^ 64
high_room k bs x b l e = omega (arith, high_lt k bs b, top_small k l)

pub high_turn : (k : ℕ) (bs : List ℕ) (x b : ℕ) → x ≡ high k bs 0 → b ≡ get_or bs k 0 → x * 256 + b ≡ high (k + 1) bs 0
high_turn k bs x b e f = rw (add-one k) (omega (arith, high_last k bs 0))

-- ── the bytes of a number ──

pub length_high_bytes : (n v : ℕ) → length (high_bytes n v) ≡ n
unfolding high_bytes
length_high_bytes zero v = refl
length_high_bytes (suc n) v = omega (arith, length-append (high_bytes n (v / 256)) (v % 256 ∷ []), length_high_bytes n (v / 256))

-- byte d, with k bytes behind it, is byte k from the lowest
pub get_or_high_bytes : (n v d k : ℕ) → n ≡ suc (d + k) → get_or (high_bytes n v) d 0 ≡ get_or (bytes_n n v) k 0
unfolding high_bytes bytes_n
get_or_high_bytes zero v d k e = absurd (omega arith)
get_or_high_bytes (suc n) v d zero e = get_or_at (high_bytes n (v / 256)) (v % 256) [] 0 d (length_high_bytes n (v / 256) ∙ omega arith)
get_or_high_bytes (suc n) v d (suc k) e =
    get_or-append (high_bytes n (v / 256)) (v % 256 ∷ []) 0 d (omega (arith, length_high_bytes n (v / 256)))
    ∙ get_or_high_bytes n (v / 256) d k (omega arith)

-- what the number was made of
pub high_bytes_high : (n : ℕ) (bs : List ℕ) (d : ℕ) → Bytes bs → d < n → get_or (high_bytes n (high n bs 0)) d 0 ≡ get_or bs d 0
unfolding high_bytes
high_bytes_high zero bs d b l = absurd (not-suc-le-zero l)
high_bytes_high (suc n) bs d b l = go (high_bytes_high n bs d b) (cases_lt d n)
  where
    v : ℕ
    v = high (suc n) bs 0

    front : v / 256 ≡ high n bs 0
    front = omega (arith, high_last n bs 0, b n)

    last : v % 256 ≡ get_or bs n 0
    last = omega (arith, high_last n bs 0, b n)

    go : (d < n → get_or (high_bytes n (high n bs 0)) d 0 ≡ get_or bs d 0) → (d < n) ⊎ (n ≤ d) → get_or (high_bytes n (v / 256) ++ (v % 256 ∷ [])) d 0 ≡ get_or bs d 0
    go ih (inl h) =
        get_or-append (high_bytes n (v / 256)) (v % 256 ∷ []) 0 d (omega (arith, length_high_bytes n (v / 256)))
        ∙ ap (λ (u : ℕ). get_or (high_bytes n u) d 0) front ∙ ih h
    go ih (inr h) =
        let e : n ≡ d = omega arith in
        get_or_at (high_bytes n (v / 256)) (v % 256) [] 0 d (length_high_bytes n (v / 256) ∙ e) ∙ last ∙ ap (λ (k : ℕ). get_or bs k 0) e

-- ── in memory ──

-- byte d of the number at p
pub byte_of : (xs : List ℕ) (p d : ℕ) → Bytes xs → p + 8 ≤ length xs → d < 8 → get_or (high_bytes 8 (le64 xs p)) d 0 ≡ get_or xs (p + (7 - d)) 0
unfolding bytes64
byte_of xs p d b h l =
    let e : 8 ≡ suc (d + (7 - d)) = omega arith in
    get_or_high_bytes 8 (le64 xs p) d (7 - d) e ∙ ap (λ (l : List ℕ). get_or l (7 - d) 0) (sym (bytes64_le64 xs p b h))
    ∙ get_or-take 8 (drop p xs) (7 - d) 0 (omega arith) ∙ get_or-drop p xs (7 - d) 0

-- The laws of `sets`, which writes a list over a part of another, and of `bytes_n`, the bytes of a number.
use Prim.Native.Nat.{ℕ, zero, suc, ◌+◌, ◌-◌, ◌*◌, ◌/◌, ◌%◌, ◌≤◌, ◌<◌}
use native.Mathlib.Nat.{not-suc-le-zero, add-zero}
use native.Mathlib.Numerals.{add-one}
use native.Mathlib.Omega.{arith}
use mathlib.Core.Path.{◌≡◌, refl, sym, ap, ◌∙◌}
use mathlib.Core.Logic.{◌⊎◌, inl, inr}
use mathlib.Core.List.{List, [], ◌∷◌, ◌++◌, append_assoc}
use lib.ListN.{length, get_or, set, take, drop, length-set, length-take, length-drop}
use lib.Seq.{sets, length-sets, sets-eq, get_or-set_same, get_or-set_other, get_or-take, get_or-drop, drop-cons, drop_at, take-append_seam, ext_get_or}
use Rattle.std.proofs.lemmas.Bool.{cases_lt}
use Rattle.words.specs.Words.{le_n, set_n, bytes_n, le64, set_le64, bytes64}
use Rattle.words.proofs.Laws.{Outside, le64_ext}

-- ---- a list written over a part of another
pub sets_append : (l : List ℕ) (i : ℕ) (xs ys : List ℕ) → sets l i (xs ++ ys) ≡ sets (sets l i xs) (i + length xs) ys
sets_append l i [] ys = rw add-zero
sets_append l i (x ∷ xs) ys =
    let e : suc i + length xs ≡ i + suc (length xs) = omega arith in
    sets_append (set l i x) (suc i) xs ys ∙ ap (λ (k : ℕ). sets (sets (set l i x) (suc i) xs) k ys) e

pub get_or_sets_out : (ys xs : List ℕ) (at k : ℕ) → Outside (length ys) at k → get_or (sets xs at ys) k 0 ≡ get_or xs k 0
get_or_sets_out [] xs at k o = refl
get_or_sets_out (y ∷ ys) xs at k (inl h) =
    get_or_sets_out ys (set xs at y) (suc at) k (inl (omega arith)) ∙ get_or-set_other xs at k y 0 (omega arith)
get_or_sets_out (y ∷ ys) xs at k (inr h) =
    get_or_sets_out ys (set xs at y) (suc at) k (inr (omega arith)) ∙ get_or-set_other xs at k y 0 (omega arith)

pub get_d_sets : (ys xs : List ℕ) (at k : ℕ) → k < length ys → at + length ys ≤ length xs → get_or (sets xs at ys) (at + k) 0 ≡ get_or ys k 0
get_d_sets [] xs at k l h = absurd (not-suc-le-zero l)
get_d_sets (y ∷ ys) xs at zero l h =
    let e : at + 0 ≡ at = omega arith in
    ap (λ (k : ℕ). get_or (sets (set xs at y) (suc at) ys) k 0) e ∙ get_or_sets_out ys (set xs at y) (suc at) at (inl (omega arith))
    ∙ get_or-set_same xs at y 0 (omega arith)
get_d_sets (y ∷ ys) xs at (suc k) l h =
    let e : at + suc k ≡ suc at + k = omega arith in
    ap (λ (k : ℕ). get_or (sets (set xs at y) (suc at) ys) k 0) e
    ∙ get_d_sets ys (set xs at y) (suc at) k (omega arith) (simp length-set (omega arith))

-- what was written is read back
pub take_sets : (ys xs : List ℕ) (at : ℕ) → at + length ys ≤ length xs → take (length ys) (drop at (sets xs at ys)) ≡ ys
take_sets ys xs at h =
    let rest = drop (at + length ys) xs in
    let e : drop at (sets xs at ys) ≡ ys ++ rest =
    ap (drop at) (sets-eq ys xs at h ∙ append_assoc (take at xs) ys rest) ∙ drop_at (take at xs) (ys ++ rest) at (simp length-take (omega arith)) in
    ap (take (length ys)) e ∙ take-append_seam ys rest

pub get_d_part : (n : ℕ) (xs : List ℕ) (at k : ℕ) → k < n → get_or (take n (drop at xs)) k 0 ≡ get_or xs (at + k) 0
get_d_part n xs at k l = get_or-take n (drop at xs) k 0 l ∙ get_or-drop at xs k 0

-- two lists that differ only where zs is written
pub sets_over : (zs xs ys : List ℕ) (at : ℕ) → length xs ≡ length ys → at + length zs ≤ length xs
    → ((k : ℕ) → Outside (length zs) at k → get_or xs k 0 ≡ get_or ys k 0) → sets xs at zs ≡ sets ys at zs
sets_over zs xs ys at len h f = ext_get_or 0 _ _ (length-sets xs at zs ∙ len ∙ sym (length-sets ys at zs)) (λ k l. go k (cases_lt k at) (cases_lt k (at + length zs)))
  where
    out : (k : ℕ) → Outside (length zs) at k → get_or (sets xs at zs) k 0 ≡ get_or (sets ys at zs) k 0
    out k o = get_or_sets_out zs xs at k o ∙ f k o ∙ sym (get_or_sets_out zs ys at k o)

    go : (k : ℕ) → (k < at) ⊎ (at ≤ k) → (k < at + length zs) ⊎ (at + length zs ≤ k) → get_or (sets xs at zs) k 0 ≡ get_or (sets ys at zs) k 0
    go k (inl a) b = out k (inl a)
    go k (inr a) (inr b) = out k (inr b)
    go k (inr a) (inl b) =
        let e : k ≡ at + (k - at) = omega arith in
        rw e (get_d_sets zs xs at (k - at) (omega arith) h ∙ sym (get_d_sets zs ys at (k - at) (omega arith) (omega arith)))

-- a part written over itself
pub sets_same : (n : ℕ) (xs : List ℕ) (at : ℕ) → at + n ≤ length xs → sets xs at (take n (drop at xs)) ≡ xs
sets_same n xs at h = ext_get_or 0 _ _ (length-sets xs at part) (λ k l. go k (cases_lt k at) (cases_lt k (at + n)))
  where
    part : List ℕ
    part = take n (drop at xs)

    long : length part ≡ n
    long = simp (length-take, length-drop) (omega arith)

    go : (k : ℕ) → (k < at) ⊎ (at ≤ k) → (k < at + n) ⊎ (at + n ≤ k) → get_or (sets xs at part) k 0 ≡ get_or xs k 0
    go k (inl a) b = get_or_sets_out part xs at k (inl a)
    go k (inr a) (inr b) = get_or_sets_out part xs at k (inr (omega (arith, long)))
    go k (inr a) (inl b) =
        let e : k ≡ at + (k - at) = omega arith in
        rw e (get_d_sets part xs at (k - at) (omega (arith, long)) (omega (arith, long)) ∙ get_d_part n xs at (k - at) (omega arith))

-- ---- the bytes of a number
pub length_bytes_n : (n v : ℕ) → length (bytes_n n v) ≡ n
unfolding bytes_n
length_bytes_n zero v = refl
length_bytes_n (suc n) v = ap suc (length_bytes_n n (v / 256))

pub bytes_n_lt : (n v k : ℕ) → get_or (bytes_n n v) k 0 < 256
unfolding bytes_n
bytes_n_lt zero v k = omega arith
bytes_n_lt (suc n) v zero = omega arith
bytes_n_lt (suc n) v (suc k) = bytes_n_lt n (v / 256) k

pub set_n_sets : (n : ℕ) (xs : List ℕ) (at v : ℕ) → set_n n xs at v ≡ sets xs at (bytes_n n v)
unfolding set_n bytes_n
set_n_sets zero xs at v = refl
set_n_sets (suc n) xs at v = rw (add-one at) (set_n_sets n (set xs at (v % 256)) (suc at) (v / 256))

-- a place holds the bytes of its number
pub bytes_n_le_n : (n : ℕ) (xs : List ℕ) (at : ℕ) → ((k : ℕ) → get_or xs k 0 < 256) → at + n ≤ length xs → take n (drop at xs) ≡ bytes_n n (le_n n xs at)
unfolding le_n bytes_n
bytes_n_le_n zero xs at b h = refl
bytes_n_le_n (suc n) xs at b h =
    let x = get_or xs at 0 in
    let v = le_n n xs (at + 1) in
    let e : x ≡ (x + 256 * v) % 256 = omega (arith, b at) in
    let f : v ≡ (x + 256 * v) / 256 = omega (arith, b at) in
    let d : drop at xs ≡ x ∷ drop (at + 1) xs = rw (add-one at) (drop-cons xs at 0 (omega arith)) in
    let r : take n (drop (at + 1) xs) ≡ bytes_n n v = bytes_n_le_n n xs (at + 1) b (omega arith) in
    ap (take (suc n)) d ∙ (cc)

-- ---- the same at eight bytes
pub length_bytes64 : (v : ℕ) → length (bytes64 v) ≡ 8
unfolding bytes64
length_bytes64 v = length_bytes_n 8 v

pub set_le64_sets : (xs : List ℕ) (at v : ℕ) → set_le64 xs at v ≡ sets xs at (bytes64 v)
unfolding set_le64 bytes64
set_le64_sets xs at v = set_n_sets 8 xs at v

pub bytes64_le64 : (xs : List ℕ) (at : ℕ) → ((k : ℕ) → get_or xs k 0 < 256) → at + 8 ≤ length xs → take 8 (drop at xs) ≡ bytes64 (le64 xs at)
unfolding le64 bytes64
bytes64_le64 xs at b h = bytes_n_le_n 8 xs at b h

-- a number elsewhere is as it was
pub le64_sets_other : (ys xs : List ℕ) (at p : ℕ) → (p + 8 ≤ at) ⊎ (at + length ys ≤ p) → le64 (sets xs at ys) p ≡ le64 xs p
le64_sets_other ys xs at p (inl h) = le64_ext _ _ p (λ k a b. get_or_sets_out ys xs at k (inl (omega arith)))
le64_sets_other ys xs at p (inr h) = le64_ext _ _ p (λ k a b. get_or_sets_out ys xs at k (inr (omega arith)))

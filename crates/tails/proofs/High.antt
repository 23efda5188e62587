-- Bytes as a number, highest first: its size, its bytes, and what the order of two such numbers tells of their bytes.
-- Assumes nothing.
use Prim.Native.Nat.{ℕ, zero, suc, ◌+◌, ◌-◌, ◌*◌, ◌/◌, ◌%◌, ◌^◌, ◌≤◌, ◌<◌}
use native.Mathlib.Nat.{not-suc-le-zero, add-mul, mul_assoc, suc-mul, mul-le-mul_right, mul-add-div_right, mul-add-mod_self_right, div-eq_of_lt, pow-suc}
use native.Mathlib.Omega.{arith}
use mathlib.Core.Path.{◌≡◌, refl, sym, ap, ◌∙◌}
use mathlib.Core.Logic.{◌⊎◌, inl, inr}
use mathlib.Core.List.{List, [], ◌∷◌}
use lib.ListN.{length, get_or, drop, get_or-eq_default}
use lib.Seq.{get_or-drop}
use Rattle.std.proofs.lemmas.Bool.{cases_lt}
use Rattle.words.proofs.Laws.{top}
use Rattle.records.proofs.Bytes.{Bytes}
use Rattle.definitions.proofs.Order.{mem_get_or}
use Rattle.tails.specs.Tails.{high}
use Rattle.tails.specs.Runs.{Agree, SoundPath}

-- ── the first byte and the rest ──

get_or_rest : (bs : List ℕ) (k : ℕ) → get_or (drop 1 bs) k 0 ≡ get_or bs (suc k) 0
get_or_rest [] k = refl
get_or_rest (b ∷ bs) k = refl

bytes_rest : (bs : List ℕ) → Bytes bs → Bytes (drop 1 bs)
bytes_rest bs h k = rw (get_or_rest bs k) (h (suc k))

high_step : (n : ℕ) (bs : List ℕ) (x : ℕ) → high (suc n) bs x ≡ high n (drop 1 bs) (x * 256 + get_or bs 0 0)
unfolding high
high_step n [] x = ap (high n []) (omega arith)
high_step n (b ∷ bs) x = refl

high_from : (n : ℕ) (bs : List ℕ) (x : ℕ) → high n bs x ≡ x * top n + high n bs 0
unfolding high top
high_from zero bs x = omega arith
high_from (suc n) bs x =
    let b : ℕ = get_or bs 0 0 in
    let r : List ℕ = drop 1 bs in
    let p : high n r (x * 256 + b) ≡ (x * 256 + b) * top n + high n r 0 = high_from n r (x * 256 + b) in
    let q : high n r (0 * 256 + b) ≡ (0 * 256 + b) * top n + high n r 0 = high_from n r (0 * 256 + b) in
    omega (arith, high_step n bs x, high_step n bs 0, add-mul (x * 256) b (top n), add-mul (0 * 256) b (top n), mul_assoc x 256 (top n), mul_assoc 0 256 (top n))

high_cons : (n : ℕ) (bs : List ℕ) → high (suc n) bs 0 ≡ get_or bs 0 0 * top n + high n (drop 1 bs) 0
high_cons n bs =
    let e : 0 * 256 + get_or bs 0 0 ≡ get_or bs 0 0 = omega arith in
    high_step n bs 0 ∙ ap (high n (drop 1 bs)) e ∙ high_from n (drop 1 bs) (get_or bs 0 0)

pub high_lt : (n : ℕ) (bs : List ℕ) → Bytes bs → high n bs 0 < top n
unfolding high top
high_lt zero bs h = omega arith
high_lt (suc n) bs h =
    let b : get_or bs 0 0 ≤ 255 = omega (arith, h 0) in
    omega (arith, high_cons n bs, high_lt n (drop 1 bs) (bytes_rest bs h), mul-le-mul_right (top n) b)

-- ── two numbers ──

agree_rest : (n : ℕ) (xs ys : List ℕ) → Agree (suc n) xs ys → Agree n (drop 1 xs) (drop 1 ys)
agree_rest n xs ys h k l = get_or_rest xs k ∙ h (suc k) (omega arith) ∙ sym (get_or_rest ys k)

pub high_agree : (n : ℕ) (xs ys : List ℕ) → Agree n xs ys → high n xs 0 ≡ high n ys 0
unfolding high
high_agree zero xs ys h = refl
high_agree (suc n) xs ys h =
    let e : get_or xs 0 0 * top n ≡ get_or ys 0 0 * top n = ap (λ (b : ℕ). b * top n) (h 0 (omega arith)) in
    omega (arith, high_cons n xs, high_cons n ys, high_agree n (drop 1 xs) (drop 1 ys) (agree_rest n xs ys h))

-- a lower digit never makes up for a higher one
digit_le : (a b t r q : ℕ) → r < t → q < t → a * t + r ≤ b * t + q → a ≤ b
digit_le a b t r q hr hq h = go (cases_lt b a)
  where
    go : (b < a) ⊎ (a ≤ b) → a ≤ b
    go (inl l) = absurd (omega (arith, mul-le-mul_right t l, suc-mul b t))
    go (inr l) = l

-- where the bytes below place d agree, the smaller number has the smaller byte at d
pub high_le : (n d : ℕ) (xs ys : List ℕ) → Bytes xs → Bytes ys → high n xs 0 ≤ high n ys 0 → d < n → Agree d xs ys → get_or xs d 0 ≤ get_or ys d 0
high_le zero d xs ys hx hy h l a = absurd (not-suc-le-zero l)
high_le (suc n) zero xs ys hx hy h l a =
    digit_le (get_or xs 0 0) (get_or ys 0 0) (top n) (high n (drop 1 xs) 0) (high n (drop 1 ys) 0) (high_lt n (drop 1 xs) (bytes_rest xs hx)) (high_lt n (drop 1 ys) (bytes_rest ys hy)) (omega (arith, high_cons n xs, high_cons n ys))
high_le (suc n) (suc d) xs ys hx hy h l a =
    let e : get_or xs 0 0 * top n ≡ get_or ys 0 0 * top n = ap (λ (b : ℕ). b * top n) (a 0 (omega arith)) in
    let r : get_or (drop 1 xs) d 0 ≤ get_or (drop 1 ys) d 0 = high_le n d (drop 1 xs) (drop 1 ys) (bytes_rest xs hx) (bytes_rest ys hy) (omega (arith, high_cons n xs, high_cons n ys)) (omega arith) (agree_rest d xs ys a) in
    omega (arith, get_or_rest xs d, get_or_rest ys d)

-- one place more
pub agree_next : (d : ℕ) (xs ys : List ℕ) → Agree d xs ys → get_or xs d 0 ≡ get_or ys d 0 → Agree (suc d) xs ys
agree_next d xs ys a e k l = go (cases_lt k d)
  where
    go : (k < d) ⊎ (d ≤ k) → get_or xs k 0 ≡ get_or ys k 0
    go (inl h) = a k h
    go (inr h) =
        let z : k ≡ d = omega arith in
        rw z e

-- equal numbers have equal bytes
pub high_same : (n : ℕ) (xs ys : List ℕ) → Bytes xs → Bytes ys → high n xs 0 ≡ high n ys 0 → (d : ℕ) → d ≤ n → Agree d xs ys
high_same n xs ys hx hy e zero h = λ k l. absurd (not-suc-le-zero l)
high_same n xs ys hx hy e (suc d) h =
    let a : Agree d xs ys = high_same n xs ys hx hy e d (omega arith) in
    let p : get_or xs d 0 ≤ get_or ys d 0 = high_le n d xs ys hx hy (omega arith) h a in
    let q : get_or ys d 0 ≤ get_or xs d 0 = high_le n d ys xs hy hx (omega arith) h (λ k l. sym (a k l)) in
    agree_next d xs ys a (omega arith)

-- ── bytes read off a number ──

top_add : (k m : ℕ) → top (k + suc m) ≡ top k * 256 * top m
unfolding top
top_add zero m =
    let e : 0 + suc m ≡ suc m = omega arith in
    rw e (omega arith)
top_add (suc k) m =
    let e : suc k + suc m ≡ suc (k + suc m) = omega arith in
    rw e (omega (arith, top_add k m, mul_assoc 256 (top k * 256) (top m), mul_assoc 256 (top k) 256))

top_some : (m : ℕ) → 0 < top m
unfolding top
top_some zero = omega arith
top_some (suc m) = omega (arith, top_some m)

-- the byte with m more behind it
high_byte : (k m : ℕ) (bs : List ℕ) → Bytes bs → high (k + suc m) bs 0 / top m % 256 ≡ get_or bs k 0
high_byte zero m bs h =
    let e : 0 + suc m ≡ suc m = omega arith in
    let q : high (suc m) bs 0 / top m ≡ get_or bs 0 0 + high m (drop 1 bs) 0 / top m = ap (λ (x : ℕ). x / top m) (high_cons m bs) ∙ mul-add-div_right (top_some m) (get_or bs 0 0) (high m (drop 1 bs) 0) in
    let z : high m (drop 1 bs) 0 / top m ≡ 0 = div-eq_of_lt (high_lt m (drop 1 bs) (bytes_rest bs h)) in
    rw e (omega (arith, h 0))
high_byte (suc k) m bs h =
    let e : suc k + suc m ≡ suc (k + suc m) = omega arith in
    let b : ℕ = get_or bs 0 0 in
    let x : ℕ = high (k + suc m) (drop 1 bs) 0 in
    let f : b * top (k + suc m) ≡ b * top k * 256 * top m = ap (λ (y : ℕ). b * y) (top_add k m) ∙ sym (mul_assoc b (top k * 256) (top m)) ∙ ap (λ (y : ℕ). y * top m) (sym (mul_assoc b (top k) 256)) in
    let g : high (suc (k + suc m)) bs 0 ≡ b * top k * 256 * top m + x = high_cons (k + suc m) bs ∙ ap (λ (y : ℕ). y + x) f in
    let q : high (suc (k + suc m)) bs 0 / top m ≡ b * top k * 256 + x / top m = ap (λ (y : ℕ). y / top m) g ∙ mul-add-div_right (top_some m) (b * top k * 256) x in
    rw e (ap (λ (y : ℕ). y % 256) q ∙ mul-add-mod_self_right (b * top k) 256 (x / top m) ∙ high_byte k m (drop 1 bs) (bytes_rest bs h) ∙ get_or_rest bs k)

top_pow : (n : ℕ) → top n ≡ 256 ^ n
unfolding top
top_pow zero = refl
top_pow (suc n) = omega (arith, top_pow n, pow-suc 256 n)

high_at : (bs : List ℕ) → Bytes bs → (k : ℕ) → k < 8 → high 8 bs 0 / top (7 - k) % 256 ≡ get_or bs k 0
high_at bs h k l =
    let e : k + suc (7 - k) ≡ 8 = omega arith in
    ap (λ (n : ℕ). high n bs 0 / top (7 - k) % 256) (sym e) ∙ high_byte k (7 - k) bs h

high_pow : (bs : List ℕ) → Bytes bs → (k : ℕ) → k < 8 → high 8 bs 0 / 256 ^ (7 - k) % 256 ≡ get_or bs k 0
high_pow bs h k l = ap (λ (t : ℕ). high 8 bs 0 / t % 256) (sym (top_pow (7 - k))) ∙ high_at bs h k l

-- ── the two numbers of a path ──

pub sound_bytes : (path : List ℕ) → SoundPath path → Bytes path
sound_bytes path s k = go (cases_lt k (length path))
  where
    go : (k < length path) ⊎ (length path ≤ k) → get_or path k 0 < 256
    go (inl h) = s.bytes (get_or path k 0) (mem_get_or path k h)
    go (inr h) = omega (arith, get_or-eq_default path 0 h)

pub bytes_drop : (n : ℕ) (path : List ℕ) → Bytes path → Bytes (drop n path)
bytes_drop n path h k = rw (get_or-drop n path k 0) (h (n + k))

-- every byte of the path is read off them
pub record HighBytes (path : List ℕ) : Type 0 where
  pub first : (k : ℕ) → k < 8 → high 8 path 0 / 256 ^ (7 - k) % 256 ≡ get_or path k 0
  pub second : (k : ℕ) → 8 ≤ k → k < 16 → high 8 (drop 8 path) 0 / 256 ^ (15 - k) % 256 ≡ get_or path k 0

pub high_bytes : (path : List ℕ) → SoundPath path → HighBytes path
high_bytes path s = record {
  first = high_pow path h;
  second = λ k l m. on k l (λ j. high 8 (drop 8 path) 0 / 256 ^ j % 256) (high_pow (drop 8 path) h' (k - 8) (omega arith));
}
  where
    h : Bytes path
    h = sound_bytes path s

    h' : Bytes (drop 8 path)
    h' = bytes_drop 8 path h

    -- place k is place k - 8 of what is behind the first eight
    on : (k : ℕ) → 8 ≤ k → (f : ℕ → ℕ) → f (7 - (k - 8)) ≡ get_or (drop 8 path) (k - 8) 0 → f (15 - k) ≡ get_or path k 0
    on k l f e =
        let p : 15 - k ≡ 7 - (k - 8) = omega arith in
        let q : 8 + (k - 8) ≡ k = omega arith in
        ap f p ∙ e ∙ get_or-drop 8 path (k - 8) 0 ∙ ap (λ (j : ℕ). get_or path j 0) q

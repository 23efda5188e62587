-- Bytes that stand in a list: parts of them, numbers read where they stand, those just written, and those that a write elsewhere leaves.
-- Assumes nothing.
use Prim.Native.Nat.{ℕ, zero, suc, ◌+◌, ◌-◌, ◌/◌, ◌^◌, ◌≤◌, ◌<◌}
use native.Mathlib.Omega.{arith}
use mathlib.Core.Path.{◌≡◌, refl, sym, ap, subst, ◌∙◌}
use mathlib.Core.Bool.{Bool, true, false, ◌&&◌}
use mathlib.Core.Logic.{◌⊎◌, inl, inr}
use mathlib.Core.List.{List, [], ◌∷◌, ◌++◌}
use lib.ListN.{length, get_or, set, length-set}
use lib.Seq.{sets, length-sets, get_or-set_same, ext_get_or}
use lib.Dec.{eqb}
use borrow.Author.Tests.{eqb-true, eq-eqb}
use Rattle.std.proofs.lemmas.Bool.{cases_lt}
use Rattle.words.specs.Words.{le_n, bytes_n, le64, bytes64}
use Rattle.words.specs.Holding.{Holds, stands}
use Rattle.words.proofs.Laws.{top}
use Rattle.words.proofs.Parts.{get_d_sets, get_or_sets_out, get_d_part, length_bytes64, bytes64_le64}

pub holds_at : (s : List ℕ) (a b : ℕ) (xs : List ℕ) → a ≡ b → Holds s a xs → Holds s b xs
holds_at s a b xs e h = subst (λ (n : ℕ). Holds s n xs) e h

pub holds_left : (s : List ℕ) (at : ℕ) (xs ys : List ℕ) → Holds s at (xs ++ ys) → Holds s at xs
unfolding Holds
holds_left s at [] ys h = tt
holds_left s at (x ∷ xs) ys h = (h.0, holds_left s (at + 1) xs ys h.1)

pub holds_right : (s : List ℕ) (at n : ℕ) (xs ys : List ℕ) → length xs ≡ n → Holds s at (xs ++ ys) → Holds s (at + n) ys
unfolding Holds
holds_right s at n [] ys e h = holds_at s at (at + n) ys (omega arith) h
holds_right s at n (x ∷ xs) ys e h = holds_at s (at + 1 + length xs) (at + n) ys (omega arith) (holds_right s (at + 1) (length xs) xs ys refl h.1)

-- the bytes of a number are read back
holds_le_n : (k : ℕ) (s : List ℕ) (at n : ℕ) → n < top k → Holds s at (bytes_n k n) → le_n k s at ≡ n
unfolding Holds bytes_n le_n top
holds_le_n zero s at n b h = omega arith
holds_le_n (suc k) s at n b h = omega (arith, h.0, holds_le_n k s (at + 1) (n / 256) (omega arith) h.1)

pub holds_le : (s : List ℕ) (at n : ℕ) → n < 2 ^ 64 → Holds s at (bytes64 n) → n ≡ le64 s at
unfolding bytes64 le64 top
holds_le s at n b h = sym (holds_le_n 8 s at n b h)

pub holds_append : (s : List ℕ) (at n : ℕ) (xs ys : List ℕ) → length xs ≡ n → Holds s at xs → Holds s (at + n) ys → Holds s at (xs ++ ys)
unfolding Holds
holds_append s at n [] ys e h g = holds_at s (at + n) at ys (omega arith) g
holds_append s at n (x ∷ xs) ys e h g =
    (h.0, holds_append s (at + 1) (length xs) xs ys refl h.1 (holds_at s (at + n) (at + 1 + length xs) ys (omega arith) g))

pub holds_get : (s : List ℕ) (at : ℕ) (xs : List ℕ) (i : ℕ) → Holds s at xs → i < length xs → get_or xs i 0 ≡ get_or s (at + i) 0
unfolding Holds
holds_get s at [] i h l = absurd (omega arith)
holds_get s at (x ∷ xs) zero h l = let z : at + 0 ≡ at = omega arith in rw z (sym h.0)
holds_get s at (x ∷ xs) (suc i) h l = let z : at + suc i ≡ at + 1 + i = omega arith in rw z (holds_get s (at + 1) xs i h.1 (omega arith))

-- the same bytes there
pub holds_ext : (s s' : List ℕ) (at : ℕ) (xs : List ℕ) → ((k : ℕ) → at ≤ k → k < at + length xs → get_or s' k 0 ≡ get_or s k 0) → Holds s at xs → Holds s' at xs
unfolding Holds
holds_ext s s' at [] f h = tt
holds_ext s s' at (x ∷ xs) f h =
    (f at (omega arith) (omega arith) ∙ h.0, holds_ext s s' (at + 1) xs (λ k a b. f k (omega arith) (omega arith)) h.1)

-- what was written stands there
pub holds_sets : (ys s : List ℕ) (at : ℕ) → at + length ys ≤ length s → Holds (sets s at ys) at ys
unfolding Holds
holds_sets [] s at h = tt
holds_sets (y ∷ ys) s at h =
    let e : suc at ≡ at + 1 = omega arith in
    let s₁ : List ℕ = set s at y in
    let n : length s₁ ≡ length s = length-set s at y in (
      get_or_sets_out ys s₁ (suc at) at (inl (omega arith)) ∙ get_or-set_same s at y 0 (omega arith),
      holds_at (sets s₁ (suc at) ys) (suc at) (at + 1) ys e (holds_sets ys s₁ (suc at) (omega arith)),
    )

-- the test says it
pub stands_holds : (s : List ℕ) (at : ℕ) (xs : List ℕ) → stands s at xs ≡ true → Holds s at xs
unfolding Holds stands
stands_holds s at [] e = tt
stands_holds s at (x ∷ xs) e = go (eqb (get_or s at 0) x) refl (stands_holds s (at + 1) xs) e
  where
    go : (o : Bool) → eqb (get_or s at 0) x ≡ o → (stands s (at + 1) xs ≡ true → Holds s (at + 1) xs) → (o && stands s (at + 1) xs) ≡ true → (get_or s at 0 ≡ x) × Holds s (at + 1) xs
    go true q ih f = (eqb-true (get_or s at 0) x q, ih f)
    go false q ih f = absurd (let z : ◌≡◌ {A = ℕ} 0 1 = cc in omega arith)

pub holds_stands : (s : List ℕ) (at : ℕ) (xs : List ℕ) → Holds s at xs → stands s at xs ≡ true
unfolding Holds stands
holds_stands s at [] h = refl
holds_stands s at (x ∷ xs) h = rw (eq-eqb (get_or s at 0) x h.0) (holds_stands s (at + 1) xs h.1)

-- byte for byte
pub holds_all : (s : List ℕ) (at : ℕ) (xs : List ℕ) → ((i : ℕ) → i < length xs → get_or xs i 0 ≡ get_or s (at + i) 0) → Holds s at xs
unfolding Holds
holds_all s at [] f = tt
holds_all s at (x ∷ xs) f =
    let z : at + 0 ≡ at = omega arith in (
      sym (f 0 (omega arith) ∙ ap (λ (k : ℕ). get_or s k 0) z),
      holds_all s (at + 1) xs (λ i l. let n : at + suc i ≡ at + 1 + i = omega arith in f (suc i) (omega arith) ∙ ap (λ (k : ℕ). get_or s k 0) n),
    )

-- a number stands where it is read
pub le_holds : (s : List ℕ) (at : ℕ) → ((k : ℕ) → get_or s k 0 < 256) → at + 8 ≤ length s → Holds s at (bytes64 (le64 s at))
le_holds s at b h = holds_all s at (bytes64 (le64 s at)) (λ i l. ap (λ (xs : List ℕ). get_or xs i 0) (sym (bytes64_le64 s at b h)) ∙ get_d_part 8 s at i (omega (arith, length_bytes64 (le64 s at))))

-- writing what stands there changes nothing
pub sets_held : (s : List ℕ) (at : ℕ) (xs : List ℕ) → at + length xs ≤ length s → Holds s at xs → sets s at xs ≡ s
sets_held s at xs h k = ext_get_or 0 (sets s at xs) s (length-sets s at xs) (λ i b. go i (cases_lt i at) (cases_lt i (at + length xs)))
  where
    go : (i : ℕ) → (i < at) ⊎ (at ≤ i) → (i < at + length xs) ⊎ (at + length xs ≤ i) → get_or (sets s at xs) i 0 ≡ get_or s i 0
    go i (inl l) o = get_or_sets_out xs s at i (inl l)
    go i (inr l) (inr o) = get_or_sets_out xs s at i (inr o)
    go i (inr l) (inl o) =
        let e : at + (i - at) ≡ i = omega arith in
        ap (λ (j : ℕ). get_or (sets s at xs) j 0) (sym e) ∙ get_d_sets xs s at (i - at) (omega arith) h ∙ holds_get s at xs (i - at) k (omega arith) ∙ ap (λ (j : ℕ). get_or s j 0) e

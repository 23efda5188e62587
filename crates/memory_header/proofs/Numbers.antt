-- Numbers written one after the other are read back, and a part of a list that is not written is as it was. Assumes nothing.
use Prim.Native.Nat.{ℕ, zero, suc, ◌+◌, ◌*◌, ◌^◌, ◌≤◌, ◌<◌}
use native.Mathlib.Nat.{not-suc-le-zero}
use native.Mathlib.Omega.{arith}
use mathlib.Core.Path.{◌≡◌, refl, sym, ◌∙◌}
use mathlib.Core.Logic.{◌⊎◌, inl, inr}
use mathlib.Core.List.{List, [], ◌∷◌, ◌++◌}
use lib.ListN.{length, get_or, take, drop, length-take, length-drop, length-append}
use lib.Seq.{sets, length-sets, ext_get_or}
use Rattle.words.specs.Words.{le64, set_le64, bytes64}
use Rattle.words.proofs.Laws.{length_set_le64, le64_set_le64}
use Rattle.words.proofs.Parts.{get_d_part, sets_append, length_bytes64, set_le64_sets, le64_sets_other, get_or_sets_out}

-- the bytes of numbers that stand one after the other
unfoldable pub numbers : List ℕ → List ℕ
numbers [] = []
numbers (v ∷ vs) = bytes64 v ++ numbers vs

pub length_numbers : (vs : List ℕ) → length (numbers vs) ≡ 8 * length vs
unfolding numbers
length_numbers [] = refl
length_numbers (v ∷ vs) = omega (arith, length-append (bytes64 v) (numbers vs), length_bytes64 v, length_numbers vs)

-- they are written number by number
pub numbers_sets : (v : ℕ) (vs xs : List ℕ) (at : ℕ) → sets xs at (numbers (v ∷ vs)) ≡ sets (set_le64 xs at v) (at + 8) (numbers vs)
unfolding numbers
numbers_sets v vs xs at =
    sets_append xs at (bytes64 v) (numbers vs)
    ∙ rw (length_bytes64 v, ← set_le64_sets xs at v) refl

-- number k of them is read back
pub number_written : (vs xs : List ℕ) (at k : ℕ) → k < length vs → get_or vs k 0 < 2 ^ 64 → at + 8 * length vs ≤ length xs
    → le64 (sets xs at (numbers vs)) (at + 8 * k) ≡ get_or vs k 0
number_written [] xs at k l s h = absurd (not-suc-le-zero l)
number_written (v ∷ vs) xs at zero l s h =
    let e : at + 8 * 0 ≡ at = omega arith in
    let ys : List ℕ = set_le64 xs at v in
    rw (numbers_sets v vs xs at, e)
    (le64_sets_other (numbers vs) ys (at + 8) at (inl (omega arith)) ∙ le64_set_le64 xs at v (omega arith) s)
number_written (v ∷ vs) xs at (suc k) l s h =
    let e : at + 8 * suc k ≡ at + 8 + 8 * k = omega arith in
    rw (numbers_sets v vs xs at, e)
    (number_written vs (set_le64 xs at v) (at + 8) k (omega arith) s (omega (arith, length_set_le64 xs at v)))

-- ---- parts

-- two lists that agree on a part have the same one
pub part_ext : (n p : ℕ) (xs ys : List ℕ) → length xs ≡ length ys → ((k : ℕ) → p ≤ k → k < p + n → get_or xs k 0 ≡ get_or ys k 0)
    → take n (drop p xs) ≡ take n (drop p ys)
part_ext n p xs ys len f =
    ext_get_or 0 _ _ (simp (length-take, length-drop) (omega arith)) (λ k l.
    let b : k < n = omega (arith, length-take n (drop p xs)) in
    get_d_part n xs p k b ∙ f (p + k) (omega arith) (omega arith) ∙ sym (get_d_part n ys p k b))

-- a part elsewhere is as it was
pub part_other : (n p : ℕ) (ys xs : List ℕ) (at : ℕ) → (p + n ≤ at) ⊎ (at + length ys ≤ p) → take n (drop p (sets xs at ys)) ≡ take n (drop p xs)
part_other n p ys xs at (inl h) = part_ext n p _ _ (length-sets xs at ys) (λ k a b. get_or_sets_out ys xs at k (inl (omega arith)))
part_other n p ys xs at (inr h) = part_ext n p _ _ (length-sets xs at ys) (λ k a b. get_or_sets_out ys xs at k (inr (omega arith)))
